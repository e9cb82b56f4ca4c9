-- `put_ending` puts what a terminator becomes.
use native.Mathlib.Omega.{arith}
use Rattle.insn.specs.Form.{opcode_of}
use Rattle.lower.specs.Op.{slots_of, insn, ◌▸◌}
use Rattle.lower.specs.Held.{ending_ops}
use Rattle.layout.specs.Layout.{at, ops}
use Rattle.passes.proofs.Put.{jump_reaches, branch_reaches, puts_return, puts_jump, puts_branch}
use Rattle.tracepoint.proofs.write.put_ending.Goals as goal

pub put-requires : goal.put-requires
unfolding ending_ops ◌▸◌ insn at ops slots_of
put-requires c = let room = rw c.in-Return.is at c.requires.t_bound in omega arith

pub put-requires-in-Return : goal.put-requires-in-Return
unfolding ending_ops ◌▸◌ insn at ops slots_of
put-requires-in-Return c = let room = rw c.in-Return.is at c.requires.t_bound in omega arith

pub jump-requires : goal.jump-requires
unfolding ending_ops at ops
jump-requires c = jump_reaches _ _ _ 0 _ (rw c.in-Jump.is at c.requires.t_value)

pub put-requires-in-Jump : goal.put-requires-in-Jump
unfolding ending_ops ◌▸◌ insn at ops slots_of
put-requires-in-Jump c = let room = rw c.in-Jump.is at c.requires.t_bound in omega arith

pub put-requires-in-Branch : goal.put-requires-in-Branch
unfolding ending_ops ◌▸◌ insn at ops slots_of
put-requires-in-Branch c = let room = rw c.in-Branch.is at c.requires.t_bound in omega arith

pub jump-requires-in-Branch : goal.jump-requires-in-Branch
unfolding ending_ops at ops
jump-requires-in-Branch c = (branch_reaches _ _ _ 0 _ _ _ (rw c.in-Branch.is at c.requires.t_value)).0

pub put-requires-in-Branch-2 : goal.put-requires-in-Branch-2
unfolding ending_ops ◌▸◌ insn at ops slots_of
put-requires-in-Branch-2 c = let room = rw c.in-Branch.is at c.requires.t_bound in omega arith

pub jump-requires-in-Branch-2 : goal.jump-requires-in-Branch-2
unfolding ending_ops at ops
jump-requires-in-Branch-2 c = (branch_reaches _ _ _ 0 _ _ _ (rw c.in-Branch.is at c.requires.t_value)).1

pub put-requires-in-Branch-3 : goal.put-requires-in-Branch-3
unfolding ending_ops ◌▸◌ insn at ops slots_of
put-requires-in-Branch-3 c = let room = rw c.in-Branch.is at c.requires.t_bound in omega arith

pub returns-in-Return : goal.returns-in-Return
unfolding opcode_of ending_ops ◌▸◌ insn at ops
returns-in-Return c = rw c.in-Return.is (λ rs. puts_return _ _ _ _ _ rs _ _ c.put.ensures c.put-in-Return.ensures)

pub returns-in-Jump : goal.returns-in-Jump
unfolding opcode_of ending_ops ◌▸◌ insn at ops
returns-in-Jump c = rw c.in-Jump.is (λ rs. puts_jump _ _ _ _ _ rs _ c.jump.ensures c.put-in-Jump.ensures)

pub returns-in-Branch : goal.returns-in-Branch
unfolding opcode_of ending_ops ◌▸◌ insn at ops
returns-in-Branch c = rw c.in-Branch.is (λ rs. puts_branch _ _ _ _ _ rs _ _ _ c.jump-in-Branch.ensures c.jump-in-Branch-2.ensures c.put-in-Branch.ensures c.put-in-Branch-2.ensures c.put-in-Branch-3.ensures)
