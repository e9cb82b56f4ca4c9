-- A unit's whole code: what is judged before the paths, and slot 0.
use mathlib.Core.Path.{◌≡◌, sym, ap, ◌∙◌}
use mathlib.Core.Bool.{true}
use mathlib.Core.List.{List, [], ◌∷◌, ◌++◌}
use Prim.Native.Nat.{ℕ, ◌<◌, ◌≤◌}
use native.Mathlib.Omega.{arith}
use lib.IntN.{pos}
use lib.ListN.{length}
use Rattle.insn.specs.Form.{opcode_of, form_of}
use Rattle.insn.specs.declared.Insn.{Insn}
use Rattle.insn.specs.declared.form.Form.TheVariants.{MovReg}
use Rattle.unitfile.specs.Unit.{BasicBlock}
use Rattle.lower.specs.Op.{Op, plain, insn, slots_of}
use Rattle.lower.specs.Operand.{move}
use Rattle.layout.specs.Layout.{laid, at as placed, Context, blocks, unit_ops}
use Rattle.layout.specs.Jumps.{Start}
use Rattle.layout.specs.Code.{insns, code_bytes, relocations}
use Rattle.layout.proofs.Written.{insns_count}
use Rattle.shape.specs.Code.{slots}
use Rattle.shape.specs.Fields.{uses}
use Rattle.shape.specs.Relocations.{wide_offsets, relocations as listed}
use Rattle.shape.specs.Shapes.{length_ok, judged}
use Rattle.shape.specs.declared.Shapes.TheVariants as Ss
use Rattle.shape.proofs.Starts.{start_first}
use Rattle.shape.proofs.Judged.{fine_judged}
use Rattle.ours.proofs.Seen.{stands_all, slots_count, length_fine}
use Rattle.ours.proofs.Standing.{Narrow, Here, relocs_exact}
use Rattle.ours.proofs.Pieces.{Kept, Keeps}
use Rattle.ours.proofs.Steps.{slim, made, keeps_move}
use Rattle.ours.proofs.Blocks.{split}
use Rattle.std.specs.Prelude.{Ok}

-- slot 0: R6 = R1
abbrev pub first : Insn
first = made (opcode_of MovReg) 6 1 (pos 0) (pos 0)

pub keeps_first : Keeps first MovReg first
keeps_first = keeps_move 6 1 (omega arith) (omega arith)

-- a unit's operations are slot 0 and then its blocks
pub record UnitParts (c : Context) (bs : List BasicBlock) (l : List Op) : Type 0 where
  pub rest : List Op
  pub is : l ≡ plain first ∷ rest
  pub others : blocks c 0 bs ≡ laid rest

pub unit_parts : (c : Context) (bs : List BasicBlock) (l : List Op) → unit_ops c bs ≡ laid l → UnitParts c bs l
unfolding unit_ops placed move insn
unit_parts c bs l e =
    let m = split (laid (plain first ∷ [])) (blocks c 0 bs) l e in
    let q : plain first ∷ [] ≡ m.first = cc in
    record { rest = m.second; is = m.is ∙ ap (λ (y : List Op). y ++ m.second) (sym q); others = m.behind }

pub first_narrow : (uses (form_of (opcode_of MovReg))).goes_on ≤ 1
unfolding uses
first_narrow = slim MovReg (omega arith)

-- ---- what is judged before the paths

module _ (xs : List Start) (l : List Op) where
  abbrev pub code : List ℕ
  code = code_bytes (insns xs 0 l)

  pub code_slots : slots code ≡ slots_of l
  code_slots = slots_count (insns xs 0 l) ∙ insns_count xs 0 l

  pub whole : Here code xs 0 l
  whole = record { stands = stands_all (insns xs 0 l); begins = start_first code }

  pub length_right : 0 < slots_of l → slots_of l ≤ 131072 → length_ok code ≡ true
  length_right h r = let n = insns_count xs 0 l in length_fine (insns xs 0 l) (omega arith) (omega arith)

  pub judged_right : 0 < slots_of l → slots_of l ≤ 131072 → Narrow l → Kept code 0 (slots_of l) → judged code (relocations 0 l) ≡ Ok tt
  unfolding listed wide_offsets
  judged_right h r n k =
      fine_judged code (relocations 0 l)
      (record {
        length = length_right h r;
        each = λ s m t. k.each s (omega arith) (omega (arith, code_slots)) t;
        relocs = rw code_slots (relocs_exact code xs 0 0 l n whole);
      })
