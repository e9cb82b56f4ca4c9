-- `put_fields` leaves an instruction's fields, each of which fits an i64.
use native.Mathlib.Omega.{arith}
use mir.Syntax.{w16, w32, w64}
use mir.ValLaws.{to_z_pos}
use Rattle.shurtenbo.specs.Insns.{insn_fields}
use Rattle.shurtenbo.proofs.Signed.{widens, widened}
use Rattle.shurtenbo.proofs.insns.put_fields.Goals as goal

pub overflow_cast-fields-4 : goal.overflow_cast-fields-4
overflow_cast-fields-4 c = widens w16 tt c.args.i.off (omega arith)

pub overflow_cast-fields-5 : goal.overflow_cast-fields-5
overflow_cast-fields-5 c = widens w32 tt c.args.i.imm (omega arith)

pub returns : goal.returns
unfolding insn_fields
returns c = rw (to_z_pos w64 c.args.i.code (omega arith), to_z_pos w64 c.args.i.dst (omega arith), to_z_pos w64 c.args.i.src (omega arith), widened w16 tt c.args.i.off (omega arith), widened w32 tt c.args.i.imm (omega arith))
