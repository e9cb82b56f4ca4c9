-- `refused` leaves a refusal's numbers.
use native.Mathlib.Omega.{arith}
use mir.Syntax.{w64}
use Rattle.wire.proofs.Sign.{back}
use Rattle.shurtenbo.specs.Answer.{numbers_of}
use Rattle.shurtenbo.proofs.answer.refused.Goals as goal

pub returns : goal.returns
unfolding numbers_of
returns c = rw (c.bits64.ensures, back w64 c.args.r.value (omega arith))
