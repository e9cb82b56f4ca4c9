-- `target` is the sum of the slot after the jump and the jump's offset, where that is no number below 0.
use Rattle.std.proofs.Common.{◌≡◌, ℕ, suc, ◌^◌, Result, Ok, Err, ap, refl, ◌∙◌, arith}
use Rattle.std.specs.Prelude.{ℤ, pos, negsuc, ◌+ℤ◌, ◌<ℤ◌, unsigned_abs}
use Rattle.std.specs.Int.{FitsUnsignedBits}
use Rattle.std.specs.Result.{OkIff, result_ok}
use Rattle.std.proofs.lemmas.Int.{ints}
use Rattle.std.specs.Prelude.{Some}
use Rattle.shape.specs.Shape.{target, landing}
use Rattle.shape.proofs.slot.target.Goals as goal

landed : {E : Type 0} (z : ℤ) (r : Result ℕ E) → (z <ℤ pos (2 ^ 64)) → OkIff r (FitsUnsignedBits 64 z) (unsigned_abs z) → result_ok r ≡ landing z
unfolding landing
landed (pos n) (Err e) few h = absurd (h (omega (arith, ints, few)))
landed (pos n) (Ok x) few h = ap Some h.1
landed (negsuc n) (Err e) few h = refl
landed (negsuc n) (Ok x) few h = absurd h.0

pub returns : goal.returns
unfolding target
returns c = c.ok.ensures.value ∙ landed (pos (suc c.args.slot.0) +ℤ c.args.off) c.try_from.result (omega (arith, ints)) (grind (arith, ints, c.try_from.ensures))
