-- Slot 0 alone: its shape is fine, and its path passes the last slot.
use mathlib.Core.Path.{◌≡◌, refl, ap, ◌∙◌, subst}
use mathlib.Core.Bool.{true}
use mathlib.Core.List.{List, [], ◌∷◌}
use Prim.Native.Nat.{ℕ, ◌<◌}
use native.Mathlib.Omega.{arith}
use borrow.Author.Tests.{eqb-true}
use Rattle.insn.specs.declared.form.Form.TheVariants.{MovReg}
use Rattle.lower.specs.Op.{plain, slots_of}
use Rattle.layout.specs.Jumps.{Start}
use Rattle.layout.specs.Code.{insns, relocations}
use Rattle.shape.specs.Code.{slots, at, form_at}
use Rattle.shape.specs.Fields.{uses}
use Rattle.shape.specs.Shapes.{judged}
use Rattle.shape.specs.declared.Shapes.TheVariants as Ss
use Rattle.paths.specs.Registers.{Regs, reads, at_start}
use Rattle.paths.specs.Way.{on, Way, begin, step, Clear, Passes}
use Rattle.screen.specs.declared.Fault.TheVariants.{PastEnd}
use Rattle.screen.specs.Verdict.{Judged, past}
use Rattle.ours.proofs.Safe.{goes_on}
use Rattle.ours.proofs.Pieces.{kept_none, kept_cons, has_form, as_seen, fine_here}
use Rattle.ours.proofs.Whole.{first, keeps_first, first_narrow, code, code_slots, whole, judged_right}
use Rattle.std.specs.Prelude.{Err, Ok}

module _ (xs : List Start) where
  abbrev pub alone : List ℕ
  alone = code xs (plain first ∷ [])

  pub one_slot : slots alone ≡ 1
  unfolding slots_of
  one_slot = code_slots xs (plain first ∷ [])

  alone_form : form_at alone 0 ≡ MovReg
  unfolding insns
  alone_form = has_form alone 0 keeps_first (whole xs (plain first ∷ [])).stands.0

  alone_seen : at alone 0 ≡ first
  unfolding insns
  alone_seen = as_seen alone 0 keeps_first (whole xs (plain first ∷ [])).stands.0

  pub alone_judged : judged alone [] ≡ Ok tt
  unfolding slots_of relocations insns uses
  alone_judged = judged_right xs (plain first ∷ []) (omega arith) (omega arith) (first_narrow, tt) (kept_cons (fine_here alone 0 keeps_first (whole xs (plain first ∷ [])).stands.0 refl) kept_none)

  -- no path comes back to slot 0
  at_zero : {p : ℕ} {m : Regs} → Way alone p m → p ≡ 0 → m 1 ≡ true
  unfolding at_start uses
  at_zero begin e = refl
  at_zero (step {s} w h n) e =
      let z : s ≡ 0 = omega (arith, one_slot) in
      absurd (omega (arith, goes_on alone s MovReg (ap (form_at alone) z ∙ alone_form) refl refl n))

  alone_clear : (s : ℕ) → s < slots alone → Clear alone s
  unfolding reads
  alone_clear s h r e m w =
      let z : s ≡ 0 = omega (arith, one_slot) in
      let q : r ≡ 1 = eqb-true r 1 (rw (z, alone_form, alone_seen) at e) in
      rw q (at_zero w z)

  alone_passes : Passes alone
  unfolding uses
  alone_passes = (1, (_, (step begin (omega (arith, one_slot)) (on {n = 0} (rw alone_form)), omega (arith, one_slot))))

  pub alone_past : Judged alone (Err (PastEnd 1))
  alone_past = subst (λ (n : ℕ). Judged alone (Err (PastEnd n))) one_slot (past alone_clear alone_passes)
