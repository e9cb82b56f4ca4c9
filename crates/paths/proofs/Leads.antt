-- The slots that come next after a slot are those of the program's node.
use mathlib.Core.Path.{◌≡◌, refl, sym, ◌∙◌}
use mathlib.Core.Bool.{Bool, true, false}
use mathlib.Core.Logic.{◌⊎◌, inl, inr}
use mathlib.Core.List.{List}
use Prim.Native.Nat.{ℕ, zero, suc, ◌+◌}
use lib.IntN.{ℤ, pos, negsuc}
use Rattle.std.specs.Prelude.{Option, Some, None}
use Rattle.wire.specs.Pick.{pick}
use Rattle.insn.specs.declared.Insn.{Insn}
use Rattle.insn.specs.declared.form.Form.{Form}
use Rattle.insn.specs.declared.form.Form.TheVariants.{NoForm, WideLoad, Ldx, Stx, AluImm, AluReg, MovImm, MovReg, Ja, JeqImm, JneImm, Call, Exit}
use Rattle.shape.specs.Code.{at, form_at}
use Rattle.shape.specs.Fields.{uses}
use Rattle.shape.specs.Shape.{target, landing}
use Rattle.paths.specs.Way.{Next, on, jump}
use Rattle.paths.specs.Mask.{flow_of, node_of, node_at}

onward : ℕ → ℕ → Option ℕ
onward s zero = None
onward s (suc n) = Some (s + suc n)

on_is : (s : ℕ) (i : Insn) (f : Form) → (node_of s i (flow_of f)).on ≡ onward s (uses f).goes_on
unfolding node_of flow_of uses onward
on_is s i NoForm = refl
on_is s i WideLoad = refl
on_is s i (Ldx z) = refl
on_is s i (Stx z) = refl
on_is s i (AluImm o) = refl
on_is s i (AluReg o) = refl
on_is s i MovImm = refl
on_is s i MovReg = refl
on_is s i Ja = refl
on_is s i JeqImm = refl
on_is s i JneImm = refl
on_is s i Call = refl
on_is s i Exit = refl

to_is : (s : ℕ) (i : Insn) (f : Form) → (node_of s i (flow_of f)).to ≡ pick (uses f).jumps (landing (target s i.off)) None
unfolding node_of flow_of uses
to_is s i NoForm = refl
to_is s i WideLoad = refl
to_is s i (Ldx z) = refl
to_is s i (Stx z) = refl
to_is s i (AluImm o) = refl
to_is s i (AluReg o) = refl
to_is s i MovImm = refl
to_is s i MovReg = refl
to_is s i Ja = refl
to_is s i JeqImm = refl
to_is s i JneImm = refl
to_is s i Call = refl
to_is s i Exit = refl

module _ (b : List ℕ) (v : ℕ) where
  on_at : (node_at b v).on ≡ onward v (uses (form_at b v)).goes_on
  unfolding node_at
  on_at = on_is v (at b v) (form_at b v)

  to_at : (node_at b v).to ≡ pick (uses (form_at b v)).jumps (landing (target v (at b v).off)) None
  unfolding node_at
  to_at = to_is v (at b v) (form_at b v)

  pub leads : {w : ℕ} → Next b v w → (Some w ≡ (node_at b v).on) ⊎ (Some w ≡ (node_at b v).to)
  unfolding onward landing
  leads (on e) = inl (rw (on_at, e))
  leads (jump j e) = inr (rw (to_at, j, e))

  pub leads_on : {w : ℕ} → (node_at b v).on ≡ Some w → Next b v w
  unfolding onward
  leads_on {w} h = go (uses (form_at b v)).goes_on refl (sym on_at ∙ h)
    where
      go : (n : ℕ) → (uses (form_at b v)).goes_on ≡ n → onward v n ≡ Some w → Next b v w
      go zero e h = absurd cc
      go (suc n) e h = let q : v + suc n ≡ w = cc in rw (← q) (on e)

  pub leads_to : {w : ℕ} → (node_at b v).to ≡ Some w → Next b v w
  unfolding landing
  leads_to {w} h = go (uses (form_at b v)).jumps (target v (at b v).off) refl refl (sym to_at ∙ h)
    where
      go : (j : Bool) (z : ℤ) → (uses (form_at b v)).jumps ≡ j → target v (at b v).off ≡ z → pick j (landing z) None ≡ Some w → Next b v w
      go true (pos t) e f h = let q : t ≡ w = cc in rw (← q) (jump e f)
      go true (negsuc t) e f h = absurd cc
      go false z e f h = absurd cc
