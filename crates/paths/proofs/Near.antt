-- How far from a slot the slots lie that come next.
use mathlib.Core.Path.{◌≡◌, refl, sym}
use mathlib.Core.Bool.{Bool, true, false}
use mathlib.Core.List.{List}
use Prim.Native.Nat.{ℕ, suc, ◌+◌, ◌-◌, ◌*◌, ◌≤◌, ◌<◌}
use native.Mathlib.Omega.{arith}
use lib.Dec.{ltb}
use borrow.Author.Tests.{ltb-true}
use lib.IntN.{ℤ, pos, negsuc, pos-ne-negsuc}
use mir.Syntax.{w16}
use mir.Val.{sel}
use Rattle.wire.specs.Le.{signed_at, unsigned_at}
use Rattle.insn.specs.Layout.{insn_at}
use Rattle.insn.specs.declared.form.Form.{Form}
use Rattle.insn.specs.declared.form.Form.TheVariants.{NoForm, WideLoad, Ldx, Stx, AluImm, AluReg, MovImm, MovReg, Ja, JeqImm, JneImm, Call, Exit}
use Rattle.shape.specs.Code.{at, form_at}
use Rattle.shape.specs.Fields.{uses}
use Rattle.shape.specs.Shape.{target}
use Rattle.paths.specs.Way.{Next, on, jump}

goes_most : (f : Form) → (uses f).goes_on ≤ 2
unfolding uses
goes_most NoForm = omega arith
goes_most WideLoad = omega arith
goes_most (Ldx s) = omega arith
goes_most (Stx s) = omega arith
goes_most (AluImm o) = omega arith
goes_most (AluReg o) = omega arith
goes_most MovImm = omega arith
goes_most MovReg = omega arith
goes_most Ja = omega arith
goes_most JeqImm = omega arith
goes_most JneImm = omega arith
goes_most Call = omega arith
goes_most Exit = omega arith

target_most : (v : ℕ) (z : ℤ) {t : ℕ} → ((n : ℕ) → z ≡ pos n → n < 32768) → target v z ≡ pos t → t ≤ v + 32768
unfolding target
target_most v (pos n) {t} h e = let l = h n refl in let q : suc v + n ≡ t = cc in omega arith
target_most v (negsuc n) {t} h e = go (ltb (suc v) (suc n)) e
  where
    go : (p : Bool) → sel p (negsuc (suc n - suc (suc v))) (pos (suc v - suc n)) ≡ pos t → t ≤ v + 32768
    go true e = absurd (pos-ne-negsuc t _ (sym e))
    go false e = let q : suc v - suc n ≡ t = cc in omega arith

off_most : (b : List ℕ) (v n : ℕ) → (at b v).off ≡ pos n → n < 32768
unfolding at insn_at signed_at
off_most b v n e = go (ltb (unsigned_at w16 b (8 * v + 2)) 32768) refl e
  where
    x : ℕ
    x = unsigned_at w16 b (8 * v + 2)

    go : (p : Bool) → ltb x 32768 ≡ p → sel p (pos x) (negsuc (65536 - suc x)) ≡ pos n → n < 32768
    go true l e = let q : x ≡ n = cc in omega (arith, ltb-true x 32768 l)
    go false l e = absurd (pos-ne-negsuc n _ (sym e))

pub near : (b : List ℕ) (v : ℕ) {w : ℕ} → Next b v w → w ≤ v + 32768
near b v (on {n} e) = omega (arith, goes_most (form_at b v), e)
near b v (jump j e) = target_most v (at b v).off (λ n q. off_most b v n q) e
