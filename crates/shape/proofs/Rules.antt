-- What a fine instruction keeps: the rules 32 to 36, and where a path goes from it.
use mathlib.Core.Path.{◌≡◌, refl, sym, ap, ◌∙◌}
use mathlib.Core.Bool.{Bool, true, false, true≢false}
use mathlib.Core.Logic.{◌↔◌}
use mathlib.Core.List.{List, [], ◌∷◌}
use Prim.Native.Nat.{ℕ, zero, suc, ◌+◌, ◌/◌, ◌%◌, ◌<◌, ◌≤◌}
use native.Mathlib.Nat.{add-zero}
use native.Mathlib.Numerals.{add-one}
use native.Mathlib.Omega.{arith}
use lib.Dec.{eqb, leb}
use lib.IntN.{ℤ, pos, negsuc}
use lib.ListN.{get_or}
use borrow.Author.Tests.{eqb-true, leb-true, ltb-true, eq-eqb}
use Rattle.wire.specs.Pick.{pick, both, implies, not}
use Rattle.wire.specs.Le.{byte_at}
use Rattle.wire.specs.Number.{bytes_before}
use Rattle.insn.specs.Layout.{insn_at}
use Rattle.insn.specs.Form.{form_of, sizes, with_constant, with_register, jumps}
use Rattle.insn.specs.Rfc.{size_field}
use Rattle.insn.specs.declared.form.Size.TheVariants.{B}
use Rattle.insn.specs.declared.form.Form.{Form}
use Rattle.insn.specs.declared.form.Form.TheVariants.{NoForm, WideLoad, Ldx, Stx, AluImm, AluReg, MovImm, MovReg, Ja, JeqImm, JneImm, Call, Exit}
use Rattle.shape.specs.Code.{slots, at, form_at, wide, start}
use Rattle.shape.specs.Fields.{uses}
use Rattle.shape.specs.Shape.{known, registers_ok, unused_zero, access_ok, target, is_start, first_broken, shape_of, shape_at}
use Rattle.shape.specs.declared.Shape.TheVariants as S
use Rattle.shape.proofs.Tests.{both_true, three_true, implied}
use Rattle.shape.proofs.Starts.{start_narrow, start_wide}
use Rattle.std.specs.Prelude.{Ok}

-- ---- the five rules

pub record Rules (b : List ℕ) (s : ℕ) : Type 0 where
  pub form : known b s (uses (form_at b s)).kind ≡ true
  pub registers : registers_ok (at b s) (uses (form_at b s)) ≡ true
  pub unused : unused_zero (at b s) (uses (form_at b s)) ≡ true
  pub access : access_ok (at b s) (uses (form_at b s)).kind ≡ true
  pub jump : implies (uses (form_at b s)).jumps (is_start b (target s (at b s).off)) ≡ true

none_broken : (k r u a t : Bool) → first_broken k r u a t ≡ Ok tt → (k ≡ true) × (r ≡ true) × (u ≡ true) × (a ≡ true) × (t ≡ true)
unfolding first_broken
none_broken true true true true true e = (refl, refl, refl, refl, refl)
none_broken true true true true false e = let z : ◌≡◌ {A = ℕ} 0 1 = cc in absurd (omega arith)
none_broken true true true false t e = let z : ◌≡◌ {A = ℕ} 0 1 = cc in absurd (omega arith)
none_broken true true false a t e = let z : ◌≡◌ {A = ℕ} 0 1 = cc in absurd (omega arith)
none_broken true false u a t e = let z : ◌≡◌ {A = ℕ} 0 1 = cc in absurd (omega arith)
none_broken false r u a t e = let z : ◌≡◌ {A = ℕ} 0 1 = cc in absurd (omega arith)

pub fine_rules : (b : List ℕ) (s : ℕ) → shape_at b s ≡ Ok tt → Rules b s
unfolding shape_at shape_of
fine_rules b s e =
    let p = none_broken _ _ _ _ _ e in
    record { form = p.0; registers = p.1; unused = p.2; access = p.3; jump = p.4 }

pub rules_fine : (b : List ℕ) (s : ℕ) → Rules b s → shape_at b s ≡ Ok tt
unfolding shape_at shape_of first_broken
rules_fine b s R = rw (R.form, R.registers, R.unused, R.access, R.jump)

-- ---- the wide form, by the first byte

-- no form of a list is wide
narrow : Form → Bool
narrow WideLoad = false
narrow NoForm = true
narrow (Ldx s) = true
narrow (Stx s) = true
narrow (AluImm o) = true
narrow (AluReg o) = true
narrow MovImm = true
narrow MovReg = true
narrow Ja = true
narrow JeqImm = true
narrow JneImm = true
narrow Call = true
narrow Exit = true

all_narrow : List Form → Bool
all_narrow [] = true
all_narrow (f ∷ l) = both (narrow f) (all_narrow l)

narrow_at : (l : List Form) (n : ℕ) → all_narrow l ≡ true → narrow (get_or l n NoForm) ≡ true
unfolding narrow all_narrow
narrow_at [] n e = refl
narrow_at (f ∷ l) zero e = (both_true (narrow f) (all_narrow l) e).0
narrow_at (f ∷ l) (suc n) e = narrow_at l n (both_true (narrow f) (all_narrow l) e).1

narrow_pick : (t : Bool) (f g : Form) → narrow f ≡ true → narrow g ≡ true → narrow (pick t f g) ≡ true
narrow_pick true f g p q = p
narrow_pick false f g p q = q

-- a byte other than 0x18 has no wide form
wide_byte : (c : ℕ) → form_of c ≡ WideLoad → c ≡ 0x18
unfolding form_of size_field sizes with_constant with_register jumps narrow all_narrow
wide_byte c e = go (eqb (c % 8) 0) refl (eqb (c / 32) 0) refl (eqb (c / 8 % 4) 3) refl e
  where
    rest : Form
    rest =
        pick (eqb (c % 8) 1) (pick (eqb (c / 32) 3) (Ldx (get_or sizes (c / 8 % 4) B)) NoForm)
        (pick (eqb (c % 8) 3) (pick (eqb (c / 32) 3) (Stx (get_or sizes (c / 8 % 4) B)) NoForm)
        (pick (eqb (c % 8) 7) (pick (eqb (c / 8 % 2) 0) (get_or with_constant (c / 16) NoForm) (get_or with_register (c / 16) NoForm))
        (pick (eqb (c % 8) 5) (pick (eqb (c / 8 % 2) 0) (get_or jumps (c / 16) NoForm) NoForm) NoForm)))

    narrow_rest : narrow rest ≡ true
    narrow_rest =
        narrow_pick (eqb (c % 8) 1) _ _ (narrow_pick (eqb (c / 32) 3) _ _ refl refl)
        (narrow_pick (eqb (c % 8) 3) _ _ (narrow_pick (eqb (c / 32) 3) _ _ refl refl)
        (narrow_pick (eqb (c % 8) 7) _ _ (narrow_pick (eqb (c / 8 % 2) 0) _ _ (narrow_at with_constant (c / 16) refl) (narrow_at with_register (c / 16) refl))
        (narrow_pick (eqb (c % 8) 5) _ _ (narrow_pick (eqb (c / 8 % 2) 0) _ _ (narrow_at jumps (c / 16) refl) refl) refl)))

    go : (x : Bool) → eqb (c % 8) 0 ≡ x → (y : Bool) → eqb (c / 32) 0 ≡ y → (z : Bool) → eqb (c / 8 % 4) 3 ≡ z
        → pick x (pick y (pick z WideLoad NoForm) NoForm) rest ≡ WideLoad → c ≡ 0x18
    go true p true q true r e = omega (arith, eqb-true (c % 8) 0 p, eqb-true (c / 32) 0 q, eqb-true (c / 8 % 4) 3 r)
    go true p true q false r e = let z : true ≡ false = ap narrow e in absurd (true≢false z)
    go true p false q z r e = let z : true ≡ false = ap narrow e in absurd (true≢false z)
    go false p y q z r e =
        absurd (true≢false (sym narrow_rest ∙ ap narrow e))

pub wide_form : (b : List ℕ) (s : ℕ) → (wide b s ≡ true) ↔ (form_at b s ≡ WideLoad)
unfolding wide form_at at insn_at form_of size_field
wide_form b s = ((λ e. ap form_of (eqb-true (byte_at b (bytes_before s)) 0x18 e)), λ e. eq-eqb _ _ (wide_byte (byte_at b (bytes_before s)) e))

not_wide : (b : List ℕ) (s : ℕ) → narrow (form_at b s) ≡ true → wide b s ≡ false
unfolding narrow
not_wide b s n = go (wide b s) refl
  where
    go : (t : Bool) → wide b s ≡ t → t ≡ false
    go true e = absurd (true≢false (sym n ∙ ap narrow ((wide_form b s).0 e)))
    go false e = refl

-- ---- what each rule gives

module _ (b : List ℕ) (s : ℕ) (R : Rules b s) where
  -- 32
  pub has_form : form_at b s ≡ NoForm → ⊥
  unfolding uses known
  has_form e = true≢false (sym (rw e at R.form))

  -- a wide form is not cut
  whole : wide b s ≡ true → suc s < slots b
  unfolding uses known
  whole e = ltb-true _ _ (both_true _ _ (rw ((wide_form b s).0 e) at R.form)).0

  -- 33
  register_parts : (implies (uses (form_at b s)).dst (leb (at b s).dst 10) ≡ true) × (implies (uses (form_at b s)).src (leb (at b s).src 10) ≡ true) × (implies (uses (form_at b s)).writes (not (eqb (at b s).dst 10)) ≡ true)
  unfolding registers_ok
  register_parts = three_true _ _ _ R.registers

  pub dst_most : (uses (form_at b s)).dst ≡ true → (at b s).dst ≤ 10
  dst_most h = leb-true _ _ (implied _ _ register_parts.0 h)

  pub src_most : (uses (form_at b s)).src ≡ true → (at b s).src ≤ 10
  src_most h = leb-true _ _ (implied _ _ register_parts.1 h)

  -- 36
  pub jumps_to : (uses (form_at b s)).jumps ≡ true → (t : ℕ) × (target s (at b s).off ≡ pos t) × (t < slots b) × (start b t ≡ true)
  unfolding is_start
  jumps_to h = go (target s (at b s).off) refl (implied _ _ R.jump h)
    where
      go : (z : ℤ) → target s (at b s).off ≡ z → is_start b z ≡ true → (t : ℕ) × (target s (at b s).off ≡ pos t) × (t < slots b) × (start b t ≡ true)
      go (pos t) e h = let p = both_true _ _ h in (t, e, ltb-true _ _ p.0, p.1)
      go (negsuc t) e h = absurd (true≢false (sym h))

  -- where a path goes on it comes to a start, or past the last slot
  pub goes_to : start b s ≡ true → s < slots b → (start b (s + (uses (form_at b s)).goes_on) ≡ true) × (s + (uses (form_at b s)).goes_on ≤ slots b)
  unfolding uses narrow
  goes_to h l = go (form_at b s) refl
    where
      stays : (start b (s + 0) ≡ true) × (s + 0 ≤ slots b)
      stays = rw add-zero (h, omega arith)

      wide_on : wide b s ≡ true → (start b (s + 2) ≡ true) × (s + 2 ≤ slots b)
      wide_on e = let q : s + 2 ≡ suc (suc s) = omega arith in rw q (start_wide b s h e, whole e)

      one_on : narrow (form_at b s) ≡ true → (start b (s + 1) ≡ true) × (s + 1 ≤ slots b)
      one_on n = rw add-one (start_narrow b s h (not_wide b s n), omega arith)

      go : (f : Form) → form_at b s ≡ f → (start b (s + (uses f).goes_on) ≡ true) × (s + (uses f).goes_on ≤ slots b)
      go NoForm e = stays
      go WideLoad e = wide_on ((wide_form b s).1 e)
      go (Ldx w) e = one_on (ap narrow e)
      go (Stx w) e = one_on (ap narrow e)
      go (AluImm o) e = one_on (ap narrow e)
      go (AluReg o) e = one_on (ap narrow e)
      go MovImm e = one_on (ap narrow e)
      go MovReg e = one_on (ap narrow e)
      go Ja e = stays
      go JeqImm e = one_on (ap narrow e)
      go JneImm e = one_on (ap narrow e)
      go Call e = one_on (ap narrow e)
      go Exit e = stays
