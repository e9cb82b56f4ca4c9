-- Slots from which every path is safe until it comes to a slot of a given set, where R6 and R10 are enough.
use mathlib.Core.Path.{◌≡◌, refl, sym, ◌∙◌}
use mathlib.Core.Bool.{Bool, true, false, true≢false}
use mathlib.Core.Logic.{◌⊎◌, inl, inr, ⊎_elim}
use mathlib.Core.List.{List}
use Prim.Native.Nat.{ℕ, suc, ◌+◌, ◌<◌}
use native.Mathlib.Omega.{arith}
use borrow.Author.Tests.{eqb-true}
use lib.Dec.{eqb, leb}
use lib.IntN.{pos}
use Rattle.wire.specs.Pick.{pick, either}
use Rattle.insn.specs.declared.Insn.{Insn}
use Rattle.insn.specs.declared.form.Form.{Form}
use Rattle.insn.specs.declared.form.Form.TheVariants.{NoForm, WideLoad, Ldx, Stx, AluImm, AluReg, MovImm, MovReg, Ja, JeqImm, JneImm, Call, Exit}
use Rattle.shape.specs.Code.{slots, at, form_at}
use Rattle.shape.specs.Fields.{uses}
use Rattle.shape.specs.Shape.{target}
use Rattle.paths.specs.Registers.{Regs, reads, at_start, with, called, after}
use Rattle.paths.specs.Way.{Next, on, jump, Way, begin, step}
use Rattle.screen.specs.Faultless.{NoPathFault}

-- ---- sets of registers

-- R6 and R10
unfoldable pub base : Regs
base r = either (eqb r 6) (eqb r 10)

pub record Under (D E : Regs) : Type 0 where
  pub at : (r : ℕ) → D r ≡ true → E r ≡ true

pub under_same : {D : Regs} → Under D D
under_same = record { at = λ r h. h }

pub under_all : {C D E : Regs} → Under C D → Under D E → Under C E
under_all p q = record { at = λ r h. q.at r (p.at r h) }

-- what holds R6 and R10
pub holds_base : {E : Regs} → E 6 ≡ true → E 10 ≡ true → Under base E
unfolding base
holds_base {E} h g = record { at = λ r. go r (eqb r 6) (eqb r 10) refl refl }
  where
    go : (r : ℕ) (x y : Bool) → eqb r 6 ≡ x → eqb r 10 ≡ y → either x y ≡ true → E r ≡ true
    go r true y e f t = rw (eqb-true r 6 e) h
    go r false true e f t = rw (eqb-true r 10 f) g
    go r false false e f t = absurd (true≢false (sym t))

with_more : (d : ℕ) {D E : Regs} → Under D E → Under (with d D) (with d E)
unfolding with
with_more d {D} {E} u = record { at = λ r. go (eqb r d) (D r) (E r) (u.at r) }
  where
    go : (x y z : Bool) → (y ≡ true → z ≡ true) → either x y ≡ true → either x z ≡ true
    go true y z h e = refl
    go false y z h e = h e

called_more : {D E : Regs} → Under D E → Under (called D) (called E)
unfolding called
called_more {D} {E} u = record { at = λ r. go (leb r 5) (eqb r 0) (D r) (E r) (u.at r) }
  where
    go : (x k y z : Bool) → (y ≡ true → z ≡ true) → pick x k y ≡ true → pick x k z ≡ true
    go true k y z h e = e
    go false k y z h e = h e

after_more : (f : Form) (i : Insn) {D E : Regs} → Under D E → Under (after f i D) (after f i E)
unfolding after
after_more NoForm i u = u
after_more WideLoad i u = with_more i.dst u
after_more (Ldx s) i u = with_more i.dst u
after_more (Stx s) i u = u
after_more (AluImm o) i u = with_more i.dst u
after_more (AluReg o) i u = with_more i.dst u
after_more MovImm i u = with_more i.dst u
after_more MovReg i u = with_more i.dst u
after_more Ja i u = u
after_more JeqImm i u = u
after_more JneImm i u = u
after_more Call i u = called_more u
after_more Exit i u = u

-- what the instruction reads is readable
pub record Ready (f : Form) (i : Insn) (E : Regs) : Type 0 where
  pub at : (r : ℕ) → reads f i r ≡ true → E r ≡ true

-- ---- safe slots

pub data Safe (b : List ℕ) (Out : ℕ → Type 0) : ℕ → Regs → Type 0 where
  out : {p : ℕ} {E : Regs} → Out p → Under base E → Safe b Out p E
  here : {p : ℕ} {E : Regs} → p < slots b → Ready (form_at b p) (at b p) E
      → ((q : ℕ) → Next b p q → Safe b Out q (after (form_at b p) (at b p) E)) → Safe b Out p E

pub widen : {b : List ℕ} {Out : ℕ → Type 0} {p : ℕ} {D E : Regs} → Safe b Out p D → Under D E → Safe b Out p E
widen (out o h) u = out o (under_all h u)
widen {b} {p = p} (here l r k) u =
    here l (record { at = λ n e. u.at n (r.at n e) }) (λ q n. widen (k q n) (after_more (form_at b p) (at b p) u))

-- the slot itself is safe, and each that comes next
pub record Inside (b : List ℕ) (Out : ℕ → Type 0) (p : ℕ) (E : Regs) : Type 0 where
  pub low : p < slots b
  pub ready : Ready (form_at b p) (at b p) E
  pub on : (q : ℕ) → Next b p q → Safe b Out q (after (form_at b p) (at b p) E)

pub inside : {b : List ℕ} {Out : ℕ → Type 0} {p : ℕ} {E : Regs} → Inside b Out p E → Safe b Out p E
inside i = here i.low i.ready i.on

-- all paths, where each slot of the set is safe itself
module _ (b : List ℕ) (Out : ℕ → Type 0) (outs : (p : ℕ) → Out p → Inside b Out p base) where
  enter : {p : ℕ} {E : Regs} → Safe b Out p E → Inside b Out p E
  enter {p} (out o h) =
      let i = outs p o in
      record { low = i.low; ready = record { at = λ r e. h.at r (i.ready.at r e) }; on = λ q n. widen (i.on q n) (after_more (form_at b p) (at b p) h) }
  enter (here l r k) = record { low = l; ready = r; on = k }

  along : Safe b Out 0 at_start → {p : ℕ} {m : Regs} → Way b p m → Inside b Out p m
  along s begin = enter s
  along s (step w h n) = enter ((along s w).on _ n)

  pub no_path_fault : Safe b Out 0 at_start → NoPathFault b
  no_path_fault s = (
    (λ p h r e m w. (along s w).ready.at r e),
    λ p. let i = along s p.1.1.0 in omega (arith, i.low, p.1.1.1),
  )

-- ---- what comes next, by the form

module _ (b : List ℕ) (s : ℕ) (f : Form) (e : form_at b s ≡ f) where
  -- a path goes on by n slots, or it jumps
  comes : {n q : ℕ} → (uses f).goes_on ≡ n → Next b s q → ((0 < n) × (q ≡ s + n)) ⊎ (((uses f).jumps ≡ true) × (target s (at b s).off ≡ pos q))
  comes w (on {n = k} h) =
      let z : (uses f).goes_on ≡ suc k = rw e at h in
      inl (omega arith, omega arith)
  comes w (jump h t) = inr (rw e at h, t)

  pub goes_on : {n q : ℕ} → (uses f).goes_on ≡ n → (uses f).jumps ≡ false → Next b s q → q ≡ s + n
  goes_on w j h = ⊎_elim (λ p. p.1) (λ p. absurd (true≢false (sym p.0 ∙ j))) (comes w h)

  pub stops : {q : ℕ} → (uses f).goes_on ≡ 0 → (uses f).jumps ≡ false → Next b s q → ⊥
  stops w j h = ⊎_elim (λ p. omega (arith, p.0)) (λ p. true≢false (sym p.0 ∙ j)) (comes w h)

  pub jumps_to : {q t : ℕ} → (uses f).goes_on ≡ 0 → target s (at b s).off ≡ pos t → Next b s q → q ≡ t
  jumps_to w g h = ⊎_elim (λ p. absurd (omega (arith, p.0))) (λ p. let z = sym p.1 ∙ g in cc) (comes w h)

  pub branches_to : {q t : ℕ} → (uses f).goes_on ≡ 1 → target s (at b s).off ≡ pos t → Next b s q → (q ≡ s + 1) ⊎ (q ≡ t)
  branches_to w g h = ⊎_elim (λ p. inl p.1) (λ p. let z = sym p.1 ∙ g in inr (cc)) (comes w h)
