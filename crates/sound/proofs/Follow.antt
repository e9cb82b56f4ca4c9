-- One step of the machine goes where a path goes, and writes what the path's mask says.
use mathlib.Core.Path.{◌≡◌, refl}
use mathlib.Core.Bool.{Bool, true, false}
use mathlib.Core.List.{List, [], ◌∷◌}
use Prim.Native.Nat.{ℕ, suc}
use native.Mathlib.Decide.{ℕ_discrete}
use native.Mathlib.Numerals.{add-one, add-two}
use native.Mathlib.Omega.{arith}
use lib.Dec.{eqb, leb}
use lib.IntN.{ℤ, pos}
use borrow.Author.Tests.{eqb-true, leb-true, leb-false, eq-eqb}
use Rattle.wire.specs.Pick.{pick, either}
use Rattle.insn.specs.declared.Insn.{Insn}
use Rattle.insn.specs.declared.form.Form.{Form}
use Rattle.insn.specs.declared.form.Form.TheVariants.{NoForm, WideLoad, Ldx, Stx, AluImm, AluReg, MovImm, MovReg, Ja, JeqImm, JneImm, Call, Exit}
use Rattle.shape.specs.Fields.{uses}
use Rattle.shape.specs.Shape.{target}
use Rattle.paths.specs.Registers.{Regs, at_start, with, called, after}
use Rattle.paths.specs.Way.{Ahead, on as goes, jump as jumps}
use Rattle.machine.specs.Word.{word}
use Rattle.machine.specs.Memory.{Memory, reg}
use Rattle.machine.specs.Turn.{Answer, Effect, keeps, writes, frame, calls, Out, on, returns, stuck, Turn, jump, turn_of, given}
use Rattle.machine.proofs.Tests.{by_test}
use Rattle.sound.specs.Written.{Written, Wrote, Took, context, pointer, now, since}
use Rattle.sound.specs.OnWay.{Tells}

-- ---- a path's mask tells what the run has written

pub tells_first : Tells at_start []
unfolding at_start
tells_first = record { at = λ r. (there r (eqb r 1) refl, back r) }
  where
    there : (r : ℕ) (x : Bool) → eqb r 1 ≡ x → either x (eqb r 10) ≡ true → Written r []
    there r true q e = context (omega (arith, eqb-true r 1 q))
    there r false q e = pointer (omega (arith, eqb-true r 10 e))

    back : (r : ℕ) → Written r [] → either (eqb r 1) (eqb r 10) ≡ true
    back r (context e) = rw e
    back r (pointer e) = rw e

module _ {k : Regs} {h : List Effect} (T : Tells k h) where
  -- a step that writes no register, and is no call
  same : (e : Effect) → ((r : ℕ) → Wrote e r → ⊥) → ((r : ℕ) → Took e r → ⊥) → Tells k (e ∷ h)
  same e none kept = record { at = λ r. (λ q. since ((T.at r).0 q) (kept r), back r) }
    where
      back : (r : ℕ) → Written r (e ∷ h) → k r ≡ true
      back r (now w) = absurd (none r w)
      back r (since w s) = (T.at r).1 w

  wrote : (d v : ℕ) → Tells (with d k) (writes d v ∷ h)
  unfolding with
  wrote d v = record { at = λ r. (there r (eqb r d) refl, back r) }
    where
      there : (r : ℕ) (x : Bool) → eqb r d ≡ x → either x (k r) ≡ true → Written r (writes d v ∷ h)
      there r true q e = now (eqb-true r d q)
      there r false q e = since ((T.at r).0 e) (λ z. z)

      back : (r : ℕ) → Written r (writes d v ∷ h) → either (eqb r d) (k r) ≡ true
      back r (now w) = rw (eq-eqb r d w)
      back r (since w s) = or_else (eqb r d) ((T.at r).1 w)
        where
          or_else : (x : Bool) → k r ≡ true → either x (k r) ≡ true
          or_else true e = refl
          or_else false e = e

  has_called : (a : Answer) → Tells (called k) (calls a ∷ h)
  unfolding called
  has_called a = record { at = λ r. (there r (leb r 5) refl, back r (leb r 5) refl) }
    where
      above : (r : ℕ) → leb r 5 ≡ false → Took (calls a) r → ⊥
      above r q p = omega (arith, leb-false r 5 q)

      there : (r : ℕ) (x : Bool) → leb r 5 ≡ x → pick x (eqb r 0) (k r) ≡ true → Written r (calls a ∷ h)
      there r true q e = now (eqb-true r 0 e)
      there r false q e = since ((T.at r).0 e) (above r q)

      back : (r : ℕ) (x : Bool) → leb r 5 ≡ x → Written r (calls a ∷ h) → pick x (eqb r 0) (k r) ≡ true
      back r true q (now w) = eq-eqb r 0 w
      back r true q (since w s) = go (ℕ_discrete r 0)
        where
          go : Dec (r ≡ 0) → eqb r 0 ≡ true
          go (yes z) = eq-eqb r 0 z
          go (no z) = absurd (s (omega arith, leb-true r 5 q))
      back r false q (now w) = absurd (omega (arith, leb-false r 5 q))
      back r false q (since w s) = (T.at r).1 w

-- ---- where a step leads

-- on at a slot to which a path goes, with what the path's mask then tells; or to an end
abbrev pub Leads : Form → Insn → ℕ → Out → Type 0
Leads f i s (on t e) = Ahead f i s t × ((k : Regs) (h : List Effect) → Tells k h → Tells (after f i k) (e ∷ h))
Leads f i s (returns v) = Unit {0}
Leads f i s stuck = ⊥

module _ (i : Insn) (s : ℕ) where
  one : (f : Form) → (uses f).goes_on ≡ 1 → Ahead f i s (suc s)
  one f e = rw (← (add-one s)) (goes e)

  -- the step that writes the destination and goes on
  write : (f : Form) → (uses f).goes_on ≡ 1 → ((k : Regs) → after f i k ≡ with i.dst k) → (v : ℕ) → Leads f i s (on (suc s) (writes i.dst v))
  write f n e v = (one f n, λ k h T. rw (e k) (wrote T i.dst v))

  keep : (f : Form) → ((k : Regs) → after f i k ≡ k) → (e : Effect) → ((r : ℕ) → Wrote e r → ⊥) → ((r : ℕ) → Took e r → ⊥) → (t : ℕ) → Ahead f i s t → Leads f i s (on t e)
  keep f same-mask e none kept t n = (n, λ k h T. rw (same-mask k) (same T e none kept))

  abbrev Lands : Form → Type 0
  Lands f = (uses f).jumps ≡ true → (t : ℕ) × (target s i.off ≡ pos t)

  land : (f : Form) → ((k : Regs) → after f i k ≡ k) → (uses f).jumps ≡ true → Lands f → Leads f i s (jump (target s i.off))
  unfolding jump
  land f same-mask j l =
      let L = l j in
      rw L.1 (keep f same-mask keeps (λ r z. z) (λ r z. z) L.0 (jumps j L.1))

  -- a conditional jump that is not taken
  fall : (f : Form) → ((k : Regs) → after f i k ≡ k) → (uses f).goes_on ≡ 1 → Leads f i s (on (suc s) keeps)
  fall f same-mask n = keep f same-mask keeps (λ r z. z) (λ r z. z) (suc s) (one f n)

  wide : (v : ℕ) → Leads WideLoad i s (on (suc (suc s)) (writes i.dst v))
  unfolding uses after
  wide v = (rw (← (add-two s)) (goes refl), λ k h T. wrote T i.dst v)

  pub leads : (p : ℕ) (f : Form) (high : ℤ) (a : Answer) (m : Memory) → (f ≡ NoForm → ⊥) → Lands f → Leads f i s (given a (turn_of p f i high s m))
  unfolding uses after turn_of given
  leads p NoForm high a m some l = absurd (some refl)
  leads p WideLoad high a m some l = by_test (λ (t : Turn). Leads WideLoad i s (given a t)) (eqb i.src 0) _ _ (wide _) (wide _)
  leads p (Ldx w) high a m some l =
      by_test (λ (t : Turn). Leads (Ldx w) i s (given a t)) (eqb i.src 10) _ _ (write (Ldx w) refl (λ k. refl) _) (write (Ldx w) refl (λ k. refl) _)
  leads p (Stx w) high a m some l =
      let stores : (c : ℕ → ℕ) → Leads (Stx w) i s (on (suc s) (frame c)) = λ c. keep (Stx w) (λ k. refl) (frame c) (λ r z. z) (λ r z. z) (suc s) (one (Stx w) refl) in
      by_test (λ (t : Turn). Leads (Stx w) i s (given a t)) (eqb i.dst 10) _ _ (stores _) (stores _)
  leads p (AluImm o) high a m some l = write (AluImm o) refl (λ k. refl) _
  leads p (AluReg o) high a m some l = write (AluReg o) refl (λ k. refl) _
  leads p MovImm high a m some l = write MovImm refl (λ k. refl) _
  leads p MovReg high a m some l = write MovReg refl (λ k. refl) _
  leads p Ja high a m some l = land Ja (λ k. refl) refl l
  leads p JeqImm high a m some l =
      by_test (Leads JeqImm i s) (eqb (reg p m i.dst) (word i.imm)) (jump (target s i.off)) (on (suc s) keeps) (land JeqImm (λ k. refl) refl l) (fall JeqImm (λ k. refl) refl)
  leads p JneImm high a m some l =
      by_test (Leads JneImm i s) (eqb (reg p m i.dst) (word i.imm)) (on (suc s) keeps) (jump (target s i.off)) (fall JneImm (λ k. refl) refl) (land JneImm (λ k. refl) refl l)
  leads p Call high a m some l = (one Call refl, λ k h T. has_called T a)
  leads p Exit high a m some l = tt
