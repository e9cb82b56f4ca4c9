-- The tables of registers agree with the machine: what an instruction shows and does hangs on no register but those that it reads, and it changes none but those that it wrote or left unreadable.
use mathlib.Core.Path.{◌≡◌, refl}
use mathlib.Core.Bool.{Bool, true, false}
use mathlib.Core.List.{List}
use Prim.Native.Nat.{ℕ, zero, suc, ◌≤◌, ◌<◌}
use native.Mathlib.Decide.{dec_lt}
use native.Mathlib.Omega.{arith}
use lib.Dec.{eqb, leb}
use lib.IntN.{ℤ}
use borrow.Author.Tests.{eq-eqb, eqb-true, leb-true}
use Rattle.wire.specs.Pick.{pick, either}
use Rattle.insn.specs.Helper.{helper_of, arguments}
use Rattle.insn.proofs.Helpers.{at_most_four}
use Rattle.insn.specs.declared.Insn.{Insn}
use Rattle.insn.specs.declared.form.Form.{Form}
use Rattle.insn.specs.declared.form.Form.TheVariants.{NoForm, WideLoad, Ldx, Stx, AluImm, AluReg, MovImm, MovReg, Ja, JeqImm, JneImm, Call, Exit}
use Rattle.shape.specs.Code.{at, form_at}
use Rattle.paths.specs.Registers.{argument, reads}
use Rattle.machine.specs.Memory.{Memory, reg, address}
use Rattle.machine.specs.Turn.{Answer, Effect, keeps, writes, frame, calls, after, Turn, first_of, turn_of, turn}
use Rattle.sound.specs.Written.{Wrote, Took}

same_test : (x : Bool) {t u t' u' : Turn} → t ≡ t' → u ≡ u' → pick x t u ≡ pick x t' u'
same_test true e f = e
same_test false e f = f

-- of two registers each is read
first : (x y : ℕ) → either (eqb x x) (eqb x y) ≡ true
first x y = rw (eq-eqb x x refl)

second : (x y : ℕ) → either (eqb y x) (eqb y y) ≡ true
second x y = rw (eq-eqb y y refl) (go (eqb y x))
  where
    go : (t : Bool) → either t true ≡ true
    go true = refl
    go false = refl

module _ (i : Insn) (high : ℤ) (s p q : ℕ) (m n : Memory) (C : m.cells ≡ n.cells) where
  -- the first registers from R1 on
  same_first : (k : ℕ) → k ≤ 4 → ((r : ℕ) → argument k r ≡ true → reg p m r ≡ reg q n r) → first_of m k ≡ first_of n k
  unfolding argument first_of
  same_first zero l h = refl
  same_first (suc zero) l h = rw (h 1 refl)
  same_first (suc (suc zero)) l h = rw (h 1 refl, h 2 refl)
  same_first (suc (suc (suc zero))) l h = rw (h 1 refl, h 2 refl, h 3 refl)
  same_first (suc (suc (suc (suc zero)))) l h = rw (h 1 refl, h 2 refl, h 3 refl, h 4 refl)
  same_first (suc (suc (suc (suc (suc k))))) l h = absurd (omega arith)

-- what an instruction shows and does hangs on no other register, R10 among them
pub looks_at : (b : List ℕ) (s p q : ℕ) (m n : Memory) → m.cells ≡ n.cells → ((r : ℕ) → reads (form_at b s) (at b s) r ≡ true → reg p m r ≡ reg q n r)
    → turn p (at b) s m ≡ turn q (at b) s n
unfolding turn form_at reads turn_of address
looks_at b s p q m n C h = looks (at b s) (at b (suc s)).imm (form_at b s) h
  where
    looks : (i : Insn) (high : ℤ) (f : Form) → ((r : ℕ) → reads f i r ≡ true → reg p m r ≡ reg q n r) → turn_of p f i high s m ≡ turn_of q f i high s n
    looks i high NoForm h = refl
    looks i high WideLoad h = refl
    looks i high (Ldx w) h = same_test (eqb i.src 10) (rw C) (rw (h i.src (eq-eqb i.src i.src refl)))
    looks i high (Stx w) h =
        let D = h i.dst (first i.dst i.src) in
        let S = h i.src (second i.dst i.src) in
        same_test (eqb i.dst 10) (rw (C, S)) (rw (C, D, S))
    looks i high (AluImm o) h = rw (h i.dst (eq-eqb i.dst i.dst refl))
    looks i high (AluReg o) h = rw (h i.dst (first i.dst i.src), h i.src (second i.dst i.src))
    looks i high MovImm h = refl
    looks i high MovReg h = rw (h i.src (eq-eqb i.src i.src refl))
    looks i high Ja h = refl
    looks i high JeqImm h = rw (h i.dst (eq-eqb i.dst i.dst refl))
    looks i high JneImm h = rw (h i.dst (eq-eqb i.dst i.dst refl))
    looks i high Call h = rw (same_first i high s p q m n C (arguments (helper_of i.imm)) (at_most_four i.imm) h, C)
    looks i high Exit h = rw (h 0 refl)

pub changes : (e : Effect) (m : Memory) (r : ℕ) → (Wrote e r → ⊥) → (Took e r → ⊥) → (after e m).regs r ≡ m.regs r
unfolding after
changes keeps m r w t = refl
changes (writes d v) m r w t = go (eqb r d) refl
  where
    go : (x : Bool) → eqb r d ≡ x → pick x v (m.regs r) ≡ m.regs r
    go true q = absurd (w (eqb-true r d q))
    go false q = refl
changes (frame c) m r w t = refl
changes (calls a) m r w t = go (leb r 5) refl (dec_lt 0 r)
  where
    go : (x : Bool) → leb r 5 ≡ x → Dec (0 < r) → pick x (pick (eqb r 0) a.value (a.rest r)) (m.regs r) ≡ m.regs r
    go true q (yes p) = absurd (t (p, leb-true r 5 q))
    go true q (no p) = absurd (w (omega arith))
    go false q p = refl
