-- At most one table and one answer meet the promise.
use mathlib.Core.Path.{◌≡◌, refl, sym, ap, ◌∙◌}
use mathlib.Core.Bool.{Bool, true, false, true≢false}
use mathlib.Core.List.{List}
use Prim.Native.Nat.{ℕ, ◌-◌, ◌≤◌, ◌<◌}
use native.Mathlib.Decide.{dec_lt, ℕ_discrete}
use native.Mathlib.Omega.{arith}
use lib.ListN.{get_or, drop}
use lib.Seq.{ext_get_or, get_or-drop}
use Rattle.wire.specs.Bit.{bit}
use Rattle.wire.proofs.Bits.{bit_le, bit_ext}
use Rattle.shape.specs.Code.{slots}
use Rattle.paths.specs.Way.{Always, Lacks}
use Rattle.paths.specs.Readable.{Readable, Filled, fits, Told, AnalysedBy, Analysed}
use Rattle.paths.specs.declared.Ends.{Ends}
use Rattle.paths.specs.declared.Ends.TheVariants as E

-- a register is not both readable on every path and lacking on one
pub not_both : (b : List ℕ) (s r : ℕ) → Always b s r → Lacks b s r → ⊥
not_both b s r a l = true≢false (sym (a l.0 l.1.0) ∙ l.1.1)

pub one_mask : (b : List ℕ) (s x y : ℕ) → Readable b s x → Readable b s y → x ≡ y
one_mask b s x y X Y = bit_ext 11 x y X.small Y.small (λ r l. go r l (ℕ_discrete (bit x r) 0) (ℕ_discrete (bit y r) 0))
  where
    go : (r : ℕ) → r < 11 → Dec (bit x r ≡ 0) → Dec (bit y r ≡ 0) → bit x r ≡ bit y r
    go r l (yes p) (yes q) = p ∙ sym q
    go r l (yes p) (no q) = absurd (not_both b s r (Y.set r l (omega (arith, bit_le y r, q))) (X.clear r l p))
    go r l (no p) (yes q) = absurd (not_both b s r (X.set r l (omega (arith, bit_le x r, p))) (Y.clear r l q))
    go r l (no p) (no q) = omega (arith, bit_le x r, bit_le y r, p, q)

pub one_table : (b t u v : List ℕ) → Filled b t u → Filled b t v → u ≡ v
one_table b t u v F H = ext_get_or 0 u v (F.same_length ∙ sym H.same_length) (λ k _. go k (dec_lt k (slots b)))
  where
    n : ℕ
    n = slots b

    back : (l : List ℕ) (k : ℕ) → n ≤ k → get_or (drop n l) (k - n) 0 ≡ get_or l k 0
    back l k h = get_or-drop n l (k - n) 0 ∙ ap (λ (i : ℕ). get_or l i 0) (omega arith)

    go : (k : ℕ) → Dec (k < n) → get_or u k 0 ≡ get_or v k 0
    go k (yes l) = one_mask b k (get_or u k 0) (get_or v k 0) (F.front k l) (H.front k l)
    go k (no h) = sym (back u k (omega arith)) ∙ ap (λ (l : List ℕ). get_or l (k - n) 0) (F.rest ∙ sym H.rest) ∙ back v k (omega arith)

pub one_end : (b : List ℕ) (e f : Ends) → Told b e → Told b f → e ≡ f
one_end b E.Inside E.Inside p q = refl
one_end b E.Inside E.Past p q = absurd (p q)
one_end b E.Inside E.NotRun p q = absurd q
one_end b E.Past E.Inside p q = absurd (q p)
one_end b E.Past E.Past p q = refl
one_end b E.Past E.NotRun p q = absurd q
one_end b E.NotRun f p q = absurd p

pub one_answer : (b t u v : List ℕ) (e f : Ends) → Analysed b t u e → Analysed b t v f → (u ≡ v) × (e ≡ f)
one_answer b t u v e f p q = go (fits b t) p q
  where
    go : (r : Bool) → AnalysedBy r b t u e → AnalysedBy r b t v f → (u ≡ v) × (e ≡ f)
    go true p q = (one_table b t u v p.0 q.0, one_end b e f p.1 q.1)
    go false p q = (p.0 ∙ sym q.0, p.1 ∙ sym q.1)
