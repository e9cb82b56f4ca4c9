-- Putting a slot into the set, and taking one out.
use mathlib.Core.Path.{◌≡◌, refl, sym, ap, ◌∙◌, subst}
use mathlib.Core.List.{List}
use mathlib.Core.Bool.{Bool, true, false}
use Rattle.std.specs.Prelude.{Some}
use Prim.Native.Nat.{ℕ, ◌+◌, ◌-◌, ◌*◌, ◌/◌, ◌%◌, ◌^◌, ◌≤◌, ◌<◌}
use native.Mathlib.Omega.{arith}
use lib.Bits.{bit_or, or_add_and, or_lt}
use lib.Dec.{eqb, leb, ltb}
use lib.Pow.{pow_mono, pow-lt, pow_pos}
use lib.ListN.{length, get_or, length-set, replicate, length-replicate}
use lib.Seq.{get_or-set_same}
use borrow.Author.Tests.{ltb-true, ltb-false, leb-true, leb-false, eqb-true, eqb-false}
use Rattle.std.proofs.lemmas.Grind.{common_steps}
use Rattle.wire.specs.Pick.{pick, either}
use Rattle.wire.specs.Bit.{bit}
use Rattle.wire.proofs.Bits.{nonzero, or_pow, or_keeps}
use Rattle.worklist.specs.Words.{Lowest, total, itself, listed, Sound, weight, Marked, Took}
use Rattle.worklist.specs.Set.{with_bit, without_bit, marked_low, marked_mid, marked_top, lowest_bit, Lead, Lead.nowhere, Lead.to_summary, Lead.to_word, Lead.to_slot, from_word, from_summary, lead, taken_low, taken_mid, taken_top, taken}
use Rattle.worklist.proofs.LowestBit.{lowest_bit_lem, lowest_below}
use Rattle.worklist.proofs.Total.{total_set, after_set}

mk_here : (l : List ℕ) (i b : ℕ) → i < length l → bit (get_or (with_bit l i b) i 0) b ≡ 1
mk_here l i b h = ap (λ (x : ℕ). bit x b) (get_or-set_same l i (bit_or (get_or l i 0) (2 ^ b)) 0 h) ∙ or_pow (get_or l i 0) b

mk_keeps : (l : List ℕ) (i b k r : ℕ) → i < length l → bit (get_or l k 0) r ≡ 1 → bit (get_or (with_bit l i b) k 0) r ≡ 1
mk_keeps l i b k r h e =
    after_set (λ j z. j ≡ k → bit z r ≡ 1) l i (bit_or (get_or l i 0) (2 ^ b)) k h
    (λ q. or_keeps (get_or l i 0) (2 ^ b) r (ap (λ (x : ℕ). bit (get_or l x 0) r) q ∙ e)) (λ _ _. e) refl

or_most : (a b : ℕ) → b < 64 → bit_or a (2 ^ b) ≤ a + 2 ^ 63
or_most a b h = omega (arith, or_add_and a (2 ^ b), pow_mono {i = b} {j = 63} (omega arith))

mk_most : (l : List ℕ) (i b : ℕ) → i < length l → b < 64 → total itself (with_bit l i b) ≤ total itself l + 2 ^ 63
mk_most l i b h hb = omega (arith, total_set itself l i (bit_or (get_or l i 0) (2 ^ b)) h, or_most (get_or l i 0) b hb)

rm_keeps : (l : List ℕ) (i z k r : ℕ) → i < length l → Lowest (get_or l i 0) z → bit (get_or l k 0) r ≡ 1 → (k ≡ i → r ≡ z → ⊥) → bit (get_or (without_bit l i z) k 0) r ≡ 1
rm_keeps l i z k r h L e ne =
    after_set (λ j y. j ≡ k → bit y r ≡ 1) l i (get_or l i 0 - 2 ^ z) k h
    (λ q. L.rest r (ne (sym q)) ∙ ap (λ (x : ℕ). bit (get_or l x 0) r) q ∙ e) (λ _ _. e) refl

-- a word that is not 0 after a bit was taken was not 0 before
rm_zero : (l : List ℕ) (i z k : ℕ) → i < length l → (get_or (without_bit l i z) k 0 ≡ 0 → ⊥) → get_or l k 0 ≡ 0 → ⊥
rm_zero l i z k h =
    after_set (λ j y. j ≡ k → (y ≡ 0 → ⊥) → get_or l k 0 ≡ 0 → ⊥) l i (get_or l i 0 - 2 ^ z) k h
    (λ q n e. n (let e2 : get_or l i 0 ≡ 0 = ap (λ (x : ℕ). get_or l x 0) q ∙ e in omega arith)) (λ _ _ n e. n e) refl

rm_less : (l : List ℕ) (i z : ℕ) → i < length l → Lowest (get_or l i 0) z → total itself (without_bit l i z) < total itself l
rm_less l i z h L = omega (arith, total_set itself l i (get_or l i 0 - 2 ^ z) h, L.has, pow_pos z)

-- the top word has no bit but those of the 32 words below it
pub top_below : {d s : List ℕ} {top : ℕ} → Sound d s top → (top ≡ 0 → ⊥) → lowest_bit top < 32
top_below {top = top} S n = lowest_below 32 top (lowest_bit top) S.high (lowest_bit_lem top (omega arith))

module _ (d s : List ℕ) (top : ℕ) (S : Sound d s top) where
  -- a set whose top word is 0 is empty
  pub empty : top ≡ 0 → (v : ℕ) → listed d v ≡ 1 → ⊥
  unfolding listed
  empty z v e =
      nonzero top (v / 64 / 64)
      (S.summaries (v / 64 / 64) (nonzero (get_or s (v / 64 / 64) 0) (v / 64 % 64) (S.words (v / 64) (nonzero (get_or d (v / 64) 0) (v % 64) e)))) z

  pub put_in : (w : ℕ) → w < 131072
      → Marked d s top w (with_bit d (w / 64) (w % 64)) (with_bit s (w / 64 / 64) (w / 64 % 64)) (bit_or top (2 ^ (w / 64 / 64)))
  unfolding listed weight
  put_in w l =
      record {
        sound =
            record {
              low = length-set d _ _ ∙ S.low;
              mid = length-set s _ _ ∙ S.mid;
              high = or_lt 32 top (2 ^ (w / 64 / 64)) S.high (pow-lt {i = w / 64 / 64} {j = 32} (omega arith));
              words =
                  λ j n.
                  after_set
                  (λ u z. u ≡ j → (z ≡ 0 → ⊥) → bit (get_or (with_bit s (w / 64 / 64) (w / 64 % 64)) (j / 64) 0) (j % 64) ≡ 1) d (w / 64) (bit_or (get_or d (w / 64) 0) (2 ^ (w % 64))) j (omega (arith, S.low))
                  (λ q _. subst (λ (u : ℕ). bit (get_or (with_bit s (w / 64 / 64) (w / 64 % 64)) (u / 64) 0) (u % 64) ≡ 1) q (mk_here s (w / 64 / 64) (w / 64 % 64) (omega (arith, S.mid))))
                  (λ _ _ m. mk_keeps s (w / 64 / 64) (w / 64 % 64) (j / 64) (j % 64) (omega (arith, S.mid)) (S.words j m)) refl n;
              summaries =
                  λ i n.
                  after_set (λ u z. u ≡ i → (z ≡ 0 → ⊥) → bit (bit_or top (2 ^ (w / 64 / 64))) i ≡ 1) s (w / 64 / 64) (bit_or (get_or s (w / 64 / 64) 0) (2 ^ (w / 64 % 64))) i (omega (arith, S.mid))
                  (λ q _. subst (λ (u : ℕ). bit (bit_or top (2 ^ (w / 64 / 64))) u ≡ 1) q (or_pow top (w / 64 / 64)))
                  (λ _ _ m. or_keeps top (2 ^ (w / 64 / 64)) i (S.summaries i m)) refl n;
            };
        here = λ _. mk_here d (w / 64) (w % 64) (omega (arith, S.low));
        keeps = λ v e. mk_keeps d (w / 64) (w % 64) (v / 64) (v % 64) (omega (arith, S.low)) e;
        most =
            omega (arith, mk_most d (w / 64) (w % 64) (omega (arith, S.low)) (omega arith), mk_most s (w / 64 / 64) (w / 64 % 64) (omega (arith, S.mid)) (omega arith), or_most top (w / 64 / 64) (omega arith));
      }

  pub marked : (w : ℕ) → Marked d s top w (marked_low d w) (marked_mid s w) (marked_top top w)
  unfolding marked_low marked_mid marked_top
  marked w = go (ltb w 131072) refl
    where
      go : (t : Bool) → ltb w 131072 ≡ t
          → Marked d s top w (pick t (with_bit d (w / 64) (w % 64)) d) (pick t (with_bit s (w / 64 / 64) (w / 64 % 64)) s) (pick t (bit_or top (2 ^ (w / 64 / 64))) top)
      go true e = put_in w (ltb-true w 131072 e)
      go false e = record { sound = S; here = λ l. absurd (omega (arith, ltb-false w 131072 e)); keeps = λ v h. h; most = omega arith }

  -- what is taken where the lowest bits lead
  abbrev Takes : Lead → Type 0
  Takes l = Took d s top (taken_low d l) (taken_mid s l) (taken_top top l) (taken l)

  nothing : top ≡ 0 → Takes nowhere
  unfolding taken_low taken_mid taken_top
  nothing e = record { sound = rw e at S; keeps = λ v h _. h; less = λ h. absurd (omega arith) }

  pub off_top : (i : ℕ) → Lowest top i → get_or s i 0 ≡ 0 → Takes (to_summary i)
  unfolding weight taken_low taken_mid taken_top
  off_top i L z =
      record {
        sound =
            record {
              low = S.low;
              mid = S.mid;
              high = omega (arith, S.high);
              words = S.words;
              summaries = λ k n. L.rest k (λ q. n (ap (λ (u : ℕ). get_or s u 0) q ∙ z)) ∙ S.summaries k n;
            };
        keeps = λ v h _. h;
        less = λ _. omega (arith, L.has, pow_pos i);
      }

  pub off_summary : (i k : ℕ) → i < 32 → Lowest (get_or s i 0) k → get_or d (i * 64 + k) 0 ≡ 0 → Takes (to_word i k)
  unfolding weight taken_low taken_mid taken_top
  off_summary i k li L z =
      record {
        sound =
            record {
              low = S.low;
              mid = length-set s _ _ ∙ S.mid;
              high = S.high;
              words =
                  λ j n.
                  rm_keeps s i k (j / 64) (j % 64) (omega (arith, S.mid)) L (S.words j n) (λ p q. n (ap (λ (u : ℕ). get_or d u 0) (omega arith) ∙ z));
              summaries = λ m n. S.summaries m (rm_zero s i k m (omega (arith, S.mid)) n);
            };
        keeps = λ v h _. h;
        less = λ _. omega (arith, rm_less s i k (omega (arith, S.mid)) L);
      }

  pub off_word : (j b : ℕ) → j < length d → Lowest (get_or d j 0) b → Takes (to_slot j b)
  unfolding weight listed taken_low taken_mid taken_top taken
  off_word j b lj L =
      record {
        sound =
            record {
              low = length-set d _ _ ∙ S.low;
              mid = S.mid;
              high = S.high;
              words = λ k n. S.words k (rm_zero d j b k lj n);
              summaries = S.summaries;
            };
        keeps = λ v h ne. rm_keeps d j b (v / 64) (v % 64) lj L h (λ p q. ne (ap Some (omega arith)));
        less = λ _. omega (arith, rm_less d j b lj L);
      }

  -- a word that is not 0 is one of the list
  pub inside : (j : ℕ) → (get_or d j 0 ≡ 0 → ⊥) → j < length d
  inside j n = grind (arith, common_steps)

  takes_word : (i k : ℕ) → i < 32 → Lowest (get_or s i 0) k → Takes (from_word i k (get_or d (i * 64 + k) 0))
  unfolding from_word
  takes_word i k li L = go (eqb word 0) refl
    where
      word : ℕ
      word = get_or d (i * 64 + k) 0

      go : (t : Bool) → eqb word 0 ≡ t → Takes (pick t (to_word i k) (to_slot (i * 64 + k) (lowest_bit word)))
      go true e = off_summary i k li L (eqb-true word 0 e)
      go false e = off_word (i * 64 + k) (lowest_bit word) (inside (i * 64 + k) (eqb-false word 0 e)) (lowest_bit_lem word (omega (arith, eqb-false word 0 e)))

  takes_summary : (i : ℕ) → i < 32 → Lowest top i → Takes (from_summary d i (get_or s i 0))
  unfolding from_summary
  takes_summary i li L = go (eqb word 0) refl
    where
      word : ℕ
      word = get_or s i 0

      go : (t : Bool) → eqb word 0 ≡ t → Takes (pick t (to_summary i) (from_word i (lowest_bit word) (get_or d (i * 64 + lowest_bit word) 0)))
      go true e = off_top i L (eqb-true word 0 e)
      go false e = takes_word i (lowest_bit word) li (lowest_bit_lem word (omega (arith, eqb-false word 0 e)))

  pub took : Took d s top (taken_low d (lead d s top)) (taken_mid s (lead d s top)) (taken_top top (lead d s top)) (taken (lead d s top))
  unfolding lead
  took = go (eqb top 0) refl (leb 32 i) refl
    where
      i : ℕ
      i = lowest_bit top

      go : (t : Bool) → eqb top 0 ≡ t → (u : Bool) → leb 32 i ≡ u → Takes (pick (either t u) nowhere (from_summary d i (get_or s i 0)))
      go true e u f = nothing (eqb-true top 0 e)
      go false e true f = absurd (omega (arith, leb-true 32 i f, top_below S (eqb-false top 0 e)))
      go false e false f = takes_summary i (leb-false 32 i f) (lowest_bit_lem top (omega (arith, eqb-false top 0 e)))

-- all words 0: a sound set
zeros : (n j : ℕ) → get_or {A = ℕ} (replicate n 0) j 0 ≡ 0
zeros n j = grind (arith, common_steps)

pub none : Sound (replicate 2048 0) (replicate 32 0) 0
none =
    record {
      low = length-replicate {A = ℕ} 2048 0;
      mid = length-replicate {A = ℕ} 32 0;
      high = omega arith;
      words = λ j n. absurd (n (zeros 2048 j));
      summaries = λ i n. absurd (n (zeros 32 i));
    }
