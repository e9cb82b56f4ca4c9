-- A set of slots as bits of words: what putting one in changes, and that the filled set is the starts.
use mathlib.Core.Path.{◌≡◌, sym, ◌∙◌}
use mathlib.Core.Bool.{true, false}
use mathlib.Core.List.{List}
use Prim.Native.Nat.{ℕ, ◌/◌, ◌%◌, ◌^◌, ◌≤◌, ◌<◌}
use native.Mathlib.Decide.{ℕ_discrete, dec_lt}
use native.Mathlib.Omega.{arith}
use lib.Bits.{bit_or}
use lib.ListN.{length, get_or, replicate, length-set, length-replicate}
use lib.Seq.{get_or-set_same, get_or-set_other}
use Rattle.std.proofs.lemmas.Grind.{common_steps}
use Rattle.wire.proofs.Bits.{bit_of_zero, or_pow, or_pow_other}
use Rattle.shape.specs.Code.{start}
use Rattle.shape.specs.Set.{member, with, after}
use Rattle.shape.proofs.Starts.{start_first, start_after, start_between, after_more}

-- ---- the set

module _ (d : List ℕ) (v : ℕ) where
  word : ℕ
  word = bit_or (get_or d (v / 64) 0) (2 ^ (v % 64))

  member_same : v / 64 < length d → member (with d v) v ≡ true
  unfolding member with word
  member_same h =
      rw (get_or-set_same d (v / 64) word 0 h, or_pow (get_or d (v / 64) 0) (v % 64))

  member_other : (u : ℕ) → v / 64 < length d → (u ≡ v → ⊥) → member (with d v) u ≡ member d u
  unfolding member with word
  member_other u h n = go (ℕ_discrete (u / 64) (v / 64))
    where
      go : Dec (u / 64 ≡ v / 64) → member (with d v) u ≡ member d u
      go (yes e) =
          rw (e, get_or-set_same d (v / 64) word 0 h, or_pow_other (get_or d (v / 64) 0) (v % 64) (u % 64) (λ q. n (omega arith)))
      go (no e) = rw (get_or-set_other d (v / 64) (u / 64) word 0 e)

empty : (n j : ℕ) → get_or {A = ℕ} (replicate n 0) j 0 ≡ 0
empty n j = grind (arith, common_steps)

-- ---- the starts before the start s are in the set, and no slot from s on
pub record Filled (b d : List ℕ) (s : ℕ) : Type 0 where
  pub words : length d ≡ 2048
  pub here : start b s ≡ true
  pub before : (u : ℕ) → u < s → member d u ≡ start b u
  pub from : (u : ℕ) → s ≤ u → member d u ≡ false

pub filled_none : (b d : List ℕ) → d ≡ replicate 2048 0 → Filled b d 0
unfolding member
filled_none b d e =
    rw e (record {
      words = length-replicate {A = ℕ} 2048 0;
      here = start_first b;
      before = λ u l. absurd (omega arith);
      from = λ u l. rw (empty 2048 (u / 64), bit_of_zero (u % 64));
    })

pub filled_more : (b d : List ℕ) (s : ℕ) → s < 131072 → Filled b d s → Filled b (with d s) (after b s)
unfolding with
filled_more b d s h F =
    let l : s / 64 < length d = omega (arith, F.words) in
    record {
      words = length-set d _ _ ∙ F.words;
      here = start_after b s F.here;
      before = λ u m. go u l m (ℕ_discrete u s) (dec_lt u s);
      from = λ u m. member_other d s u l (λ e. omega (arith, after_more b s F.here)) ∙ F.from u (omega (arith, after_more b s F.here));
    }
  where
    go : (u : ℕ) → s / 64 < length d → u < after b s → Dec (u ≡ s) → Dec (u < s) → member (with d s) u ≡ start b u
    go u l m (yes e) _ = rw e (member_same d s l ∙ sym F.here)
    go u l m (no n) (yes k) = member_other d s u l n ∙ F.before u k
    go u l m (no n) (no k) = member_other d s u l n ∙ F.from u (omega arith) ∙ sym (start_between b s F.here u (omega arith) m)
