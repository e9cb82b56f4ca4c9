-- The walk over pending block numbers: what holds at each turn, and what is marked at the end.
use Rattle.std.proofs.Common.{◌≡◌, ◌∙◌, refl, sym, ap, subst, ◌⊎◌, inl, inr, ⊎_elim, Bool, true, false, not, List, [], ◌∷◌, ◌++◌, ℕ, zero, suc, ◌+◌, ◌*◌, ◌≤◌, ◌<◌, length, get_or, take, set, cond, sum_by, All, Contains, length-set, length-append, length-take-le, get_or-take, get_or-set_same, get_or-set_other, not-suc-le-zero, arith}
use Rattle.std.proofs.lemmas.Bool.{both_ways, cases_eq}
use Rattle.std.proofs.lemmas.List.Elements.{All-append, All-contains, All-push, Contains-append_left, Contains-append_right, Contains-get_or, Contains-push, Contains-push_cases}
use Rattle.std.proofs.lemmas.List.Sums.{count_by-le-length, sum_by-set}
use Rattle.std.proofs.lemmas.List.{get_or_append_left, get_or_default}
use lib.Seq.{take-set-lt}
use Rattle.flow.specs.Linked.{targets_at}
use Rattle.flow.specs.Way.{outs, Way, start, go, Clear, Marked}

-- ---- a block's targets

module _ (counts targets : List ℕ) (b : ℕ) where
  pub outs_none : get_or counts b 0 ≡ 0 → outs counts targets b ≡ []
  unfolding targets_at
  outs_none e = rw e

  pub outs_one : get_or counts b 0 ≡ 1 → outs counts targets b ≡ get_or targets (2 * b) 0 ∷ []
  unfolding targets_at
  outs_one e = rw e

  pub outs_two : 2 ≤ get_or counts b 0 → outs counts targets b ≡ get_or targets (2 * b) 0 ∷ get_or targets (2 * b + 1) 0 ∷ []
  unfolding targets_at
  outs_two = by (get_or counts b 0)
    where
      by : (c : ℕ) → 2 ≤ c → targets_at c b targets ≡ get_or targets (2 * b) 0 ∷ get_or targets (2 * b + 1) 0 ∷ []
      by zero h = absurd (omega arith)
      by (suc zero) h = absurd (omega arith)
      by (suc (suc c)) h = refl

  outs_most : length (outs counts targets b) ≤ 2
  unfolding targets_at
  outs_most = by (get_or counts b 0)
    where
      by : (c : ℕ) → length (targets_at c b targets) ≤ 2
      by zero = omega arith
      by (suc zero) = omega arith
      by (suc (suc c)) = omega arith

-- ---- the walk

-- a number that is no block's, is marked, or is pending
pub data Seen (n : ℕ) (marks : List Bool) (pending : List ℕ) (t : ℕ) : Type 0 where
  past : n ≤ t → Seen n marks pending t
  marked : get_or marks t false ≡ true → Seen n marks pending t
  waiting : Contains pending t → Seen n marks pending t

-- 1 for a mark that is not set
abbrev pub unset : Bool → ℕ
unset m = cond (not m) 1 0

-- the measure: how many of the n blocks' marks are not set
abbrev pub unmarked : ℕ → List Bool → ℕ
unmarked n marks = sum_by unset (take n marks)

pub record Reaching (n first : ℕ) (counts targets : List ℕ) (marks : List Bool) (pending : List ℕ) : Type 0 where
  pub size : n ≤ length marks
  pub few : length pending + 2 * unmarked n marks ≤ 2 * n + 1
  pub waits : All (Way n first counts targets) pending
  pub flag : (b : ℕ) → (get_or marks b false ≡ false) ⊎ ((get_or marks b false ≡ true) × Way n first counts targets b)
  pub begun : Seen n marks pending first
  pub goes : (b : ℕ) → get_or marks b false ≡ true → (i : ℕ) → i < length (outs counts targets b) → Seen n marks pending (get_or (outs counts targets b) i 0)

pub reaching_start : (n first : ℕ) (counts targets : List ℕ) (marks : List Bool) → n ≤ length marks → Clear marks → Reaching n first counts targets marks (first ∷ [])
reaching_start n first counts targets marks s h = record {
  size = s;
  few = omega (arith, count_by-le-length not (take n marks), length-take-le n marks s);
  waits = All-push (Way n first counts targets) [] first (λ k d l. absurd (not-suc-le-zero l)) start;
  flag = λ b. inl (h b);
  begun = waiting (Contains-push [] first);
  goes = λ b l. absurd (both_ways (get_or marks b false) (h b) l);
}

-- a pending number is taken
module _ {n first : ℕ} {counts targets : List ℕ} {marks : List Bool} (rest : List ℕ) (b : ℕ) (r : Reaching n first counts targets marks (rest ++ b ∷ [])) where
  popped : {t : ℕ} → Seen n marks rest b → Seen n marks (rest ++ b ∷ []) t → Seen n marks rest t
  popped s (past h) = past h
  popped s (marked h) = marked h
  popped {t} s (waiting h) =
      ⊎_elim (λ (c : Contains rest t). waiting c) (λ (e : b ≡ t). subst (Seen n marks rest) e s) (Contains-push_cases rest b t h)

  rest_waits : All (Way n first counts targets) rest
  rest_waits k d l = subst (Way n first counts targets) (get_or_append_left rest (b ∷ []) d k l) (r.waits k d (omega (arith, length-append rest (b ∷ []))))

  -- it is seen without it
  skip : Seen n marks rest b → Reaching n first counts targets marks rest
  skip s = record {
    size = r.size;
    few = omega (arith, r.few, length-append rest (b ∷ []));
    waits = rest_waits;
    flag = r.flag;
    begun = popped s r.begun;
    goes = λ c h i q. popped s (r.goes c h i q);
  }

  pub skip_past : n ≤ b → Reaching n first counts targets marks rest
  skip_past h = skip (past h)

  pub skip_marked : get_or marks b false ≡ true → Reaching n first counts targets marks rest
  skip_marked h = skip (marked h)

  -- it is not marked
  module _ (small : b < n) (fresh : get_or marks b false ≡ false) where
    way_b : Way n first counts targets b
    way_b = All-contains (Way n first counts targets) (rest ++ b ∷ []) b r.waits (Contains-push rest b)

    -- one mark fewer is not set
    fewer : unmarked n marks ≡ suc (unmarked n (set marks b true))
    fewer =
        let l = length-take-le n marks r.size in
        rw (take-set-lt n marks b true small) (omega (arith, sum_by-set unset (take n marks) b true false (omega (arith, l)), ap unset (get_or-take n marks b false small ∙ fresh)))

    -- there is room for two
    pub visit_room : length rest + 2 ≤ 2 * n + 1
    visit_room = omega (arith, r.few, fewer, length-append rest (b ∷ []))

    pub visit_less : 2 * unmarked n (set marks b true) + length (rest ++ outs counts targets b) < 2 * unmarked n marks + length (rest ++ b ∷ [])
    visit_less = omega (arith, outs_most counts targets b, fewer, length-append rest (outs counts targets b), length-append rest (b ∷ []))

    mark_other : (t : ℕ) → (t ≡ b → ⊥) → get_or (set marks b true) t false ≡ get_or marks t false
    mark_other t f = get_or-set_other marks b t true false f

    mark_b : (t : ℕ) → t ≡ b → get_or (set marks b true) t false ≡ true
    mark_b t e = rw e (get_or-set_same marks b true false (omega (arith, r.size)))

    push : {t : ℕ} → Seen n marks (rest ++ b ∷ []) t → Seen n (set marks b true) (rest ++ outs counts targets b) t
    push (past h) = past h
    push {t} (marked h) = marked (mark_other t (λ e. both_ways (get_or marks t false) (rw e fresh) h) ∙ h)
    push {t} (waiting h) =
        ⊎_elim (λ (c : Contains rest t). waiting (Contains-append_left rest (outs counts targets b) t c)) (λ (e : b ≡ t). marked (mark_b t (sym e))) (Contains-push_cases rest b t h)

    pub reaching_visit : Reaching n first counts targets (set marks b true) (rest ++ outs counts targets b)
    reaching_visit = record {
      size = rw (length-set marks b true) r.size;
      few = omega (arith, r.few, outs_most counts targets b, fewer, length-append rest (outs counts targets b), length-append rest (b ∷ []));
      waits = All-append (Way n first counts targets) rest (outs counts targets b) rest_waits (λ k d l. subst (Way n first counts targets) (get_or_default (outs counts targets b) k 0 d l) (go way_b small k l));
      flag = λ t.
          ⊎_elim (λ (e : t ≡ b). inr (mark_b t e, subst (Way n first counts targets) (sym e) way_b)) (λ (f : t ≡ b → ⊥). rw (mark_other t f) (r.flag t))
          (cases_eq t b);
      begun = push r.begun;
      goes = λ t h i l.
          ⊎_elim (λ (e : t ≡ b). waiting (Contains-append_right rest (outs counts targets b) (get_or (outs counts targets t) i 0) (subst (λ (u : ℕ). Contains (outs counts targets b) (get_or (outs counts targets u) i 0)) (sym e) (Contains-get_or (outs counts targets b) i 0 (rw e at l))))) (λ (f : t ≡ b → ⊥). push (r.goes t (sym (mark_other t f) ∙ h) i l))
          (cases_eq t b);
    }

-- ---- the end

module _ {n first : ℕ} {counts targets : List ℕ} {marks : List Bool} (r : Reaching n first counts targets marks []) where
  settled : {t : ℕ} → Seen n marks [] t → t < n → get_or marks t false ≡ true
  settled (past h) l = absurd (omega arith)
  settled (marked h) l = h
  settled (waiting h) l = absurd (not-suc-le-zero h.1)

  all_marked : {b : ℕ} → Way n first counts targets b → b < n → get_or marks b false ≡ true
  all_marked start l = settled r.begun l
  all_marked (go {b} w s i h) l = settled (r.goes b (all_marked w s) i h) l

  pub reaching_end : Marked n first counts targets marks
  reaching_end = record {
    each = λ b h.
        ⊎_elim (λ (z : get_or marks b false ≡ false). inr (z, λ w. both_ways (get_or marks b false) z (all_marked w h)))
        (λ (z : (get_or marks b false ≡ true) × Way n first counts targets b). inl z) (r.flag b);
  }
