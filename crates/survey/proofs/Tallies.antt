-- Variables put among those that were collected, one record after the other.
use mathlib.Core.Path.{◌≡◌, refl, sym, ap, ◌∙◌}
use mathlib.Core.Bool.{Bool, true, false}
use mathlib.Core.List.{List, [], ◌∷◌, ◌++◌, append-nil}
use Prim.Native.Nat.{ℕ, zero, suc, ◌+◌, ◌-◌, ◌<◌, ◌≤◌}
use native.Mathlib.Nat.{zero-add}
use native.Mathlib.Numerals.{sub-one}
use native.Mathlib.Omega.{arith}
use borrow.Author.Tests.{lt-ltb, le-ltb, ltb-false, le-leb, lt-leb, leb-true, leb-false}
use lib.Dec.{eqb, leb, ltb}
use lib.ListN.{length, take, drop, take-append-drop, drop_of_length-le}
use lib.Seq.{sets, sets-eq, length-sets, length-take-le, take_all, take_at, drop_at, drop-drop}
use Rattle.wire.specs.Pick.{pick}
use Rattle.frame.specs.Variables.{Sorted, insert, inserted_answer, inserted_list}
use Rattle.frame.specs.Hint.{index_by}
use Rattle.frame.proofs.Sorted.{insert_there}
use Rattle.frame.proofs.Hints.{index_stands}
use Rattle.operand.specs.Operand.{operand_in, operands_in}
use Rattle.unitfile.specs.declared.Found.{Found}
use Rattle.opening.proofs.Choice.{pick_ind}
use Rattle.survey.specs.Occurrences.{Occurrence, of_operand, of_operands}
use Rattle.survey.specs.Collected.{Collected, all, too_many, collect}
use Rattle.survey.specs.Surveyed.{variables_of, counted}
use Rattle.survey.specs.Inner.{used, gathered, further, Holds, Takes, tallied}
use Rattle.survey.specs.declared.occurrences.Tally.{Tally}
use Rattle.survey.proofs.Sorted.{insert_from}
use Rattle.std.specs.Prelude.{Err, None, Ok, Some}
use Rattle.survey.specs.declared.Fault.TheVariants.{TooMany}

-- ---- a tally by its count

module _ (t : Tally) (few : t.count ≤ 56) where
  few_used : used t ≡ t.count
  unfolding used
  few_used = rw (le-ltb 56 t.count few)

  few_gathered : (l : List ℕ) → gathered t l ≡ all (take t.count l)
  unfolding gathered
  few_gathered l = rw (le-ltb 56 t.count few)

module _ (t : Tally) (many : 56 < t.count) where
  many_used : used t ≡ 56
  unfolding used
  many_used = rw (lt-ltb 56 t.count many)

  many_gathered : (l : List ℕ) → gathered t l ≡ too_many t.place l
  unfolding gathered
  many_gathered l = rw (lt-ltb 56 t.count many)

used_most : (t : Tally) → used t ≤ 56
unfolding used
used_most t = pick_ind (λ (n : ℕ). n ≤ 56) (ltb 56 t.count) _ _ (λ e. omega arith) (λ e. ltb-false 56 t.count e)

-- ---- one list of occurrences after the other

further_nil : (c : Collected) → further c [] ≡ c
unfolding further collect
further_nil (all vs) = refl
further_nil (too_many place vs) = refl

either_way : (t : Bool) (a b : Collected) (place : ℕ) (vs : List ℕ) (ps : List Occurrence) → a ≡ further b ps → pick t a (too_many place vs) ≡ further (pick t b (too_many place vs)) ps
unfolding further
either_way true a b place vs ps e = e
either_way false a b place vs ps e = refl

pub collect_append : (vs : List ℕ) (os ps : List Occurrence) → collect vs (os ++ ps) ≡ further (collect vs os) ps
unfolding further collect
collect_append vs [] ps = refl
collect_append vs (o ∷ os) ps = either_way (leb (length (insert o.variable vs)) 56) _ _ o.place vs ps (collect_append (insert o.variable vs) os ps)

further_append : (c : Collected) (os ps : List Occurrence) → further c (os ++ ps) ≡ further (further c os) ps
unfolding further
further_append (all vs) os ps = collect_append vs os ps
further_append (too_many place vs) os ps = refl

past : (a b : ℕ) (x y : List ℕ) → a ≤ b → drop a x ≡ drop a y → drop b x ≡ drop b y
past a b x y h e =
    let sum : a + (b - a) ≡ b = omega arith in
    rw sum at (sym (drop-drop (b - a) a x) ∙ ap (drop (b - a)) e ∙ drop-drop (b - a) a y)

pub nothing : {t : Tally} {l : List ℕ} → Holds t l → Takes t l [] t l
nothing h = record { holds = h; more = omega arith; gathers = sym (further_nil _); rest = refl }

pub then : {t r s : Tally} {l m n : List ℕ} {os ps : List Occurrence} → Takes t l os r m → Takes r m ps s n → Takes t l (os ++ ps) s n
then {t} {r} {s} {l} {m} {n} {os} {ps} a b =
    let more = b.more in
    record {
      holds = b.holds;
      more = omega (arith, a.more);
      gathers = b.gathers ∙ ap (λ (c : Collected). further c ps) a.gathers ∙ sym (further_append (gathered t l) os ps);
      rest = b.rest ∙ past (used r) (used s) m l more a.rest;
    }

-- ---- one variable

abbrev Longer : List ℕ → List ℕ → Type 0
Longer l m = (length l ≤ length m) × (length m ≤ suc (length l))

insert_length : (x : ℕ) (l : List ℕ) → Longer l (insert x l)
unfolding insert
insert_length x [] = (omega arith, omega arith)
insert_length x (y ∷ ys) =
    let n = insert_length x ys in
    pick_ind (Longer (y ∷ ys)) (ltb x y) _ _
    (λ e. (omega arith, omega arith))
    (λ e. pick_ind (Longer (y ∷ ys)) (eqb x y) _ _ (λ f. (omega arith, omega arith)) (λ f. (omega arith, omega arith)))

module _ (l : List ℕ) (t : Tally) (place v : ℕ) (h : Holds t l) (few : t.count ≤ 56) where
  abbrev n : ℕ
  n = t.count

  abbrev w : List ℕ
  w = insert v (take n l)

  abbrev Took : Tally → List ℕ → Type 0
  Took r m = Takes t l (record { place = place; variable = v } ∷ []) r m

  front : length (take n l) ≡ n
  front = length-take-le n l (omega (arith, h.size, few))

  ascending : Sorted (take n l)
  ascending = rw (few_used t few) at h.sorted

  -- with r variables, which are few as well
  module _ (r : Tally) (m : List ℕ) (same : length w ≡ r.count) (room : length w ≤ 56) (b : m ≡ sets l 0 w) where
    now_few : r.count ≤ 56
    now_few = omega arith

    parts : m ≡ w ++ drop r.count l
    parts = b ∙ sets-eq w l 0 (omega (arith, h.size)) ∙ rw (zero-add, same)

    first : take r.count m ≡ w
    first = ap (take r.count) parts ∙ take_at w (drop r.count l) r.count same

    inserted : Took r m
    unfolding further collect
    inserted =
        let long : n ≤ length w = omega (arith, (insert_length v (take n l)).0, front) in
        record {
          holds = record { size = ap length b ∙ length-sets l 0 w ∙ h.size; most = omega arith; sorted = rw (few_used r now_few, first) (insert_from 0 v (take n l) (omega arith) ascending) };
          more = omega (arith, few_used t few, few_used r now_few);
          gathers = few_gathered r now_few m ∙ ap all first ∙ rw (few_gathered t few l, le-leb (length w) 56 room);
          rest = rw (few_used r now_few) (ap (drop r.count) parts ∙ drop_at w (drop r.count l) r.count same);
        }

  -- a count that is told is that of the list with v, which has room
  told_by : (x : Bool) → leb (length w) (length l) ≡ x → (k : ℕ) → pick x (Some (length w)) None ≡ Some k → (length w ≡ k) × (length w ≤ 56)
  told_by true e k a = (cc, omega (arith, leb-true (length w) (length l) e, h.size))
  told_by false e k a = let z : ◌≡◌ {A = ℕ} 0 1 = cc in absurd (omega arith)

  told : (k : ℕ) → inserted_answer l n v ≡ Some k → (length w ≡ k) × (length w ≤ 56)
  unfolding inserted_answer
  told = told_by (leb (length w) (length l)) refl

  pub fits : (k : ℕ) → inserted_answer l n v ≡ Some k → k ≤ 56
  fits k a = let c = told k a in omega arith

  pub counts : {m : List ℕ} (k : ℕ) → inserted_answer l n v ≡ Some k → m ≡ inserted_list l n v → Took (record { count = k; place = t.place }) m
  unfolding inserted_list
  counts {m} k a b =
      let c = told k a in
      inserted (record { count = k; place = t.place }) m c.0 c.1 (b ∙ rw (le-leb (length w) (length l) (omega (arith, h.size))))

  overflows_by : (x : Bool) → leb (length w) (length l) ≡ x → {m : List ℕ} → pick x (Some (length w)) None ≡ None → m ≡ pick x (sets l 0 w) l → Took (record { count = 57; place = place }) m
  unfolding used gathered further collect
  overflows_by true e a b = let z : ◌≡◌ {A = ℕ} 0 1 = cc in absurd (omega arith)
  overflows_by false e {m} a b =
      let over : 56 < length w = omega (arith, leb-false (length w) (length l) e, h.size) in
      let whole : take n l ≡ l = take_all n l (omega (arith, (insert_length v (take n l)).1, front, h.size)) in
      let first : take 56 m ≡ take n l = ap (take 56) b ∙ take_all 56 l (omega (arith, h.size)) ∙ sym whole in
      record {
        holds = record { size = ap length b ∙ h.size; most = omega arith; sorted = rw first ascending };
        more = used_most t;
        gathers = ap (too_many place) (b ∙ sym whole) ∙ rw (le-ltb 56 n few, lt-leb (length w) 56 over);
        rest = ap (drop 56) b;
      }

  pub overflows : {m : List ℕ} → inserted_answer l n v ≡ None → m ≡ inserted_list l n v → Took (record { count = 57; place = place }) m
  unfolding inserted_answer inserted_list
  overflows = overflows_by (leb (length w) (length l)) refl

  -- what stands among them already
  pub known : (hs : List ℕ) {i : ℕ} → i ≡ index_by (take n l) hs v → i < n → Took t l
  unfolding further collect
  known hs {i} e k =
      let s = index_stands (take n l) hs v (omega (arith, front)) in
      let same : w ≡ take n l = insert_there (take n l) ascending _ v s.within s.holds in
      record { holds = h; more = omega arith; gathers = rw (few_gathered t few l, same, front, le-leb n 56 few); rest = refl }

-- after the 57th nothing is taken
pub full : {l : List ℕ} (t : Tally) (os : List Occurrence) → 56 < t.count → Holds t l → Takes t l os t l
unfolding further
full {l} t os many h = record { holds = h; more = omega arith; gathers = rw (many_gathered t many l); rest = refl }

-- ---- the variables of a record

module _ (b : List ℕ) (place i : ℕ) where
  pub no_more : {t : Tally} {l : List ℕ} (k : ℕ) → k ≤ 0 → Holds t l → Takes t l (of_operands place (operands_in b i k)) t l
  unfolding of_operands operands_in
  no_more zero e h = nothing h
  no_more (suc k) e h = absurd (omega arith)

  pub one_more_lem : {t r s : Tally} {l m n : List ℕ} (k : ℕ) → 0 < k → Takes t l (of_operand place (operand_in b i)) r m → Takes r m (of_operands place (operands_in b (i + 9) (k - 1))) s n → Takes t l (of_operands place (operands_in b i k)) s n
  unfolding of_operands operands_in
  one_more_lem zero e x y = absurd (omega arith)
  one_more_lem (suc k) e x y = then x (rw sub-one at y)

-- ---- the end

module _ (r : Tally) (m : List ℕ) (h : Holds r m) where
  answer_by : (x : Bool) → ltb 56 r.count ≡ x → (found : Found) → pick x (Err (TooMany r.place)) (Ok (found, r.count)) ≡ counted found (pick x (too_many r.place m) (all (take r.count m)))
  unfolding counted
  answer_by true e found = refl
  answer_by false e found = ap (λ (n : ℕ). Ok (found, n)) (sym (length-take-le r.count m (omega (arith, h.size, ltb-false 56 r.count e))))

  answer_of : (found : Found) → tallied found r ≡ counted found (gathered r m)
  unfolding tallied gathered
  answer_of = answer_by (ltb 56 r.count) refl

  size_by_lem : (x : Bool) → ltb 56 r.count ≡ x → length (variables_of (pick x (too_many r.place m) (all (take r.count m)))) ≡ pick x 56 r.count
  unfolding variables_of
  size_by_lem true e = h.size
  size_by_lem false e = length-take-le r.count m (omega (arith, h.size, ltb-false 56 r.count e))

  size_of : length (variables_of (gathered r m)) ≡ used r
  unfolding gathered used
  size_of = size_by_lem (ltb 56 r.count) refl

  list_by : (x : Bool) → m ≡ variables_of (pick x (too_many r.place m) (all (take r.count m))) ++ drop (pick x 56 r.count) m
  unfolding variables_of
  list_by true = sym (ap (λ (x : List ℕ). m ++ x) (drop_of_length-le m {i = 56} (omega (arith, h.size))) ∙ append-nil m)
  list_by false = sym (take-append-drop r.count m)

  list_of : m ≡ variables_of (gathered r m) ++ drop (used r) m
  unfolding gathered used
  list_of = list_by (ltb 56 r.count)

module _ {t : Tally} {l m : List ℕ} {os : List Occurrence} {r : Tally} (a : Takes t l os r m) where
  pub answer : (found : Found) → tallied found r ≡ counted found (further (gathered t l) os)
  answer found = answer_of r m a.holds found ∙ ap (counted found) a.gathers

  pub afterwards : length l ≡ 56 → m ≡ sets l 0 (variables_of (further (gathered t l) os))
  afterwards size =
      let vs = variables_of (gathered r m) in
      let n = size_of r m a.holds in
      let room : 0 + length vs ≤ length l = omega (arith, used_most r) in
      list_of r m a.holds ∙ ap (λ (x : List ℕ). vs ++ x) (a.rest ∙ rw (sym n) (rw zero-add refl)) ∙ sym (sets-eq vs l 0 room) ∙ ap (λ (c : Collected). sets l 0 (variables_of c)) a.gathers
