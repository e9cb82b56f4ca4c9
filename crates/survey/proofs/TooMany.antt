-- 10 comes exactly where there is a 57th distinct variable, at the record that brings it; where it does not come, the collected ones are those that occur.
use mathlib.Core.Path.{◌≡◌, refl, sym, ap, ◌∙◌, subst}
use mathlib.Core.Bool.{Bool, true, false}
use mathlib.Core.List.{List, [], ◌∷◌, ◌++◌, append-nil}
use Prim.Native.Nat.{ℕ, suc, ◌<◌, ◌≤◌}
use native.Mathlib.Omega.{arith}
use borrow.Author.Tests.{ltb-true, eqb-true, eqb-false, leb-true, leb-false, eq-eqb, ne_eqb, lt-leb}
use lib.Dec.{eqb, leb, ltb}
use lib.ListN.{length}
use lib.Seq.{append_snoc}
use Rattle.wire.specs.Pick.{pick, either}
use Rattle.frame.specs.Variables.{From, none, insert}
use Rattle.frame.specs.Apart.{Disjoint}
use Rattle.frame.proofs.Apart.{disjoint}
use Rattle.frame.proofs.Sorted.{first_above, rest_above}
use Rattle.unitfile.specs.Unit.{BasicBlock}
use Rattle.opening.proofs.Choice.{pick_ind}
use Rattle.survey.specs.Occurrences.{Occurrence, occurrences}
use Rattle.survey.specs.Collected.{Collected, all, too_many, collect, collected}
use Rattle.survey.specs.Inner.{further}
use Rattle.survey.specs.Surveyed.{variables_of}
use Rattle.survey.specs.TooMany.{named, distinct, Brings57th, is_in, Exactly, TenExactly}
use Rattle.survey.proofs.Sorted.{insert_from, all_fits}
use Rattle.survey.proofs.Tallies.{collect_append}

-- ---- either

swap : (a b c : Bool) → either a (either b c) ≡ either b (either a c)
swap true true c = refl
swap true false c = refl
swap false true c = refl
swap false false c = refl

again : (a c : Bool) → either a c ≡ either a (either a c)
again true c = refl
again false c = refl

-- ---- what is in a sorted list with one more

abbrev one_more_if : Bool → ℕ → ℕ
one_more_if t n = pick t n (suc n)

suc_if : (t : Bool) (n : ℕ) → suc (one_more_if t n) ≡ one_more_if t (suc n)
suc_if true n = refl
suc_if false n = refl

-- none below the first
not_below : {low : ℕ} (x : ℕ) (l : List ℕ) → x < low → From low l → is_in x l ≡ false
unfolding is_in
not_below x [] h r = refl
not_below {low} x (y ∷ ys) h r =
    let f : low ≤ y = first_above r in
    rw (ne_eqb x y (λ e. omega arith)) (not_below x ys (omega arith) (rest_above r))

insert_size : {low : ℕ} (x : ℕ) (l : List ℕ) → From low l → length (insert x l) ≡ one_more_if (is_in x l) (length l)
unfolding insert is_in
insert_size x [] r = refl
insert_size x (y ∷ ys) r =
    pick_ind (λ (m : List ℕ). length m ≡ one_more_if (either (eqb x y) (is_in x ys)) (suc (length ys))) (ltb x y) _ _
    (λ t. let l = ltb-true x y t in rw (ne_eqb x y (λ e. omega arith), not_below x ys (omega arith) (rest_above r)) refl)
    (λ t. go (eqb x y) (insert_size x ys (rest_above r)))
  where
    go : (t : Bool) → length (insert x ys) ≡ one_more_if (is_in x ys) (length ys) → length (pick t (y ∷ ys) (y ∷ insert x ys)) ≡ one_more_if (either t (is_in x ys)) (suc (length ys))
    go true i = refl
    go false i = ap suc i ∙ suc_if (is_in x ys) (length ys)

insert_has : (v x : ℕ) (l : List ℕ) → is_in v (insert x l) ≡ either (eqb v x) (is_in v l)
unfolding insert is_in
insert_has v x [] = refl
insert_has v x (y ∷ ys) =
    pick_ind (λ (m : List ℕ). is_in v m ≡ either (eqb v x) (either (eqb v y) (is_in v ys))) (ltb x y) _ _
    (λ t. refl)
    (λ t. pick_ind (λ (m : List ℕ). is_in v m ≡ either (eqb v x) (either (eqb v y) (is_in v ys))) (eqb x y) _ _
    (λ e. rw (eqb-true x y e) (again (eqb v y) (is_in v ys)))
    (λ e. ap (either (eqb v y)) (insert_has v x ys) ∙ swap (eqb v y) (eqb v x) (is_in v ys)))

-- ---- one occurrence more

named_more : (v : ℕ) (os : List Occurrence) (o : Occurrence) → named v (os ++ (o ∷ [])) ≡ either (eqb v o.variable) (named v os)
unfolding named
named_more v [] o = refl
named_more v (p ∷ os) o = ap (either (eqb v p.variable)) (named_more v os o) ∙ swap (eqb v p.variable) (eqb v o.variable) (named v os)

commute : (s t : Bool) (n : ℕ) → one_more_if s (one_more_if t n) ≡ one_more_if t (one_more_if s n)
commute true true n = refl
commute true false n = refl
commute false true n = refl
commute false false n = refl

distinct_more : (os : List Occurrence) (o : Occurrence) → distinct (os ++ (o ∷ [])) ≡ one_more_if (named o.variable os) (distinct os)
unfolding named distinct
distinct_more [] o = refl
distinct_more (p ∷ os) o = rw (named_more p.variable os o, distinct_more os o) (go (eqb p.variable o.variable) refl)
  where
    go : (t : Bool) → eqb p.variable o.variable ≡ t → one_more_if (either t (named p.variable os)) (one_more_if (named o.variable os) (distinct os)) ≡ one_more_if (either (eqb o.variable p.variable) (named o.variable os)) (one_more_if (named p.variable os) (distinct os))
    go true e =
        let q = sym (eqb-true p.variable o.variable e) in
        rw (eq-eqb o.variable p.variable q) (ap (λ (v : ℕ). one_more_if (named v os) (distinct os)) q)
    go false e =
        rw (ne_eqb o.variable p.variable (λ q. eqb-false p.variable o.variable e (sym q)))
        (commute (named p.variable os) (named o.variable os) (distinct os))

not_fewer : (t : Bool) (n : ℕ) → n ≤ one_more_if t n
not_fewer true n = omega arith
not_fewer false n = omega arith

grows : (os ps : List Occurrence) → distinct os ≤ distinct (os ++ ps)
grows os [] = rw append-nil (omega arith)
grows os (p ∷ ps) =
    let more = grows (os ++ (p ∷ [])) ps in
    let one = not_fewer (named p.variable os) (distinct os) in
    rw (← append_snoc os p ps) (omega (arith, distinct_more os p))

-- ---- the variables of the occurrences that came

nothing_yet : Exactly [] []
unfolding is_in named distinct
nothing_yet = record { sorted = none; size = refl; same = λ v. refl }

module _ (earlier : List Occurrence) (vs : List ℕ) (e : Exactly earlier vs) (o : Occurrence) where
  with_one : Exactly (earlier ++ (o ∷ [])) (insert o.variable vs)
  with_one =
      record {
        sorted = insert_from 0 o.variable vs (omega arith) e.sorted;
        size = insert_size o.variable vs e.sorted ∙ rw (e.same o.variable, e.size) (sym (distinct_more earlier o));
        same = λ v. insert_has v o.variable vs ∙ ap (either (eqb v o.variable)) (e.same v) ∙ sym (named_more v earlier o);
      }

  -- one that is too many is new, after 56
  full_by : (t : Bool) → is_in o.variable vs ≡ t → length vs ≤ 56 → 56 < length (insert o.variable vs) → (length vs ≡ 56) × (is_in o.variable vs ≡ false)
  full_by true i few over = absurd (omega (arith, rw i at (insert_size o.variable vs e.sorted)))
  full_by false i few over = (omega (arith, rw i at (insert_size o.variable vs e.sorted)), i)

  full : length vs ≤ 56 → 56 < length (insert o.variable vs) → (distinct earlier ≡ 56) × (named o.variable earlier ≡ false)
  full few over =
      let f = full_by (is_in o.variable vs) refl few over in
      (sym e.size ∙ f.0, sym (e.same o.variable) ∙ f.1)

exactly : (os earlier : List Occurrence) (vs ws : List ℕ) → Exactly earlier vs → collect vs os ≡ all ws → Exactly (earlier ++ os) ws
unfolding collect
exactly [] earlier vs ws e =
    λ h.
    let z : vs ≡ ws = cc in
    rw append-nil (subst (Exactly earlier) z e)
exactly (o ∷ os) earlier vs ws e =
    pick_ind (λ (c : Collected). c ≡ all ws → Exactly (earlier ++ (o ∷ os)) ws) (leb (length (insert o.variable vs)) 56) _ _
    (λ t h. rw append_snoc at (exactly os (earlier ++ (o ∷ [])) (insert o.variable vs) ws (with_one earlier vs e o) h))
    (λ t h. let z : ◌≡◌ {A = ℕ} 0 1 = cc in absurd (omega arith))

brings : (os earlier : List Occurrence) (vs ws : List ℕ) (place : ℕ) → Exactly earlier vs → length vs ≤ 56 → collect vs os ≡ too_many place ws → Brings57th (earlier ++ os) place
unfolding collect
brings [] earlier vs ws place e few = λ h. let z : ◌≡◌ {A = ℕ} 0 1 = cc in absurd (omega arith)
brings (o ∷ os) earlier vs ws place e few =
    pick_ind (λ (c : Collected). c ≡ too_many place ws → Brings57th (earlier ++ (o ∷ os)) place) (leb (length (insert o.variable vs)) 56) _ _
    (λ t h. rw append_snoc at (brings os (earlier ++ (o ∷ [])) (insert o.variable vs) ws place (with_one earlier vs e o) (leb-true _ _ t) h))
    (λ t h.
    let f = full earlier vs e o few (leb-false _ _ t) in
    record { earlier = earlier; here = o; later = os; are = refl; at = cc; before = f.0; new = f.1 })

-- ---- the 57th that comes is told

record Full (place : ℕ) (c : Collected) : Type 0 where
  variables : List ℕ
  is : c ≡ too_many place variables

after_56 : (o : Occurrence) (later earlier : List Occurrence) (vs : List ℕ) → Exactly earlier vs → distinct earlier ≡ 56 → named o.variable earlier ≡ false → collect vs (o ∷ later) ≡ too_many o.place vs
unfolding collect
after_56 o later earlier vs e before new =
    let size = rw (e.same o.variable ∙ new) at (insert_size o.variable vs e.sorted) in
    rw (lt-leb (length (insert o.variable vs)) 56 (omega (arith, e.size))) refl

module _ (os : List Occurrence) (place : ℕ) (k : Brings57th os place) where
  comes_by : (c : Collected) → collect [] k.earlier ≡ c → Full place (further c (k.here ∷ k.later))
  unfolding further
  comes_by (all vs) h =
      let e = exactly k.earlier [] [] vs nothing_yet h in
      record { variables = vs; is = after_56 k.here k.later k.earlier vs e k.before k.new ∙ ap (λ (p : ℕ). too_many p vs) k.at }
  comes_by (too_many p vs) h =
      let b = brings k.earlier [] [] vs p nothing_yet (omega arith) h in
      let one = rw b.new at (distinct_more b.earlier b.here) in
      let more = grows (b.earlier ++ (b.here ∷ [])) b.later in
      let same : distinct (b.earlier ++ (b.here ∷ []) ++ b.later) ≡ 56 = ap distinct (append_snoc b.earlier b.here b.later ∙ sym b.are) ∙ k.before in
      absurd (omega (arith, b.before))

  comes_to : Full place (collect [] os)
  comes_to = rw (k.are, collect_append [] k.earlier (k.here ∷ k.later)) (comes_by (collect [] k.earlier) refl)

pub ten_exactly : (bs : List BasicBlock) → TenExactly bs
unfolding collected variables_of
ten_exactly bs =
    record {
      told = λ place vs h. brings (occurrences bs) [] [] vs place nothing_yet (omega arith) h;
      comes = λ place k. let f = comes_to (occurrences bs) place k in f.is ∙ ap (too_many place) (sym (ap variables_of f.is));
      otherwise = λ vs h. exactly (occurrences bs) [] [] vs nothing_yet h;
    }

-- ---- the frame of a unit

-- where all were collected, no cells overlap
pub unit_disjoint : (bs : List BasicBlock) (vs : List ℕ) → collected bs ≡ all vs → Disjoint vs
unit_disjoint bs vs e = disjoint vs (all_fits bs vs e).few
