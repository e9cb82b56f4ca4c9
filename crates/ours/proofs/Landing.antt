-- Every jump of a terminator lands on the last emitted block with the id it names, and its offset is the distance; 18 where there is none, 19 where that is too far.
use mathlib.Core.Path.{◌≡◌, refl, sym, ap, ◌∙◌, subst}
use mathlib.Core.Bool.{true, false}
use mathlib.Core.Logic.{◌⊎◌, inl, inr, ⊎_elim}
use mathlib.Core.List.Memᴰ
use mathlib.Core.List.{List, [], ◌∷◌, ◌++◌, Memᴰ}
use Prim.Native.Nat.{ℕ, ◌+◌, ◌^◌, ◌<◌}
use native.Mathlib.Decide.{ℕ_discrete}
use native.Mathlib.Omega.{arith}
use borrow.Author.Tests.{eq-eqb, ne_eqb, lt-ltb, le-ltb}
use lib.IntN.{ℤ, pos, negsuc}
use lib.Signed.{mag}
use Rattle.wire.specs.Range.{fits16}
use Rattle.unitfile.specs.Unit.{BasicBlock}
use Rattle.lower.specs.Op.{Op}
use Rattle.layout.specs.Layout.{laid, Context, block, unit_ops, ops, scratch_through, slots}
use Rattle.layout.specs.Jumps.{Start, starts_from, starts, to, nowhere, or_this, last_start, distance, Jump, jumps, Landing, lands, no_target, too_far, on_target, or_rest, landing}
use Rattle.layout.specs.Code.{insns, code_bytes}
use Rattle.shape.specs.Code.{at}
use Rattle.ours.specs.Landing.{begins_from, begins, scratch_left, StandAt, NoneHas, LastBlock, OnLast, InRange, Near, FirstAtFault}
use Rattle.ours.proofs.Endings.{Reaches, landing_first}
use Rattle.ours.proofs.Jumping.{Jumped, jumped, block_placed}

-- ---- the last block with an id

module _ (c : Context) (id : ℕ) where
  no_start : (j s : ℕ) (bs : List BasicBlock) → NoneHas bs id → last_start (starts_from c j s bs) id ≡ nowhere
  unfolding starts_from last_start or_this
  no_start j s [] n = refl
  no_start j s (b ∷ bs) n = rw (no_start (scratch_through j b.instructions) (s + slots (block c j b)) bs (λ k m. n k (Memᴰ.tail m)), ne_eqb b.id id (n b (Memᴰ.head refl)))

  start_of : (j s : ℕ) (front : List BasicBlock) (b : BasicBlock) (back : List BasicBlock) → b.id ≡ id → NoneHas back id → last_start (starts_from c j s (front ++ (b ∷ back))) id ≡ to (begins_from c j s front)
  unfolding starts_from last_start or_this begins_from
  start_of j s [] b back e n = rw (no_start _ _ back n, eq-eqb b.id id e)
  start_of j s (x ∷ front) b back e n = rw (start_of (scratch_through j x.instructions) (s + slots (block c j x)) front b back e n)

  last_start_lem : (bs : List BasicBlock) (L : LastBlock bs id) → last_start (starts c bs) id ≡ to (begins c L.front)
  unfolding starts begins
  last_start_lem bs L = rw L.is (start_of 0 1 L.front L.this L.back L.has L.last)

  behind : (b : BasicBlock) (bs : List BasicBlock) → LastBlock bs id → LastBlock (b ∷ bs) id
  behind b bs L = record { front = b ∷ L.front; this = L.this; back = L.back; is = ap (λ (l : List BasicBlock). b ∷ l) L.is; has = L.has; last = L.last }

  first : (b : BasicBlock) (bs : List BasicBlock) → Dec (b.id ≡ id) → NoneHas bs id → LastBlock (b ∷ bs) id ⊎ NoneHas (b ∷ bs) id
  first b bs (yes e) n = inl (record { front = []; this = b; back = bs; is = refl; has = e; last = n })
  first b bs (no f) n = inr (λ k m e. ⊎_elim (λ (q : k ≡ b). f (ap (λ (y : BasicBlock). y.id) (sym q) ∙ e)) (λ (q : Memᴰ k bs). n k q e) (Memᴰ.cases_cons m))

  sought : (bs : List BasicBlock) → LastBlock bs id ⊎ NoneHas bs id
  sought [] = inr (λ b m e. Memᴰ.not-nil m)
  sought (b ∷ bs) = ⊎_elim (λ L. inl (behind b bs L)) (λ n. first b bs (ℕ_discrete b.id id) n) (sought bs)

  found : (bs : List BasicBlock) (t : ℕ) → last_start (starts c bs) id ≡ to t → LastBlock bs id
  unfolding starts
  found bs t e = ⊎_elim (λ L. L) (λ n. let h = no_start 0 1 bs n in let z : ◌≡◌ {A = ℕ} 0 1 = cc in absurd (omega arith)) (sought bs)

-- ---- jumps that land

reached : (xs : List Start) (js : List Jump) → landing xs js ≡ lands → (x : Jump) → Memᴰ x js → Reaches xs x.own x.id
reached xs [] e x m = absurd (Memᴰ.not-nil m)
reached xs (j ∷ js) e x m =
    let p = landing_first xs j js e in
    ⊎_elim (λ (q : x ≡ j). subst (λ (y : Jump). Reaches xs y.own y.id) (sym q) p.0) (reached xs js p.1 x) (Memᴰ.cases_cons m)

within : (z : ℤ) → mag z < 2 ^ 15 → InRange z
unfolding InRange
within (pos n) h = omega arith
within (negsuc n) h = omega arith

outside : (z : ℤ) → (InRange z → ⊥) → fits16 z ≡ false
unfolding InRange fits16
outside (pos n) h = le-ltb n (2 ^ 15) (omega arith)
outside (negsuc n) h = le-ltb n (2 ^ 15) (omega arith)

inside : (z : ℤ) → InRange z → fits16 z ≡ true
unfolding InRange fits16
inside (pos n) h = lt-ltb n (2 ^ 15) (omega arith)
inside (negsuc n) h = lt-ltb n (2 ^ 15) (omega arith)

all_land : (xs : List Start) (js : List Jump) → ((x : Jump) → Memᴰ x js → on_target x (last_start xs x.id) ≡ lands) → landing xs js ≡ lands
unfolding landing or_rest
all_land xs [] h = refl
all_land xs (j ∷ js) h = rw (h j (Memᴰ.head refl)) (all_land xs js (λ x m. h x (Memᴰ.tail m)))

rest_by : (x y z r : Landing) → or_rest x y ≡ lands → (y ≡ lands → z ≡ r) → or_rest x z ≡ r
unfolding or_rest
rest_by lands y z r e k = k e
rest_by (no_target p i) y z r e k = let w : ◌≡◌ {A = ℕ} 0 1 = cc in absurd (omega arith)
rest_by (too_far p i) y z r e k = let w : ◌≡◌ {A = ℕ} 0 1 = cc in absurd (omega arith)

-- the first jump that does not land decides
first_fault : (xs : List Start) (front : List Jump) (x : Jump) (back : List Jump) (f : Landing)
    → landing xs front ≡ lands → on_target x (last_start xs x.id) ≡ f → ((y : Landing) → or_rest f y ≡ f) → landing xs (front ++ (x ∷ back)) ≡ f
unfolding landing or_rest
first_fault xs [] x back f e h k = rw h (k (landing xs back))
first_fault xs (j ∷ front) x back f e h k = rest_by (on_target j (last_start xs j.id)) (landing xs front) _ _ e (λ d. first_fault xs front x back f d h k)

-- ---- the theorems

module _ (c : Context) (bs : List BasicBlock) where
  same_slot : (own id : ℕ) (R : Reaches (starts c bs) own id) (last : LastBlock bs id) → R.slot ≡ begins c last.front
  same_slot own id R last = let n = last_start_lem c id bs last in cc

  jumped_to : (l : List Op) → unit_ops c bs ≡ laid l → landing (starts c bs) (jumps c bs) ≡ lands → (x : Jump) → Memᴰ x (jumps c bs)
      → (last : LastBlock bs x.id) → Jumped (code_bytes (insns (starts c bs) 0 l)) x.own (begins c last.front)
  jumped_to l e h x m last =
      let R = reached (starts c bs) (jumps c bs) h x m in
      rw (← same_slot x.own x.id R last) (jumped c bs l e (starts c bs) x m R)

-- every jump that a terminator makes lands on the first slot of the last emitted block with the id it names, and nowhere else
pub lands_on_last : (c : Context) (bs : List BasicBlock) (l : List Op) → unit_ops c bs ≡ laid l → landing (starts c bs) (jumps c bs) ≡ lands
    → (x : Jump) → Memᴰ x (jumps c bs) → OnLast c bs (code_bytes (insns (starts c bs) 0 l)) x
lands_on_last c bs l e h x m =
    let R = reached (starts c bs) (jumps c bs) h x m in
    let last = found c x.id bs R.slot R.is in
    let J = jumped_to c bs l e h x m last in
    record { block = last; form = J.form; there = J.there; nowhere_else = J.only }

-- where that block's operations stand
pub block_stands : (c : Context) (bs : List BasicBlock) (l : List Op) → unit_ops c bs ≡ laid l
    → (id : ℕ) (last : LastBlock bs id) → StandAt 0 l (begins c last.front) (ops (block c (scratch_left 0 last.front) last.this))
block_stands c bs l e id last = block_placed c bs l e last.front last.this last.back last.is

-- a jump's offset field is target slot − own slot − 1
pub offset_exact : (c : Context) (bs : List BasicBlock) (l : List Op) → unit_ops c bs ≡ laid l → landing (starts c bs) (jumps c bs) ≡ lands
    → (x : Jump) → Memᴰ x (jumps c bs) → (last : LastBlock bs x.id)
    → (at (code_bytes (insns (starts c bs) 0 l)) x.own).off ≡ distance (begins c last.front) x.own
offset_exact c bs l e h x m last = (jumped_to c bs l e h x m last).off

-- where that is outside −32,768 to 32,767 for some jump, the unit is refused
pub never_wrapped : (c : Context) (bs : List BasicBlock) (x : Jump) → Memᴰ x (jumps c bs)
    → (last : LastBlock bs x.id) → (InRange (distance (begins c last.front) x.own) → ⊥) → landing (starts c bs) (jumps c bs) ≡ lands → ⊥
never_wrapped c bs x m last far h =
    let R = reached (starts c bs) (jumps c bs) h x m in
    far (rw (← same_slot c bs x.own x.id R last) (within _ R.near))

-- only a jump with no emitted target, or one too far from it, is refused
near_lands_in : (c : Context) (bs : List BasicBlock) (js : List Jump) → ((x : Jump) → Memᴰ x js → Near c bs x) → landing (starts c bs) js ≡ lands
unfolding on_target
near_lands_in c bs js h = all_land (starts c bs) js (λ x m. let n = h x m in rw (last_start_lem c x.id bs n.block, inside _ n.near))

pub near_lands : (c : Context) (bs : List BasicBlock) → ((x : Jump) → Memᴰ x (jumps c bs) → Near c bs x) → landing (starts c bs) (jumps c bs) ≡ lands
near_lands c bs h = near_lands_in c bs (jumps c bs) h

-- and the first of them is named, by the place of its terminator and the id: 18 where no emitted block has that id, 19 where the last that has it is too far
module _ (c : Context) (bs : List BasicBlock) (x : Jump) (first : FirstAtFault c bs x) where
  named : (f : Landing) → on_target x (last_start (starts c bs) x.id) ≡ f → ((y : Landing) → or_rest f y ≡ f) → landing (starts c bs) (jumps c bs) ≡ f
  named f h k = rw first.is (first_fault (starts c bs) first.front x first.back f (near_lands_in c bs first.front first.near) h k)

  pub no_target_lem : NoneHas bs x.id → landing (starts c bs) (jumps c bs) ≡ no_target x.place x.id
  unfolding starts on_target or_rest
  no_target_lem n = named (no_target x.place x.id) (rw (no_start c x.id 0 1 bs n)) (λ y. refl)

  pub too_far_lem : (last : LastBlock bs x.id) → (InRange (distance (begins c last.front) x.own) → ⊥) → landing (starts c bs) (jumps c bs) ≡ too_far x.place x.id
  unfolding on_target or_rest
  too_far_lem last far = named (too_far x.place x.id) (rw (last_start_lem c x.id bs last, outside _ far)) (λ y. refl)
