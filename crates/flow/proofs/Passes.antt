-- What the passes make of each number of a list.
use Rattle.std.proofs.Common.{◌≡◌, ◌∙◌, refl, sym, ap, List, [], ◌∷◌, ℕ, suc, ◌<◌, ◌+◌, ◌≤◌, ◌++◌, map, length, get_or, set, take, drop, take_all, append-nil, arith}
use Rattle.std.proofs.lemmas.List.{length-map, get_or-map, get_or_default, drop_all}
use Rattle.std.proofs.lemmas.List.Edits.{sets, map_over_more}
use lib.Seq.{get_or-set_other}
use Rattle.wire.specs.Pick.{pick}
use Rattle.flow.specs.Node.{Node}
use Rattle.flow.specs.Computed.{is_reached}
use Rattle.flow.specs.Linked.{number_from, numbers, flags}

pub numbers_map : (ids l : List ℕ) → numbers ids l ≡ map (number_from 0 ids) l
unfolding numbers
numbers_map ids [] = refl
numbers_map ids (t ∷ l) = ap (λ (m : List ℕ). number_from 0 ids t ∷ m) (numbers_map ids l)

pub numbers_length : (ids l : List ℕ) → length (numbers ids l) ≡ length l
numbers_length ids l = ap length (numbers_map ids l) ∙ length-map l (number_from 0 ids)

pub numbers_at : (ids l : List ℕ) (j : ℕ) → j < length l → get_or (numbers ids l) j 0 ≡ number_from 0 ids (get_or l j 0)
numbers_at ids l j h = ap (λ (m : List ℕ). get_or m j 0) (numbers_map ids l) ∙ get_or-map (number_from 0 ids) l j 0 0 h

-- numbers, in place: i of the ids in old have become theirs
abbrev pub Numbered : List ℕ → List ℕ → ℕ → List ℕ → Type 0
Numbered ids old i l = l ≡ map (number_from 0 ids) (take i old) ++ drop i old

pub numbered_step : (ids old l : List ℕ) (i : ℕ) {r : ℕ} → i < length old → length l ≡ length old → r ≡ number_from 0 ids (get_or l i 0) → Numbered ids old i l → Numbered ids old (i + 1) (set l i r)
numbered_step ids old l i h e n s =
    let x = get_or l i 0 in
    rw n (map_over_more (number_from 0 ids) old l i x h s (get_or_default l i 0 x (omega arith)))

pub numbered_end : (ids old l : List ℕ) (i : ℕ) → length old ≤ i → Numbered ids old i l → l ≡ numbers ids old
numbered_end ids old l i h s = s ∙ rw (take_all i old h, drop_all i old h, append-nil) (sym (numbers_map ids old))

-- 1 for an id that is reached
abbrev pub flag : List Node → ℕ → ℕ
flag ns id = pick (is_reached ns id) 1 0

pub flags_map : (ns : List Node) (l : List ℕ) → flags ns l ≡ map (flag ns) l
unfolding flags
flags_map ns [] = refl
flags_map ns (id ∷ l) = ap (λ (m : List ℕ). flag ns id ∷ m) (flags_map ns l)

pub flags_length : (ns : List Node) (l : List ℕ) → length (flags ns l) ≡ length l
flags_length ns l = ap length (flags_map ns l) ∙ length-map l (flag ns)

pub flags_at : (ns : List Node) (l : List ℕ) (i : ℕ) → i < length l → get_or (flags ns l) i 0 ≡ flag ns (get_or l i 0)
flags_at ns l i h = ap (λ (m : List ℕ). get_or m i 0) (flags_map ns l) ∙ get_or-map (flag ns) l i 0 0 h

-- ---- a stored list

pub sets_before : (o p : List ℕ) (q j : ℕ) → j < q → get_or (sets p q o) j 0 ≡ get_or p j 0
sets_before [] p q j h = refl
sets_before (x ∷ o) p q j h = sets_before o (set p q x) (suc q) j (omega arith) ∙ get_or-set_other p q j x 0 (λ (e : j ≡ q). omega arith)
