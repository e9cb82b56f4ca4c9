-- What the passes before the measuring leave: each block's flag and the numbers of its targets are those of the definitions.
use mathlib.Core.Path.{◌≡◌, refl, sym, ap, ◌∙◌}
use mathlib.Core.Bool.{Bool, true, false}
use mathlib.Core.List.{List, [], ◌∷◌}
use Prim.Native.Nat.{ℕ, zero, suc, ◌+◌, ◌*◌, ◌≤◌, ◌<◌}
use native.Mathlib.Omega.{arith}
use lib.Dec.{eqb}
use lib.ListN.{length, get_or, take, drop, get_or-append, get_or-eq_default}
use lib.Seq.{sets, sets-eq, length-sets, get_or-take}
use Rattle.wire.specs.Pick.{pick}
use Rattle.ir.specs.declared.Terminator.{Terminator}
use Rattle.ir.specs.declared.Terminator.TheVariants.{Return, Jump, Branch}
use Rattle.unitfile.specs.Unit.{BasicBlock, parse}
use Rattle.survey.specs.Collected.{all, collected}
use Rattle.survey.specs.Surveyed as survey
use Rattle.survey.specs.Surveyed.{blocks_of}
use Rattle.survey.proofs.Answers.{unit_means}
use Rattle.survey.proofs.Bounds.{few_blocks}
use Rattle.survey.proofs.Flat.{ids_count}
use Rattle.survey.proofs.Fronts.{front_variables, front_ids, front_endings}
use Rattle.survey.proofs.Sorted.{all_fits}
use Rattle.flow.specs.Node.{Node}
use Rattle.flow.specs.Computed.{is_reached}
use Rattle.flow.specs.Linked as flow
use Rattle.flow.specs.Linked.{targets_at, number_from, linked_targets, linked_flags, room}
use Rattle.flow.proofs.Numbers.{block_at, nodes_are}
use Rattle.flow.proofs.Laws.{linked_target, linked_flag}
use Rattle.flow.proofs.Room.{room_true}
use Rattle.layout.specs.Emitted.{targets, nodes}
use Rattle.unitfile.specs.declared.Found.{Found}
use Rattle.jumps.specs.Landed.{marked}
use Rattle.passes.specs.Notes.{count_of, first_target, second_target, counts_of, pairs_of, Noted}
use Rattle.passes.specs.Stages.{Spacious, Surveyed, Linked}
use Rattle.std.specs.Prelude.{Ok}

-- ---- a list that stands at the front of another

pub stored_at : (xs l : List ℕ) (k : ℕ) → length xs ≤ length l → k < length xs → get_or (sets l 0 xs) k 0 ≡ get_or xs k 0
stored_at xs l k h b = ap (λ (m : List ℕ). get_or m k 0) (sets-eq xs l 0 (omega arith)) ∙ get_or-append xs (drop (0 + length xs) l) 0 k b

front_at : (l xs : List ℕ) (n k : ℕ) → take n l ≡ xs → k < n → get_or l k 0 ≡ get_or xs k 0
front_at l xs n k e h = sym (get_or-take n l k 0 h) ∙ ap (λ (m : List ℕ). get_or m k 0) e

counts_length : (bs : List BasicBlock) → length (counts_of bs) ≡ length bs
unfolding counts_of
counts_length [] = refl
counts_length (b ∷ bs) = ap suc (counts_length bs)

pub pairs_length : (bs : List BasicBlock) → length (pairs_of bs) ≡ 2 * length bs
unfolding pairs_of
pairs_length [] = refl
pairs_length (b ∷ bs) = omega (arith, pairs_length bs)

-- ---- after a survey

module _ (b l : List ℕ) {found : Found} {n : ℕ} {vs : List ℕ} (answer : survey.surveyed b ≡ Ok (found, n)) (variables : vs ≡ survey.surveyed_variables b l) (size : length l ≡ 56) where
  -- the variables stand in their list
  pub variables_inside : n ≤ length vs
  unfolding survey.surveyed_variables
  variables_inside =
      let u = unit_means b found n answer in
      omega (arith, u.count, (all_fits _ _ u.collects).few, ap length variables, length-sets l 0 (survey.variables_of (collected (blocks_of (parse b)))))

  pub surveyed : (is₀ es₀ : List ℕ) {is es : List ℕ} {k : ℕ} → k ≡ n → is ≡ survey.surveyed_ids b is₀ → es ≡ survey.surveyed_endings b es₀ → length (blocks_of (parse b)) ≤ length is₀ → length (blocks_of (parse b)) ≤ length es₀ → Surveyed b found (take k vs) is es
  surveyed is₀ es₀ {k = k} part p q h e =
      let u = unit_means b found n answer in
      record {
        read = u.read;
        collects = u.collects ∙ ap all (sym (ap (λ (j : ℕ). take j vs) part ∙ ap (take n) variables ∙ front_variables b l u size));
        ids = ap (take (length (blocks_of (parse b)))) p ∙ front_ids b is₀ h;
        endings = ap (take (length (blocks_of (parse b)))) q ∙ front_endings b es₀ e;
      }

-- lists that hold the blocks still do
pub surveyed_spacious : (b is₀ es₀ : List ℕ) {is es : List ℕ} {n cs ts ns em ls : ℕ} → is ≡ survey.surveyed_ids b is₀ → es ≡ survey.surveyed_endings b es₀ → Spacious n (length is₀) (length es₀) cs ts ns em ls → Spacious n (length is) (length es) cs ts ns em ls
unfolding survey.surveyed_ids survey.surveyed_endings
surveyed_spacious b is₀ es₀ p q s =
    let x = ap length p ∙ length-sets is₀ 0 (survey.ids (blocks_of (parse b))) in
    let y = ap length q ∙ length-sets es₀ 0 (survey.endings (blocks_of (parse b))) in
    record { ids = omega (arith, x, s.ids); endings = omega (arith, y, s.endings); counts = s.counts; named = s.named; numbers = s.numbers; emitted = s.emitted; most = s.most; edges = s.edges }

-- lists for m blocks
pub spacious : (n m : ℕ) → n ≤ m → m ≤ 1024 → Spacious n m m m (2 * m) (2 * m) m (m + 1)
spacious n m h k = record { ids = h; endings = h; counts = h; named = omega arith; numbers = omega arith; emitted = h; most = k; edges = omega arith }

-- ---- a unit's blocks for control flow, by the lists of their counts and targets

nodes_length : (bs : List BasicBlock) → length (nodes bs) ≡ length bs
unfolding nodes
nodes_length [] = refl
nodes_length (b ∷ bs) = ap suc (nodes_length bs)

-- the targets of block k of some blocks are those of block suc k of one block more
next_targets : (c k x y : ℕ) (l : List ℕ) → targets_at c k l ≡ targets_at c (suc k) (x ∷ y ∷ l)
unfolding targets_at
next_targets zero k x y l = refl
next_targets (suc zero) k x y l = let e : 2 * suc k ≡ suc (suc (2 * k)) = omega arith in rw e
next_targets (suc (suc c)) k x y l =
    let e : 2 * suc k ≡ suc (suc (2 * k)) = omega arith in
    let f : 2 * suc k + 1 ≡ suc (suc (2 * k + 1)) = omega arith in
    rw (f, e)

first_targets : (t : Terminator) (l : List ℕ) → targets t ≡ targets_at (count_of t) 0 (first_target t ∷ second_target t ∷ l)
unfolding targets targets_at count_of first_target second_target
first_targets (Return o) l = refl
first_targets (Jump target) l = refl
first_targets (Branch o to other) l = refl

node_at_lem : (bs : List BasicBlock) (k : ℕ) (d : Node) → k < length bs → get_or (nodes bs) k d ≡ block_at (counts_of bs) (pairs_of bs) (get_or (survey.ids bs) k 0) k
unfolding nodes counts_of pairs_of survey.ids
node_at_lem [] k d h = absurd (omega arith)
node_at_lem (b ∷ bs) zero d h = ap (λ (l : List ℕ). record { id = b.id; targets = l }) (first_targets b.terminator (pairs_of bs))
node_at_lem (b ∷ bs) (suc k) d h =
    node_at_lem bs k d (omega arith)
    ∙ ap (λ (l : List ℕ). record { id = get_or (survey.ids bs) k 0; targets = l }) (next_targets (get_or (counts_of bs) k 0) k (first_target b.terminator) (second_target b.terminator) (pairs_of bs))

same_targets : (c k : ℕ) (l m : List ℕ) → get_or l (2 * k) 0 ≡ get_or m (2 * k) 0 → get_or l (2 * k + 1) 0 ≡ get_or m (2 * k + 1) 0 → targets_at c k l ≡ targets_at c k m
unfolding targets_at
same_targets zero k l m p q = refl
same_targets (suc zero) k l m p q = rw p
same_targets (suc (suc c)) k l m p q = rw (p, q)

module _ (bs : List BasicBlock) (counts named : List ℕ) (cs : (k : ℕ) → k < length bs → get_or counts k 0 ≡ get_or (counts_of bs) k 0) (ts : (k : ℕ) → k < 2 * length bs → get_or named k 0 ≡ get_or (pairs_of bs) k 0) where
  nodes_same : flow.nodes (survey.ids bs) counts named ≡ nodes bs
  nodes_same =
      let n = ids_count bs in
      nodes_are counts named (survey.ids bs) (nodes bs) (record { id = 0; targets = [] }) (nodes_length bs ∙ sym n)
      (λ k h.
      node_at_lem bs k _ (omega arith)
      ∙ ap (λ (l : List ℕ). record { id = get_or (survey.ids bs) k 0; targets = l })
      (same_targets (get_or (counts_of bs) k 0) k (pairs_of bs) named (sym (ts (2 * k) (omega arith))) (sym (ts (2 * k + 1) (omega arith)))
      ∙ ap (λ (c : ℕ). targets_at c k named) (sym (cs k (omega arith)))))

-- ---- together

flag_is : (t : Bool) → eqb (pick t 1 0) 1 ≡ t
flag_is true = refl
flag_is false = refl

-- aimed: the ids that are named, which become numbers
module _ (em : List ℕ) {b : List ℕ} {found : Found} {vs is es ms cs ts ns ms' counts named aimed numbers emitted : List ℕ} {n edges : ℕ} (s : Surveyed b found vs is es) (p : Spacious (length (blocks_of (parse b))) (length is) (length es) (length cs) (length ts) (length ns) (length em) edges) (k : Noted (blocks_of (parse b)) vs ms cs ts ms' counts named) (j : Noted (blocks_of (parse b)) vs ms cs ns ms' counts aimed) (whole : n ≡ length (blocks_of (parse b))) (links : numbers ≡ pick (room n is counts aimed em) (linked_targets n is aimed) aimed) (flags : emitted ≡ pick (room n is counts aimed em) (linked_flags n is counts aimed em) em) where
  abbrev bs : List BasicBlock
  bs = blocks_of (parse b)

  counts_size : length counts ≡ length cs
  counts_size = ap length k.counts ∙ length-sets cs 0 (counts_of bs)

  aimed_size : length aimed ≡ length ns
  aimed_size = ap length j.targets ∙ length-sets ns 0 (pairs_of bs)

  counts_at : (i : ℕ) → i < length bs → get_or counts i 0 ≡ get_or (counts_of bs) i 0
  counts_at i h =
      let l = counts_length bs in
      ap (λ (x : List ℕ). get_or x i 0) k.counts ∙ stored_at (counts_of bs) cs i (omega (arith, p.counts)) (omega arith)

  named_at_lem : (i : ℕ) → i < 2 * length bs → get_or named i 0 ≡ get_or (pairs_of bs) i 0
  named_at_lem i h =
      let l = pairs_length bs in
      ap (λ (x : List ℕ). get_or x i 0) k.targets ∙ stored_at (pairs_of bs) ts i (omega (arith, p.named)) (omega arith)

  aimed_at : (i : ℕ) → i < 2 * length bs → get_or aimed i 0 ≡ get_or (pairs_of bs) i 0
  aimed_at i h =
      let l = pairs_length bs in
      ap (λ (x : List ℕ). get_or x i 0) j.targets ∙ stored_at (pairs_of bs) ns i (omega (arith, p.numbers)) (omega arith)

  roomy : room n is counts aimed em ≡ true
  roomy =
      let x = counts_size in
      let y = aimed_size in
      room_true n is counts aimed em (omega (arith, whole, few_blocks b)) (omega (arith, whole, p.ids)) (omega (arith, whole, p.counts)) (omega (arith, whole, p.numbers)) (omega (arith, whole, p.emitted))

  links_all : numbers ≡ linked_targets n is aimed
  links_all = links ∙ ap (λ (t : Bool). pick t (linked_targets n is aimed) aimed) roomy

  flags_all : emitted ≡ linked_flags n is counts aimed em
  flags_all = flags ∙ ap (λ (t : Bool). pick t (linked_flags n is counts aimed em) em) roomy

  front_is : take n is ≡ survey.ids bs
  front_is = ap (λ (i : ℕ). take i is) whole ∙ s.ids

  same_nodes : flow.nodes (take n is) counts aimed ≡ nodes bs
  same_nodes = ap (λ (l : List ℕ). flow.nodes l counts aimed) front_is ∙ nodes_same bs counts aimed counts_at aimed_at

  agrees : (i : ℕ) → i < length bs → marked emitted i ≡ is_reached (nodes bs) (get_or (survey.ids bs) i 0)
  unfolding marked
  agrees i h =
      ap (λ (x : List ℕ). eqb (get_or x i 0) 1) flags_all
      ∙ ap (λ (x : ℕ). eqb x 1) (linked_flag n is counts aimed em (omega (arith, whole, p.ids)) (omega (arith, whole, p.emitted)) i (omega (arith, whole)))
      ∙ flag_is (is_reached (flow.nodes (take n is) counts aimed) (get_or is i 0))
      ∙ ap (λ (ns : List Node). is_reached ns (get_or is i 0)) same_nodes
      ∙ ap (is_reached (nodes bs)) (front_at is (survey.ids bs) (length bs) i s.ids h)

  emitted_size : length emitted ≡ length em
  unfolding linked_flags
  emitted_size = ap length flags_all ∙ length-sets em 0 (flow.flags (flow.nodes (take n is) counts aimed) (take n is))

  past : marked emitted 1024 ≡ false
  unfolding marked
  past = ap (λ (x : ℕ). eqb x 1) (get_or-eq_default emitted 0 {n = 1024} (omega (arith, emitted_size, p.most)))

  numbers_size : length numbers ≡ length ns
  unfolding linked_targets
  numbers_size = ap length links_all ∙ length-sets aimed 0 (flow.numbers (take n is) (take (2 * n) aimed)) ∙ aimed_size

  number : (i : ℕ) → i < 2 * length bs → get_or numbers i 0 ≡ number_from 0 (survey.ids bs) (get_or (pairs_of bs) i 0)
  number i h =
      ap (λ (x : List ℕ). get_or x i 0) links_all
      ∙ linked_target n is aimed (omega (arith, whole, aimed_size, p.numbers)) i (omega (arith, whole))
      ∙ ap (λ (l : List ℕ). number_from 0 l (get_or aimed i 0)) front_is
      ∙ ap (number_from 0 (survey.ids bs)) (aimed_at i h)

  pub linked : Linked bs emitted numbers es counts named
  linked =
      record {
        few = few_blocks b;
        agrees = agrees;
        past = past;
        number = number;
        told = record { ending = λ i h. front_at es (survey.endings bs) (length bs) i s.endings h; count = counts_at; names = named_at_lem };
        emitted_size = omega (arith, emitted_size, p.emitted);
        numbers_size = omega (arith, numbers_size, p.numbers);
      }
