-- What is left to measure at a block: with the blocks that are still to come it ends as the definitions say.
use mathlib.Core.Path.{◌≡◌, refl, sym, ap, ◌∙◌, subst}
use mathlib.Core.Bool.{Bool, true, false}
use mathlib.Core.List.{List, [], ◌∷◌}
use Prim.Native.Nat.{ℕ, suc, ◌+◌, ◌*◌, ◌<◌, ◌≤◌}
use native.Mathlib.Nat.{zero-add}
use native.Mathlib.Numerals.{add-one}
use native.Mathlib.Omega.{arith}
use lib.ListN.{length, get_or, set, length-set, length-take}
use lib.Seq.{sets, get_or-take}
use Rattle.wire.specs.Pick.{pick}
use Rattle.record.specs.Frame.{next_at}
use Rattle.unitfile.specs.Unit.{BasicBlock, parse, read_unit}
use Rattle.unitfile.specs.declared.Found.{Found}
use Rattle.unitfile.proofs.Units.{unit_of}
use Rattle.survey.specs.Surveyed.{endings, blocks_of}
use Rattle.survey.proofs.Bounds.{blocks_count}
use Rattle.survey.proofs.Flat.{endings_count}
use Rattle.survey.specs.Standing.{BlockAt, Standing}
use Rattle.survey.proofs.Standing.{standing, standing_head, standing_tail}
use Rattle.lower.specs.Op.{slots_of, insn}
use Rattle.lower.specs.Operand.{move}
use Rattle.lower.specs.declared.Reason.{Reason}
use Rattle.layout.specs.Layout.{Laid, laid, refused_at, Context, at, ◌then◌, blocks, unit_ops, ops, slots}
use Rattle.layout.specs.Inner.{keep_by, block_by, scratch_by, edges, maps_of}
use Rattle.layout.proofs.Laid.{nothing_then}
use Rattle.passes.specs.Notes.{EndsAt}
use Rattle.passes.specs.Tables.{size_of, Measured}
use Rattle.passes.specs.Rows.{BlockIn, SomeBlock, BlockSized, BlockTakes}
use Rattle.passes.proofs.Celled.{BlocksCelled, block_celled, blocks_celled}
use Rattle.passes.proofs.Sizing.{within, plus, plus_laid, plus_refused, plus_nothing}
use Rattle.std.specs.Prelude.{Err, Ok, Result}
use Rattle.wire.proofs.Pairs.{ok_parts}

-- ---- the first of the blocks that are kept, and the others

first_kept : (c : Context) (e : ℕ → Bool) (k j : ℕ) (b : BasicBlock) (bs : List BasicBlock) → blocks c j (keep_by e k (b ∷ bs)) ≡ (block_by c (e k) j b then blocks c (scratch_by (e k) j b) (keep_by e (suc k) bs))
unfolding keep_by blocks block_by scratch_by
first_kept c e k j b bs = go (e k)
  where
    go : (t : Bool) → blocks c j (pick t (b ∷ keep_by e (suc k) bs) (keep_by e (suc k) bs)) ≡ (block_by c t j b then blocks c (scratch_by t j b) (keep_by e (suc k) bs))
    go true = refl
    go false = sym (nothing_then _)

slots_are : (x : Laid) (n k : ℕ) → Ok (n, k) ≡ size_of x → slots x ≡ n
unfolding size_of slots ops
slots_are (laid a) n k e = sym (ok_parts e).0
slots_are (refused_at p r) n k e = let z : ◌≡◌ {A = ℕ} 0 1 = cc in absurd (omega arith)

first_slot : (x : Laid) → plus 1 0 x ≡ size_of (at 0 (move 6 1) then x)
unfolding plus size_of at move insn ◌then◌ slots_of maps_of
first_slot (laid l) =
    let g : 1 + slots_of l ≡ suc (slots_of l) = omega arith in
    let h : 0 + maps_of l ≡ maps_of l = omega arith in
    rw (g, h)
first_slot (refused_at p r) = refl

-- the edges after the first
unfoldable pub later : Context → (ℕ → Bool) → ℕ → ℕ → ℕ → List BasicBlock → List ℕ
later c e k j s [] = []
later c e k j s (b ∷ bs) = edges c e (suc k) (scratch_by (e k) j b) (s + slots (block_by c (e k) j b)) bs

edges_later : (c : Context) (e : ℕ → Bool) (k j s : ℕ) (bs : List BasicBlock) → edges c e k j s bs ≡ s ∷ later c e k j s bs
unfolding edges later
edges_later c e k j s [] = refl
edges_later c e k j s (b ∷ bs) = refl

record Head (bs : List BasicBlock) : Type 0 where
  block : BasicBlock
  others : List BasicBlock
  are : bs ≡ block ∷ others

head_of : (bs : List BasicBlock) → 0 < length bs → Head bs
head_of [] h = absurd (omega arith)
head_of (b ∷ bs) h = record { block = b; others = bs; are = refl }

none_left : (bs : List BasicBlock) → length bs ≡ 0 → bs ≡ []
none_left [] h = refl
none_left (b ∷ bs) h = absurd (omega arith)

-- ---- the places of the terminators

module _ (b es : List ℕ) (ends : EndsAt b es) where
  abbrev all : List BasicBlock
  all = blocks_of (parse b)

  ending_at : (i : ℕ) → i < length all → get_or es i 0 ≡ get_or (endings all) i 0
  ending_at i l = sym (get_or-take (length all) es i 0 l) ∙ ap (λ (m : List ℕ). get_or m i 0) ends

  pub endings_inside : length all ≤ length es
  endings_inside = omega (arith, length-take (length all) es, ap length ends, endings_count all)

-- ---- at block k of n, which begins at a place, with s slots and m relocations so far, and the list ls, which was ls₁ before the first block

pub record Measuring (b : List ℕ) (c : Context) (e : ℕ → Bool) (es ls₁ ls : List ℕ) (n k place s m : ℕ) : Type 0 where
  pub left : List BasicBlock
  pub ring : ℕ
  pub standing : Standing b place left
  pub cells : BlocksCelled c.frame left
  pub count : k + length left ≡ n
  pub ends : (i : ℕ) → i < length left → get_or es (k + i) 0 ≡ get_or (endings left) i 0
  pub size : plus s m (blocks c ring (keep_by e k left)) ≡ size_of (unit_ops c (keep_by e 0 (blocks_of (parse b))))
  pub edges : sets ls (suc k) (later c e k ring s left) ≡ sets ls₁ 1 (later c e 0 0 1 (blocks_of (parse b)))
  pub slots : 4 * s ≤ 13 * place + 4
  pub relocs : 4 * m ≤ place
  pub short : place ≤ length b
  pub long : length ls ≡ length ls₁

pub start : (b : List ℕ) (found : Found) (c : Context) (e : ℕ → Bool) (es ls : List ℕ) → read_unit b ≡ Ok found → EndsAt b es → BlocksCelled c.frame (blocks_of (parse b)) → Measuring b c e es ls ls found.blocks 0 found.body 1 0
unfolding unit_ops
start b found c e es ls h ends cells =
    let bs = blocks_of (parse b) in
    record {
      left = bs;
      ring = 0;
      standing = standing b found h;
      cells = cells;
      count = zero-add (length bs) ∙ blocks_count b found h;
      ends = λ i l. ap (λ (k : ℕ). get_or es k 0) (zero-add i) ∙ ending_at b es ends i l;
      size = first_slot (blocks c 0 (keep_by e 0 bs));
      edges = refl;
      slots = omega arith;
      relocs = omega arith;
      short = (unit_of b found h).within;
      long = refl;
    }

module _ {b : List ℕ} {c : Context} {e : ℕ → Bool} {es ls₁ ls : List ℕ} {n k place s m : ℕ} (g : Measuring b c e es ls₁ ls n k place s m) where
  module _ (h : k < n) where
    abbrev first : Head g.left
    first = head_of g.left (omega (arith, g.count))

    stands : Standing b place (first.block ∷ first.others)
    stands = subst (Standing b place) first.are g.standing

    celled : BlocksCelled c.frame (first.block ∷ first.others)
    celled = subst (BlocksCelled c.frame) first.are g.cells

    counted : length g.left ≡ suc (length first.others)
    counted = ap length first.are

    ends_here : (i : ℕ) → i < suc (length first.others) → get_or es (k + i) 0 ≡ get_or (endings (first.block ∷ first.others)) i 0
    ends_here i l = g.ends i (omega (arith, counted)) ∙ ap (λ (bs : List BasicBlock). get_or (endings bs) i 0) first.are

    ending_is : first.block.ending ≡ get_or es k 0
    unfolding endings
    ending_is = let z : k + 0 ≡ k = omega arith in sym (ends_here 0 (omega arith)) ∙ ap (λ (i : ℕ). get_or es i 0) z

    head_at : BlockAt b place first.block
    head_at = standing_head stands

    block_in : BlockIn c.frame b (place + 8) (get_or es k 0) first.block
    block_in =
        let at = head_at in
        record {
          ending = ending_is;
          chain = rw (ending_is) at at.chain;
          ends = rw (ending_is) at at.ends;
          cells = block_celled celled;
        }

    pub some_block : SomeBlock c.frame b (place + 8) (get_or es k 0)
    some_block = record { block = first.block; stands = block_in }

    -- the next block's place lies in the unit
    pub inside : (place + 8 ≤ get_or es k 0) × (next_at b (get_or es k 0) ≤ length b)
    inside = (subst (λ (end : ℕ). place + 8 ≤ end) ending_is head_at.within, subst (λ (end : ℕ). next_at b end ≤ length b) ending_is head_at.after)

    module _ {r : Result (ℕ × ℕ) (ℕ × Reason)} (z : BlockTakes c b (e k) (place + 8) (get_or es k 0) r) where
      took : BlockSized c (e k) (place + 8) (get_or es k 0) first.block r
      took = z.each first.block block_in

      size_here : plus s m (block_by c (e k) g.ring first.block then blocks c (scratch_by (e k) g.ring first.block) (keep_by e (suc k) first.others)) ≡ size_of (unit_ops c (keep_by e 0 (blocks_of (parse b))))
      size_here = ap (plus s m) (sym (first_kept c e k g.ring first.block first.others)) ∙ ap (λ (bs : List BasicBlock). plus s m (blocks c g.ring (keep_by e k bs))) (sym first.are) ∙ g.size

      -- what the block adds still fits
      pub fits : {x y : ℕ} → r ≡ Ok (x, y) → (4 * (s + x) ≤ 13 * next_at b (get_or es k 0) + 4) × (4 * (m + y) ≤ next_at b (get_or es k 0))
      unfolding next_at
      fits {x} {y} q = let o = took.few x y q in (omega (arith, g.slots, o.0), omega (arith, g.relocs, o.1))

      pub on_block : {x y : ℕ} → r ≡ Ok (x, y) → Measuring b c e es ls₁ (set ls (k + 1) (s + x)) n (k + 1) (next_at b (get_or es k 0)) (s + x) (m + y)
      unfolding later endings
      on_block {x} {y} q =
          let j = scratch_by (e k) g.ring first.block in
          let o = fits q in
          let same : Ok (x, y) ≡ size_of (block_by c (e k) g.ring first.block) = sym q ∙ took.size g.ring in
          let put : later c e k g.ring s g.left ≡ (s + x) ∷ later c e (suc k) j (s + x) first.others =
          ap (later c e k g.ring s) first.are
          ∙ ap (λ (v : ℕ). edges c e (suc k) j (s + v) first.others) (slots_are _ x y same)
          ∙ edges_later c e (suc k) j (s + x) first.others in
          rw (add-one k) (record {
            left = first.others;
            ring = j;
            standing = subst (λ (end : ℕ). Standing b (next_at b end) first.others) ending_is (standing_tail stands);
            cells = blocks_celled celled;
            count = omega (arith, g.count, counted);
            ends = λ i l. let z : suc k + i ≡ k + suc i = omega arith in ap (λ (v : ℕ). get_or es v 0) z ∙ ends_here (suc i) (omega arith);
            size = sym (plus_laid s m _ _ x y same) ∙ size_here;
            edges = ap (sets ls (suc k)) (sym put) ∙ g.edges;
            slots = o.0;
            relocs = o.1;
            short = inside.1;
            long = length-set ls (suc k) (s + x) ∙ g.long;
          })

      pub on_refusal : {ls₀ : List ℕ} {at : ℕ} {reason : Reason} → r ≡ Err (at, reason) → Measured c e (blocks_of (parse b)) ls₀ (Err (at, reason)) ls
      unfolding size_of
      on_refusal {ls₀} {at} {reason} q =
          let is = sym (plus_refused s m _ _ at reason (sym q ∙ took.size g.ring)) ∙ size_here in
          record {
            size = is;
            edges = λ l w. let h = is ∙ ap size_of w in let z : ◌≡◌ {A = ℕ} 0 1 = cc in absurd (omega arith);
            few = λ x y h. let z : ◌≡◌ {A = ℕ} 0 1 = cc in absurd (omega arith);
          }

  -- the first edge was put before the blocks
  pub at_end : (ls₀ : List ℕ) → ls₁ ≡ set ls₀ 0 1 → n ≤ k → length b ≤ 262144 → Measured c e (blocks_of (parse b)) ls₀ (Ok (s, m)) ls
  unfolding keep_by blocks later
  at_end ls₀ f h short =
      let none = none_left g.left (omega (arith, g.count)) in
      record {
        size = plus_nothing s m ∙ ap (λ (bs : List BasicBlock). plus s m (blocks c g.ring (keep_by e k bs))) (sym none) ∙ g.size;
        edges = λ l w.
            ap (λ (bs : List BasicBlock). sets ls (suc k) (later c e k g.ring s bs)) (sym none)
            ∙ g.edges
            ∙ ap (λ (v : List ℕ). sets v 1 (later c e 0 0 1 (blocks_of (parse b)))) f
            ∙ ap (sets ls₀ 0) (sym (edges_later c e 0 0 1 (blocks_of (parse b))));
        few = within (omega (arith, g.slots, g.short)) (omega (arith, g.relocs, g.short));
      }
