-- What is left of a survey where a block begins: with the blocks that are still to come it ends as the definitions say.
use mathlib.Core.Path.{◌≡◌, refl, sym, ap, ◌∙◌, subst}
use mathlib.Core.List.{List, [], ◌∷◌}
use Prim.Native.Nat.{ℕ, suc, ◌+◌, ◌<◌, ◌≤◌}
use native.Mathlib.Omega.{arith}
use lib.ListN.{length, set}
use lib.Seq.{sets, length-sets}
use mir.Syntax.{w32}
use Rattle.wire.specs.Le.{unsigned_at}
use Rattle.record.specs.Frame.{next_at}
use Rattle.frame.specs.Variables as frame
use Rattle.unitfile.specs.Unit.{BasicBlock, parse, read_unit}
use Rattle.unitfile.specs.declared.Found.{Found}
use Rattle.survey.specs.Occurrences.{Occurrence, of_instructions, of_terminator, occurrences}
use Rattle.survey.specs.Collected.{collected}
use Rattle.survey.specs.Surveyed.{ids, endings, blocks_of, counted, surveyed_variables, surveyed_ids, surveyed_endings}
use Rattle.survey.specs.Inner.{gathered, further, used, Holds, Takes, of_terminator_in, Names, Over, tallied}
use Rattle.survey.specs.declared.occurrences.Tally.{Tally}
use Rattle.survey.specs.declared.pass.Going.{Going}
use Rattle.survey.proofs.Bytes.{terminator_names, chain_names}
use Rattle.survey.specs.Standing.{BlockAt, Standing, none, more}
use Rattle.survey.proofs.Standing.{standing}
use Rattle.survey.proofs.Tallies.{nothing, then, answer, afterwards}
use Rattle.std.specs.Prelude.{Ok}

abbrev blocks : List ℕ → List BasicBlock
blocks b = blocks_of (parse b)

abbrev none_yet : Tally
none_yet = record { count = 0; place = 0 }

-- before block j at the byte at, in t and with the lists vs, is and es, which were vs₀, is₀ and es₀ at first
pub record Left (b vs₀ is₀ es₀ vs is es : List ℕ) (at j : ℕ) (t : Tally) : Type 0 where
  pub list : List BasicBlock
  pub stands : Standing b at list
  pub count : j + length list ≡ length (blocks b)
  pub holds : Holds t vs
  pub takes : (r : Tally) (m : List ℕ) → Takes t vs (occurrences list) r m → Takes none_yet vs₀ (occurrences (blocks b)) r m
  pub ids : sets is j (ids list) ≡ sets is₀ 0 (ids (blocks b))
  pub endings : sets es j (endings list) ≡ sets es₀ 0 (endings (blocks b))

-- ---- before the first block

pub start : (b : List ℕ) (found : Found) (vs is es : List ℕ) → read_unit b ≡ Ok found → length vs ≡ 56 → Left b vs is es vs is es found.body 0 none_yet
unfolding used
start b found vs is es e size =
    record {
      list = blocks b;
      stands = standing b found e;
      count = omega arith;
      holds = record { size = size; most = omega arith; sorted = frame.none };
      takes = λ r m t. t;
      ids = refl;
      endings = refl;
    }

-- ---- one block

-- the block that begins at a byte, and those after it
record Begins (b : List ℕ) (at : ℕ) (list : List BasicBlock) : Type 0 where
  block : BasicBlock
  others : List BasicBlock
  are : list ≡ block ∷ others
  here : BlockAt b at block
  stands : Standing b (next_at b block.ending) others

begins_by : {b : List ℕ} {at : ℕ} {list : List BasicBlock} → Standing b at list → 0 < length list → Begins b at list
begins_by none l = absurd (omega arith)
begins_by (more {k = k} {ks = ks} h s) l = record { block = k; others = ks; are = refl; here = h; stands = s }

module _ {b vs₀ is₀ es₀ vs is es : List ℕ} {at j : ℕ} {t : Tally} (k : Left b vs₀ is₀ es₀ vs is es at j t) where
  module _ (l : j < length (blocks b)) where
    begins : Begins b at k.list
    begins = begins_by k.stands (omega (arith, k.count))

    abbrev block : BasicBlock
    block = begins.block

    -- its record and its terminator's lie in the unit
    pub begins_inside : at + 8 ≤ length b
    unfolding next_at
    begins_inside = let h = begins.here in omega (arith, h.within, h.after)

    names : Names b block.ending (at + 8) (of_instructions block.instructions)
    names = let h = begins.here in chain_names h.ends.kind h.chain

    module _ {g : Going} {vs' : List ℕ} (o : Over b (at + 8) t vs g vs') where
      ends_there : g.at ≡ block.ending
      ends_there = o.ends block.ending (of_instructions block.instructions) names

      instructions_taken : Takes t vs (of_instructions block.instructions) g.tally vs'
      instructions_taken = o.takes block.ending (of_instructions block.instructions) names

      pub still_holds : Holds g.tally vs'
      still_holds = instructions_taken.holds

      pub ends_inside : g.at + 4 ≤ length b
      unfolding next_at
      ends_inside = omega (arith, ends_there, begins.here.after)

      terminator_takes : of_terminator_in b g.at ≡ of_terminator block.ending block.terminator
      terminator_takes = terminator_names b g.at ∙ rw ends_there (ap (of_terminator block.ending) begins.here.ends.value)

      pub on_block : {r : Tally} {vs'' is' es' : List ℕ} {x to i : ℕ} → Takes g.tally vs' (of_terminator_in b g.at) r vs'' → x ≡ unsigned_at w32 b (at + 4) → is' ≡ set is j x → es' ≡ set es j g.at → to ≡ next_at b g.at → i ≡ suc j → Left b vs₀ is₀ es₀ vs'' is' es' to i r
      unfolding occurrences ids endings
      on_block {r} {vs''} {is'} {es'} {x} {to} {i} w e p q u v =
          let n = begins in
          let c : suc (length n.others) ≡ length k.list = sym (ap length n.are) in
          let takes = subst (λ (os : List Occurrence). Takes g.tally vs' os r vs'') terminator_takes w in
          let id = p ∙ ap (set is j) (e ∙ sym n.here.id) in
          let ending = q ∙ ap (set es j) ends_there in
          record {
            list = n.others;
            stands = subst (λ (x : ℕ). Standing b x n.others) (sym (u ∙ ap (next_at b) ends_there)) n.stands;
            count = omega (arith, k.count);
            holds = w.holds;
            takes = λ s m h. k.takes s m (subst (λ (x : List BasicBlock). Takes t vs (occurrences x) s m) (sym n.are) (then (then instructions_taken takes) h));
            ids = rw (id, v) (ap (λ (x : List BasicBlock). sets is j (ids x)) (sym n.are) ∙ k.ids);
            endings = rw (ending, v) (ap (λ (x : List BasicBlock). sets es j (endings x)) (sym n.are) ∙ k.endings);
          }

  -- ---- after the last

  module _ (l : length (blocks b) ≤ j) where
    empty : (x : List BasicBlock) → length x ≤ 0 → x ≡ []
    empty [] h = refl
    empty (y ∷ ys) h = absurd (omega arith)

    ended : k.list ≡ []
    ended = empty k.list (omega (arith, k.count))

    all_taken : Takes none_yet vs₀ (occurrences (blocks b)) t vs
    unfolding occurrences
    all_taken = k.takes t vs (subst (λ (x : List BasicBlock). Takes t vs (occurrences x) t vs) (sym ended) (nothing k.holds))

    pub end_answer : (found : Found) → tallied found t ≡ counted found (collected (blocks b))
    unfolding collected gathered further
    end_answer found = answer all_taken found

    pub end_variables : length vs₀ ≡ 56 → vs ≡ surveyed_variables b vs₀
    unfolding collected gathered further surveyed_variables
    end_variables size = afterwards all_taken size

    pub end_ids : is ≡ surveyed_ids b is₀
    unfolding surveyed_ids ids
    end_ids = ap (λ (x : List BasicBlock). sets is j (ids x)) (sym ended) ∙ k.ids

    pub end_endings : es ≡ surveyed_endings b es₀
    unfolding surveyed_endings endings
    end_endings = ap (λ (x : List BasicBlock). sets es j (endings x)) (sym ended) ∙ k.endings

    -- a list that is lent stays as long as it was
    pub ids_length : length is ≡ length is₀
    unfolding surveyed_ids
    ids_length = ap length end_ids ∙ length-sets is₀ 0 (ids (blocks b))

    pub endings_length : length es ≡ length es₀
    unfolding surveyed_endings
    endings_length = ap length end_endings ∙ length-sets es₀ 0 (endings (blocks b))
