-- From the tables to the answer: what the parts of `compile_tracepoint` find out is the lowering of the definitions, and what they leave in the buffers its code.
use mathlib.Core.Path.{◌≡◌, refl, sym, ap, ◌∙◌, subst}
use mathlib.Core.Bool.{Bool}
use mathlib.Core.List.{List}
use Prim.Native.Nat.{ℕ, ◌*◌, ◌/◌, ◌≤◌, ◌<◌}
use native.Mathlib.Nat.{zero-add}
use native.Mathlib.Omega.{arith}
use borrow.Author.Tests.{le-leb, lt-leb}
use lib.ListN.{length, get_or, replicate}
use lib.Seq.{sets}
use Rattle.record.specs.declared.Fault as record-fault
use Rattle.unitfile.specs.Unit.{BasicBlock, parse, read_unit}
use Rattle.unitfile.specs.declared.Found.{Found}
use Rattle.unitfile.proofs.Units.{unit_of}
use Rattle.unitfile.proofs.Whole.{refused_whole}
use Rattle.flow.specs.Computed.{is_reached}
use Rattle.survey.specs.Collected.{collected}
use Rattle.survey.specs.Surveyed.{blocks_of, surveyed}
use Rattle.survey.specs.declared.Fault as survey-fault
use Rattle.survey.specs.declared.Fault.TheVariants as S
use Rattle.survey.proofs.Answers.{IsTooMany, refused_means, too_many_means}
use Rattle.lower.specs.Op.{Op, slots_of}
use Rattle.lower.specs.declared.Reason.{Reason}
use Rattle.layout.specs.Emitted.{nodes, emitted}
use Rattle.layout.specs.Layout.{Context, Laid, laid, refused_at, unit_ops, ops}
use Rattle.layout.specs.Jumps.{Landing, lands, no_target, too_far, starts}
use Rattle.layout.specs.Code.{insns, code_bytes, relocations}
use Rattle.layout.specs.Inner.{keep_by, maps_of}
use Rattle.layout.specs.Inner as layout
use Rattle.layout.proofs.Keep.{keep_by_lem}
use Rattle.layout.proofs.Located.{edges_count}
use Rattle.layout.proofs.Written.{relocations_count}
use Rattle.jumps.specs.Landed.{marked, landed_of, landed_from}
use Rattle.jumps.specs.declared.Astray.{Astray}
use Rattle.jumps.specs.declared.Astray.TheVariants as L
use Rattle.tracepoint.specs.Compile.{Lowering, faulty, on_landing, on_laid, on_collected, lowering, lowering_of, roomed, code_of, relocs_of, front}
use Rattle.tracepoint.specs.Faults.{of_survey, of_measure, of_jumps}
use Rattle.passes.specs.Inner.{context_of}
use Rattle.passes.specs.Notes.{Noted}
use Rattle.passes.specs.Tables.{size_of, Measured, Tables, unit_landing, Room}
use Rattle.passes.specs.Stages.{Surveyed, Linked, Ready}
use Rattle.tracepoint.specs.Answers.{lowering_by, lowered_by, Answers}
use Rattle.tracepoint.specs.declared.Fault.{Fault}
use Rattle.tracepoint.specs.declared.Fault.TheVariants as F
use Rattle.passes.proofs.Conditions.{context_is}
use Rattle.passes.proofs.Tables.{stored_at}
use Rattle.passes.proofs.Landing.{landed_unit}
use Rattle.std.specs.Prelude.{Err, Ok, Result, ⊤}
use Rattle.wire.proofs.Pairs.{ok_parts, err_parts}

-- ---- answers

-- a fault is told, and changes neither buffer
pub at_fault : {l : Lowering} {f : Fault} (code relocs : List ℕ) → l ≡ faulty f → Answers l code relocs (Err f) code relocs
unfolding roomed front
at_fault code relocs e = record { answer = rw e; code = refl; relocs = refl }

pub same_answers : {l m : Lowering} {code relocs code' relocs' : List ℕ} {r : Result (ℕ × ℕ) Fault} → l ≡ m → Answers m code relocs r code' relocs' → Answers l code relocs r code' relocs'
same_answers {code = code} {relocs} {code'} {relocs'} {r} e a = subst (λ (x : Lowering). Answers x code relocs r code' relocs') (sym e) a

-- ---- the lowering of a unit

refused_lowering : (b : List ℕ) (f : record-fault.Fault) → read_unit b ≡ Err f → lowering_of (parse b) ≡ faulty (F.Reading f)
unfolding lowering_of
refused_lowering b f e = rw (refused_whole b f e)

read_lowering : (b : List ℕ) (found : Found) → read_unit b ≡ Ok found → lowering_of (parse b) ≡ on_collected (blocks_of (parse b)) (collected (blocks_of (parse b)))
unfolding lowering_of lowering blocks_of
read_lowering b found e = rw (unit_of b found e).parsed_as

many_lowering : {b : List ℕ} {place : ℕ} → IsTooMany b place → lowering_of (parse b) ≡ faulty (F.Variables place)
unfolding on_collected
many_lowering {b} m = read_lowering b m.found m.read ∙ ap (on_collected (blocks_of (parse b))) m.collects

pub when_unsurveyed : (b : List ℕ) (f : survey-fault.Fault) → surveyed b ≡ Err f → (code relocs : List ℕ) → Answers (lowering_of (parse b)) code relocs (Err (of_survey f)) code relocs
unfolding of_survey
when_unsurveyed b (S.Reading f) e code relocs = at_fault code relocs (refused_lowering b f (refused_means b f e))
when_unsurveyed b (S.TooMany place) e code relocs = at_fault code relocs (many_lowering (too_many_means b place e))

-- by the tables: the variables' marks tell the conditions, and the flags which blocks are emitted
module _ (n : ℕ) (hs : List ℕ) {b : List ℕ} {found : Found} {vs is es cs ts ms counts named em numbers : List ℕ} (s : Surveyed b found vs is es) (k : Noted (blocks_of (parse b)) vs (replicate n 0) cs ts ms counts named) (l : Linked (blocks_of (parse b)) em numbers es counts named) where
  abbrev bs : List BasicBlock
  bs = blocks_of (parse b)

  kept : keep_by (marked em) 0 bs ≡ emitted bs
  unfolding emitted
  kept = keep_by_lem (marked em) (is_reached (nodes bs)) 0 bs (record { at = λ i h. ap (marked em) (zero-add i) ∙ l.agrees i h })

  pub tables_lowering : lowering_of (parse b) ≡ lowering_by (context_of vs hs ms) (marked em) bs
  unfolding on_collected
  tables_lowering =
      read_lowering b found s.read ∙ ap (on_collected bs) s.collects
      ∙ ap (λ (c : Context). on_laid c (emitted bs) (unit_ops c (emitted bs))) (sym (context_is bs vs s.collects n k hs))
      ∙ ap (λ (ks : List BasicBlock). on_laid (context_of vs hs ms) ks (unit_ops (context_of vs hs ms) ks)) (sym kept)

-- ---- the measuring

refused_size : (x : Laid) (place : ℕ) (r : Reason) → Err (place, r) ≡ size_of x → x ≡ refused_at place r
unfolding size_of
refused_size (laid l) place r e = let z : ◌≡◌ {A = ℕ} 0 1 = cc in absurd (omega arith)
refused_size (refused_at p q) place r e =
    let same = err_parts e in
    cc (same.0, same.1)

-- a unit of which nothing is refused
record Sized (x : Laid) (n m : ℕ) : Type 0 where
  fine : x ≡ laid (ops x)
  slots : n ≡ slots_of (ops x)
  maps : m ≡ maps_of (ops x)

slots_size : (x : Laid) (n m : ℕ) → Ok (n, m) ≡ size_of x → Sized x n m
unfolding size_of ops
slots_size (laid l) n m e =
    let y : n ≡ slots_of l = (ok_parts e).0 in
    let z : m ≡ maps_of l = (ok_parts e).1 in
    record { fine = refl; slots = y; maps = z }
slots_size (refused_at p q) n m e = let z : ◌≡◌ {A = ℕ} 0 1 = cc in absurd (omega arith)

no_target_lem : (x : Landing) (place id : ℕ) → Err (L.NoTarget place id) ≡ landed_of x → x ≡ no_target place id
unfolding landed_of
no_target_lem lands place id e = let z : ◌≡◌ {A = ℕ} 0 1 = cc in absurd (omega arith)
no_target_lem (no_target p i) place id e =
    let y : p ≡ place = cc in
    let z : i ≡ id = cc in
    cc
no_target_lem (too_far p i) place id e = let z : ◌≡◌ {A = ℕ} 0 1 = cc in absurd (omega arith)

too_far_lem : (x : Landing) (place id : ℕ) → Err (L.TooFar place id) ≡ landed_of x → x ≡ too_far place id
unfolding landed_of
too_far_lem lands place id e = let z : ◌≡◌ {A = ℕ} 0 1 = cc in absurd (omega arith)
too_far_lem (no_target p i) place id e = let z : ◌≡◌ {A = ℕ} 0 1 = cc in absurd (omega arith)
too_far_lem (too_far p i) place id e =
    let y : p ≡ place = cc in
    let z : i ≡ id = cc in
    cc

all_land : (x : Landing) → Ok tt ≡ landed_of x → x ≡ lands
unfolding landed_of
all_land lands e = refl
all_land (no_target p i) e = let z : ◌≡◌ {A = ℕ} 0 1 = cc in absurd (omega arith)
all_land (too_far p i) e = let z : ◌≡◌ {A = ℕ} 0 1 = cc in absurd (omega arith)

module _ (c : Context) (bs : List BasicBlock) (em ls ls' : List ℕ) {r : Result (ℕ × ℕ) (ℕ × Reason)} (m : Measured c (marked em) bs ls r ls') where
  abbrev e : ℕ → Bool
  e = marked em

  pub when_faulty : (place : ℕ) (reason : Reason) → r ≡ Err (place, reason) → (code relocs : List ℕ) → Answers (lowering_by c e bs) code relocs (Err (of_measure (place, reason))) code relocs
  unfolding on_laid
  when_faulty place reason q code relocs = at_fault code relocs (ap (on_laid c (keep_by e 0 bs)) (refused_size _ place reason (sym q ∙ m.size)))

  module _ {numbers es counts named : List ℕ} (l : Linked bs em numbers es counts named) (n k : ℕ) (q : r ≡ Ok (n, k)) (room : length bs < length ls) where
    sized : Sized (unit_ops c (keep_by e 0 bs)) n k
    sized = slots_size _ n k (sym q ∙ m.size)

    put : ls' ≡ sets ls 0 (layout.edges c e 0 0 1 bs)
    put = m.edges (ops (unit_ops c (keep_by e 0 bs))) sized.fine

    tables : Tables c e bs ls' numbers
    tables =
        record {
          few = l.few;
          fine = sized.fine;
          agrees = l.agrees;
          past = l.past;
          edge = λ i h.
              let o = edges_count c e 0 0 1 bs in
              ap (λ (x : List ℕ). get_or x i 0) put ∙ stored_at (layout.edges c e 0 0 1 bs) ls i (omega arith) (omega arith);
          number = l.number;
        }

    lowers : lowering_by c e bs ≡ on_landing (unit_landing c e bs) (starts c (keep_by e 0 bs)) (ops (unit_ops c (keep_by e 0 bs)))
    unfolding on_laid
    lowers = ap (on_laid c (keep_by e 0 bs)) sized.fine

    -- where the jumps of all blocks land, by their numbers
    module _ {count : ℕ} (z : count ≡ length bs) {a : Result ⊤ Astray} (h : a ≡ landed_from em ls' es counts named numbers 0 count) where
      landed_is : a ≡ landed_of (unit_landing c e bs)
      landed_is = h ∙ ap (λ (x : ℕ). landed_from em ls' es counts named numbers 0 x) z ∙ landed_unit em tables l.told

      landing_is : {x : Landing} → unit_landing c e bs ≡ x → lowering_by c e bs ≡ on_landing x (starts c (keep_by e 0 bs)) (ops (unit_ops c (keep_by e 0 bs)))
      landing_is q = lowers ∙ ap (λ (y : Landing). on_landing y (starts c (keep_by e 0 bs)) (ops (unit_ops c (keep_by e 0 bs)))) q

      pub when_astray : (f : Astray) → a ≡ Err f → (code relocs : List ℕ) → Answers (lowering_by c e bs) code relocs (Err (of_jumps f)) code relocs
      unfolding on_landing of_jumps
      when_astray (L.NoTarget place id) g code relocs = at_fault code relocs (landing_is (no_target_lem _ place id (sym g ∙ landed_is)))
      when_astray (L.TooFar place id) g code relocs = at_fault code relocs (landing_is (too_far_lem _ place id (sym g ∙ landed_is)))

      module _ (g : a ≡ Ok tt) where
        pub ready : Ready c e bs ls' numbers n k
        ready =
            record {
              tables = tables;
              lands = all_land _ (sym g ∙ landed_is);
              slots = sized.slots;
              maps = sized.maps;
              few_slots = (m.few n k q).0;
              few_maps = (m.few n k q).1;
              numbers_size = l.numbers_size;
            }

        pub when_lands : {code relocs code' relocs' : List ℕ} {x : Result (ℕ × ℕ) Fault} → Answers (lowered_by c e bs) code relocs x code' relocs' → Answers (lowering_by c e bs) code relocs x code' relocs'
        unfolding on_landing
        when_lands = same_answers (landing_is (all_land _ (sym g ∙ landed_is)))

-- ---- the room, and the writing

module _ (c : Context) (e : ℕ → Bool) (bs : List BasicBlock) {edges numbers : List ℕ} {n m : ℕ} (r : Ready c e bs edges numbers n m) (code relocs : List ℕ) where
  abbrev l : List Op
  l = ops (unit_ops c (keep_by e 0 bs))

  abbrev Written : Result (ℕ × ℕ) Fault → List ℕ → List ℕ → Type 0
  Written = Answers (lowered_by c e bs) code relocs

  pairs : length (relocations 0 l) ≡ 2 * m
  pairs = relocations_count 0 l ∙ ap (λ (x : ℕ). 2 * x) (sym r.maps)

  bytes : 8 * slots_of l ≡ 8 * n
  bytes = ap (λ (x : ℕ). 8 * x) (sym r.slots)

  pub no_code_room : length code < 8 * n → Written (Err (F.CodeRoom (8 * n))) code relocs
  unfolding roomed front
  no_code_room h = record { answer = rw (bytes, lt-leb (8 * n) (length code) h); code = refl; relocs = refl }

  module _ (fits : 8 * n ≤ length code) where
    pub no_reloc_room : length relocs < 2 * m → Written (Err (F.RelocRoom (2 * m))) code relocs
    unfolding roomed front
    no_reloc_room h = record { answer = rw (bytes, le-leb (8 * n) (length code) fits, pairs, lt-leb (2 * m) (length relocs) h); code = refl; relocs = refl }

    pub room : 2 * m ≤ length relocs → Room l (length code) (length relocs)
    room h = record { few = omega (arith, r.slots, r.few_slots); code = omega (arith, r.slots); relocs = omega (arith, r.maps) }

    half : 2 * m / 2 ≡ m
    half = omega arith

    pub written : {code' relocs' : List ℕ} → 2 * m ≤ length relocs → code' ≡ sets code 0 (code_bytes (insns (starts c (keep_by e 0 bs)) 0 l)) → relocs' ≡ sets relocs 0 (relocations 0 l) → Written (Ok (n, m)) code' relocs'
    unfolding roomed front code_of relocs_of
    written h p q =
        record {
          answer = rw (bytes, le-leb (8 * n) (length code) fits, pairs, le-leb (2 * m) (length relocs) h, half) (ap (λ (x : ℕ). Ok (x, m)) r.slots);
          code = p;
          relocs = q;
        }
