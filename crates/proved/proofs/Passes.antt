-- Ours pass: what `compile_tracepoint` writes is passed by the screen, and so is safe to run; its jumps land on the last block with their id.
use mathlib.Core.Path.{◌≡◌, refl, ◌∙◌}
use mathlib.Core.Bool.{true}
use mathlib.Core.Logic.{◌⊎◌}
use mathlib.Core.List.{List, Memᴰ}
use Prim.Native.Nat.{ℕ, ◌<◌}
use native.Mathlib.Decide.{ℕ_discrete}
use native.Mathlib.Omega.{arith}
use lib.ListN.{length}
use borrow.Author.Tests.{eq-eqb}
use Rattle.unitfile.specs.Unit.{UnitIr, parsed, parse}
use Rattle.survey.specs.Collected.{all, collected}
use Rattle.lower.specs.Op.{Op}
use Rattle.layout.specs.Emitted.{emitted}
use Rattle.layout.specs.Layout.{laid, unit_ops}
use Rattle.layout.specs.Jumps.{Jump, Landing, starts, distance, jumps, landing}
use Rattle.layout.specs.Code.{insns, code_bytes}
use Rattle.shape.specs.Code.{slots, start}
use Rattle.shape.specs.Fields.{uses}
use Rattle.shape.specs.Shape.{access_ok}
use Rattle.shape.specs.Shapes.{judged}
use Rattle.shape.specs.declared.Shapes.TheVariants as Ss
use Rattle.shape.proofs.Judged.{judged_fine}
use Rattle.shape.proofs.Rules.{fine_rules}
use Rattle.screen.specs.Verdict.{Screened}
use Rattle.screen.specs.Faultless.{NoFault}
use Rattle.screen.proofs.Exact.{yes_says}
use Rattle.sound.proofs.Sound.{sound}
use Rattle.ours.specs.Landing.{begins, NoneHas, LastBlock, OnLast, JumpsTo, Among, OwnJump, InRange, FirstAtFault}
use Rattle.ours.proofs.Whole.{code_slots}
use Rattle.ours.specs.PastEnd.{OnlyPastEnd}
use Rattle.ours.proofs.Ours.{unit_passes, unit_past_end, yes_without_fault, past_end_alone}
use Rattle.ours.proofs.OwnJumps.{no_other_jump}
use Rattle.ours.proofs.Landing.{lands_on_last, no_target_lem, too_far_lem}
use Rattle.tracepoint.specs.Compile.{on_landing, on_laid, on_collected, lowering, lowering_of, roomed, compile_answer}
use Rattle.tracepoint.specs.declared.Fault.TheVariants.{NoTarget, TooFar}
use Rattle.proved.specs.Compiled.{code_written, relocs_written, context_of, Wrote}
use Rattle.proved.specs.Ours.{FrameAccesses, Ours}
use Rattle.proved.proofs.Done.{wrote, has_read}
use Rattle.std.specs.Prelude.{Err, Ok}

-- ---- accesses through R10, by rule 35

pub frame_accesses : (b l : List ℕ) → judged b l ≡ Ok tt → FrameAccesses b
unfolding access_ok uses
frame_accesses b l j =
    let F = judged_fine b l j in
    record {
      loads = λ s w h t f e. simp (f, eq-eqb _ _ e) at (fine_rules b s (F.each s h t)).access;
      stores = λ s w h t f e. simp (f, eq-eqb _ _ e) at (fine_rules b s (F.each s h t)).access;
    }

-- so in code to which the screen says yes
pub yes_accesses : (b l t u : List ℕ) → Screened b l t (Ok tt) u → FrameAccesses b
yes_accesses b l t u p = frame_accesses b l (yes_says b l t u p).0.1.0

-- ---- a call that is done

module _ (b code relocs : List ℕ) (n m : ℕ) (done : compile_answer b (length code) (length relocs) ≡ Ok (n, m)) (u : UnitIr) (read : parse b ≡ parsed u) where
  left : Wrote b code relocs n m u
  left = wrote b code relocs n m done u read

  slots_written : slots (code_written b code relocs n) ≡ n
  slots_written = let W = left in rw W.code_is (code_slots W.starts W.ops ∙ W.slots)

  no_fault : 0 < length u.blocks → NoFault (code_written b code relocs n) (relocs_written b code relocs m)
  no_fault some =
      let W = left in
      let L = W.lowers in
      rw (W.code_is, W.relocs_are, ← L.begins) (unit_passes b u (context_of u L.variables) L.variables W.ops read some refl L.becomes L.lands)

  only_past_end : length u.blocks ≡ 0 → OnlyPastEnd (code_written b code relocs n) (relocs_written b code relocs m)
  only_past_end none =
      let W = left in
      let L = W.lowers in
      rw (W.code_is, W.relocs_are, ← L.begins) (unit_past_end u (context_of u L.variables) W.ops none L.becomes)

  fine : Dec (length u.blocks ≡ 0) → judged (code_written b code relocs n) (relocs_written b code relocs m) ≡ Ok tt
  fine (yes none) = (only_past_end none).before
  fine (no some) = (no_fault (omega arith)).1.0

  on_last : (vs : List ℕ) → collected u.blocks ≡ all vs → (x : Jump) → Memᴰ x (jumps (context_of u vs) (emitted u.blocks)) → OnLast (context_of u vs) (emitted u.blocks) (code_written b code relocs n) x
  on_last vs c x j =
      let W = left in
      let L = W.lowers in
      let q : L.variables ≡ vs = let k = L.collects in cc in
      rw (W.code_is, ← L.begins, ← q) (lands_on_last (context_of u L.variables) (emitted u.blocks) W.ops L.becomes L.lands x (rw (← q) at j))

  no_other : (vs : List ℕ) → collected u.blocks ≡ all vs → (ops : List Op) → unit_ops (context_of u vs) (emitted u.blocks) ≡ laid ops
      → (p q : ℕ) → p < n → start (code_written b code relocs n) p ≡ true → JumpsTo (code_written b code relocs n) p q
      → ((id : ℕ) × Among (jumps (context_of u vs) (emitted u.blocks)) p id) ⊎ OwnJump (context_of u vs) (emitted u.blocks) ops p q
  no_other vs c ops o p q h s w =
      let W = left in
      let L = W.lowers in
      let v : L.variables ≡ vs = let k = L.collects in cc in
      let same : W.ops ≡ ops = let k = rw v at L.becomes in cc in
      let is : code_written b code relocs n ≡ code_bytes (insns (starts (context_of u vs) (emitted u.blocks)) 0 ops) = W.code_is ∙ rw (← L.begins, v, same) in
      no_other_jump (context_of u vs) vs (emitted u.blocks) ops refl o p q (rw (← is) (omega (arith, slots_written))) (rw is at s) (rw is at w)

  promised : Ours u n (code_written b code relocs n) (relocs_written b code relocs m)
  promised =
      let room = slots_written in
      record {
        passes = λ some t t' w h p. yes_without_fault _ _ t w t' (no_fault some) (omega arith) p;
        past_end = λ none t t' w h p. past_end_alone _ _ t w t' (only_past_end none) (omega arith) p;
        safe = λ some r. sound _ _ (no_fault some) r;
        inside = frame_accesses _ _ (fine (ℕ_discrete (length u.blocks) 0));
        lands = on_last;
        no_other = no_other;
      }

-- it has read its unit, and what it wrote is what is promised of that
pub ours : (b code relocs : List ℕ) (n m : ℕ) → compile_answer b (length code) (length relocs) ≡ Ok (n, m)
    → (u : UnitIr) × ((parse b ≡ parsed u) × Ours u n (code_written b code relocs n) (relocs_written b code relocs m))
ours b code relocs n m done =
    let r = has_read b (length code) (length relocs) n m done in
    (r.0, (r.1, promised b code relocs n m done r.0 r.1))

-- ---- a call that is refused with 18 or 19, whatever the room

-- of a unit that was read, with at most 56 variables and with no instruction at fault, the jumps decide
module _ (b : List ℕ) (code relocs : ℕ) (u : UnitIr) (vs : List ℕ) (l : List Op) (read : parse b ≡ parsed u) (c : collected u.blocks ≡ all vs) (o : unit_ops (context_of u vs) (emitted u.blocks) ≡ laid l) where
  decided : (y : Landing) → landing (starts (context_of u vs) (emitted u.blocks)) (jumps (context_of u vs) (emitted u.blocks)) ≡ y
      → compile_answer b code relocs ≡ roomed code relocs (on_landing y (starts (context_of u vs) (emitted u.blocks)) l)
  unfolding compile_answer lowering_of lowering on_collected on_laid
  decided y e = rw (read, c, o, e)

  -- no emitted block has the id: 18 with the place of the jump's terminator and the id
  pub no_target_refused : (x : Jump) → FirstAtFault (context_of u vs) (emitted u.blocks) x → NoneHas (emitted u.blocks) x.id → compile_answer b code relocs ≡ Err (NoTarget x.place x.id)
  unfolding on_landing roomed
  no_target_refused x first none = decided _ (no_target_lem (context_of u vs) (emitted u.blocks) x first none)

  -- the last that has it is too far: 19 with the same
  pub too_far_refused : (x : Jump) → FirstAtFault (context_of u vs) (emitted u.blocks) x → (last : LastBlock (emitted u.blocks) x.id)
      → (InRange (distance (begins (context_of u vs) last.front) x.own) → ⊥) → compile_answer b code relocs ≡ Err (TooFar x.place x.id)
  unfolding on_landing roomed
  too_far_refused x first last far = decided _ (too_far_lem (context_of u vs) (emitted u.blocks) x first last far)
