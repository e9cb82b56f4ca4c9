-- A call of `compile_tracepoint` that is done: what its unit was lowered to, and that the fronts of the buffers hold just that.
use mathlib.Core.Path.{◌≡◌, refl, ap, ◌∙◌}
use mathlib.Core.Bool.{Bool, true, false}
use mathlib.Core.List.{List}
use Prim.Native.Nat.{ℕ, ◌+◌, ◌*◌, ◌/◌, ◌≤◌}
use native.Mathlib.Omega.{arith}
use lib.Dec.{leb}
use lib.ListN.{length, take, drop}
use lib.Seq.{sets, sets-eq, take_at}
use borrow.Author.Tests.{leb-true}
use Rattle.wire.specs.Pick.{pick}
use Rattle.unitfile.specs.Unit.{UnitIr, Parsed, parsed, refused, parse}
use Rattle.survey.specs.Collected.{Collected, all, too_many, collected}
use Rattle.lower.specs.Op.{Op, slots_of}
use Rattle.layout.specs.Emitted.{emitted}
use Rattle.layout.specs.Layout.{Laid, laid, refused_at, unit_ops}
use Rattle.layout.specs.Jumps.{Start, Landing, lands, no_target, too_far, starts, jumps, landing}
use Rattle.layout.specs.Code.{insns, code_bytes, relocations}
use Rattle.layout.proofs.Written.{insns_count, code_length, relocations_count}
use Rattle.tracepoint.specs.Compile.{Lowering, lowered, faulty, on_landing, on_laid, on_collected, lowering, lowering_of, roomed, compile_answer, code_of, relocs_of, front, compile_code, compile_relocs}
use Rattle.tracepoint.specs.declared.Fault.{Fault}
use Rattle.tracepoint.specs.declared.Fault.TheVariants as F
use Rattle.proved.specs.Compiled.{context_of, Lowers, Fits, Wrote}
use Rattle.std.specs.Prelude.{Err, Ok}
use Rattle.wire.proofs.Pairs.{ok_parts}
use Rattle.std.specs.Prelude.{Result}

-- ---- nothing is refused

no_fault : {f : Fault} {xs : List Start} {l : List Op} → faulty f ≡ lowered xs l → ⊥
no_fault e = let z : ◌≡◌ {A = ℕ} 0 1 = cc in omega arith

module _ (u : UnitIr) (xs : List Start) (l : List Op) (vs : List ℕ) (c : collected u.blocks ≡ all vs) where
  on_landing_lem : (ops : List Op) → unit_ops (context_of u vs) (emitted u.blocks) ≡ laid ops → (x : Landing)
      → landing (starts (context_of u vs) (emitted u.blocks)) (jumps (context_of u vs) (emitted u.blocks)) ≡ x
      → on_landing x (starts (context_of u vs) (emitted u.blocks)) ops ≡ lowered xs l → Lowers u xs l
  unfolding on_landing
  on_landing_lem ops o lands q e =
      let same : ops ≡ l = cc in
      record { variables = vs; collects = c; becomes = o ∙ ap laid same; lands = q; begins = cc }
  on_landing_lem ops o (no_target place id) q e = absurd (no_fault e)
  on_landing_lem ops o (too_far place id) q e = absurd (no_fault e)

  on_laid_lem : (x : Laid) → unit_ops (context_of u vs) (emitted u.blocks) ≡ x → on_laid (context_of u vs) (emitted u.blocks) x ≡ lowered xs l → Lowers u xs l
  unfolding on_laid
  on_laid_lem (laid ops) o e = on_landing_lem ops o (landing (starts (context_of u vs) (emitted u.blocks)) (jumps (context_of u vs) (emitted u.blocks))) refl e
  on_laid_lem (refused_at place r) o e = absurd (no_fault e)

pub lowers : (u : UnitIr) (xs : List Start) (l : List Op) → lowering u ≡ lowered xs l → Lowers u xs l
unfolding lowering on_collected
lowers u xs l e = go (collected u.blocks) refl e
  where
    go : (x : Collected) → collected u.blocks ≡ x → on_collected u.blocks x ≡ lowered xs l → Lowers u xs l
    go (all vs) c e = on_laid_lem u xs l vs c (unit_ops (context_of u vs) (emitted u.blocks)) refl e
    go (too_many place vs) c e = absurd (no_fault e)

-- ---- there is room

pub fits : (code relocs : ℕ) (low : Lowering) (n m : ℕ) → roomed code relocs low ≡ Ok (n, m) → Fits code relocs low n m
unfolding roomed
fits code relocs (faulty f) n m e = let z : ◌≡◌ {A = ℕ} 0 1 = cc in absurd (omega arith)
fits code relocs (lowered xs l) n m e = go (leb (8 * slots_of l) code) (leb (length (relocations 0 l)) relocs) refl refl e
  where
    go : (x y : Bool) → leb (8 * slots_of l) code ≡ x → leb (length (relocations 0 l)) relocs ≡ y
        → pick {A = Result (ℕ × ℕ) Fault} x
        (pick y (Ok (slots_of l, length (relocations 0 l) / 2)) (Err (F.RelocRoom (length (relocations 0 l)))))
        (Err (F.CodeRoom (8 * slots_of l)))
        ≡ Ok (n, m)
        → Fits code relocs (lowered xs l) n m
    go true true p q e =
        let s : slots_of l ≡ n = (ok_parts e).0 in
        let h : length (relocations 0 l) / 2 ≡ m = (ok_parts e).1 in
        let even = relocations_count 0 l in
        record {
          starts = xs;
          ops = l;
          is = refl;
          slots = s;
          pairs = omega arith;
          code_room = omega (arith, leb-true (8 * slots_of l) code p);
          relocs_room = omega (arith, leb-true (length (relocations 0 l)) relocs q);
        }
    go true false p q e = let z : ◌≡◌ {A = ℕ} 0 1 = cc in absurd (omega arith)
    go false y p q e = let z : ◌≡◌ {A = ℕ} 0 1 = cc in absurd (omega arith)

-- ---- the fronts of the buffers

-- what was stored at the front of a buffer is its front
stored : (l new : List ℕ) (n : ℕ) → length new ≡ n → n ≤ length l → take n (sets l 0 new) ≡ new
stored l new n e h = ap (take n) (sets-eq new l 0 (omega arith)) ∙ take_at new (drop (0 + length new) l) n e

module _ (b code relocs : List ℕ) (n m : ℕ) (done : compile_answer b (length code) (length relocs) ≡ Ok (n, m)) (u : UnitIr) (read : parse b ≡ parsed u) where
  fronts : (xs : List Start) (l : List Op) → lowering_of (parse b) ≡ lowered xs l → slots_of l ≡ n → length (relocations 0 l) ≡ 2 * m → 8 * n ≤ length code → 2 * m ≤ length relocs → Wrote b code relocs n m u
  unfolding compile_code compile_relocs front code_of relocs_of lowering_of
  fronts xs l e s p h k =
      let c : length (code_bytes (insns xs 0 l)) ≡ 8 * n = omega (arith, code_length (insns xs 0 l), insns_count xs 0 l) in
      record {
        starts = xs;
        ops = l;
        lowers = lowers u xs l (rw read at e);
        slots = s;
        code_is = rw (done, e) (stored code (code_bytes (insns xs 0 l)) (8 * n) c h);
        relocs_are = rw (done, e) (stored relocs (relocations 0 l) (2 * m) p k);
      }

  pub wrote : Wrote b code relocs n m u
  unfolding compile_answer
  wrote =
      let F = fits (length code) (length relocs) (lowering_of (parse b)) n m done in
      fronts F.starts F.ops F.is F.slots F.pairs F.code_room F.relocs_room

-- a call that is done has read its unit
pub has_read : (b : List ℕ) (code relocs n m : ℕ) → compile_answer b code relocs ≡ Ok (n, m) → (u : UnitIr) × (parse b ≡ parsed u)
unfolding compile_answer lowering_of roomed
has_read b code relocs n m done = go (parse b) refl done
  where
    go : (x : Parsed) → parse b ≡ x → roomed code relocs (lowering_of x) ≡ Ok (n, m) → (u : UnitIr) × (parse b ≡ parsed u)
    go (parsed u) e d = (u, e)
    go (refused f) e d = let z : ◌≡◌ {A = ℕ} 0 1 = cc in absurd (omega arith)
