-- A piece of an instruction's operations, wherever it stands: it keeps the shape rules, brings paths safely from its first slot to the slot after it, and jumps no further.
use mathlib.Core.Path.{◌≡◌, refl, sym, ◌∙◌, subst}
use mathlib.Core.Bool.{true, false, true≢false}
use mathlib.Core.List.{List, [], ◌∷◌, ◌++◌}
use Prim.Native.Nat.{ℕ, suc, ◌+◌, ◌<◌, ◌≤◌}
use native.Mathlib.Decide.{dec_lt}
use native.Mathlib.Numerals.{add-one}
use native.Mathlib.Omega.{arith}
use borrow.Author.Tests.{lt-ltb}
use lib.IntN.{pos}
use Rattle.wire.specs.Pick.{implies, is_zero}
use Rattle.insn.specs.Layout.{Fields}
use Rattle.insn.specs.Form.{opcode_of, form_of}
use Rattle.insn.specs.declared.Insn.{Insn}
use Rattle.insn.specs.declared.form.Form.{Form}
use Rattle.insn.specs.declared.form.Form.TheVariants.{WideLoad}
use Rattle.insn.proofs.Forms.{form_opcode}
use Rattle.lower.specs.Op.{Op, plain, map, slots_of}
use Rattle.layout.specs.Jumps.{Start}
use Rattle.layout.specs.Code.{insns}
use Rattle.layout.proofs.Laid.{slots_append}
use Rattle.shape.specs.Code.{slots, at, form_at, start}
use Rattle.shape.specs.Fields.{uses}
use Rattle.shape.specs.Shape.{all_zero, known, registers_ok, unused_zero, access_ok, target, is_start, shape_at}
use Rattle.shape.specs.declared.Shape.TheVariants as S
use Rattle.shape.proofs.Starts.{start_second}
use Rattle.shape.proofs.Rules.{rules_fine}
use Rattle.paths.specs.Registers.{Regs, reads, with, after}
use Rattle.paths.specs.Way.{Next}
use Rattle.ours.specs.Landing.{JumpsTo}
use Rattle.ours.proofs.Seen.{seen, seen_is}
use Rattle.ours.proofs.Safe.{Under, Ready, Safe, widen, Inside, inside, goes_on}
use Rattle.ours.proofs.Standing.{Narrow, narrow_append, Here, form_by, wide_map, front, back}
use Rattle.std.specs.Prelude.{Ok}

-- ---- shapes

-- each start among the n slots from s on is fine
pub record Kept (b : List ℕ) (s n : ℕ) : Type 0 where
  pub each : (u : ℕ) → s ≤ u → u < s + n → start b u ≡ true → shape_at b u ≡ Ok tt

pub kept_none : {b : List ℕ} {s : ℕ} → Kept b s 0
kept_none = record { each = λ u l m h. absurd (omega arith) }

pub kept_cons : {b : List ℕ} {s n : ℕ} → shape_at b s ≡ Ok tt → Kept b (suc s) n → Kept b s (suc n)
kept_cons {b} {s} {n} e k = record { each = λ u l m h. go u l m h (dec_lt s u) }
  where
    go : (u : ℕ) → s ≤ u → u < s + suc n → start b u ≡ true → Dec (s < u) → shape_at b u ≡ Ok tt
    go u l m h (yes d) = k.each u d (omega arith) h
    go u l m h (no d) = let q : u ≡ s = omega arith in rw q e

pub kept_join : {b : List ℕ} {s n m : ℕ} → Kept b s n → Kept b (s + n) m → Kept b s (n + m)
kept_join {b} {s} {n} {m} p q = record { each = λ u l k h. go u l k h (dec_lt u (s + n)) }
  where
    go : (u : ℕ) → s ≤ u → u < s + (n + m) → start b u ≡ true → Dec (u < s + n) → shape_at b u ≡ Ok tt
    go u l k h (yes d) = p.each u l d h
    go u l k h (no d) = q.each u (omega arith) (omega arith) h

-- ---- jumps

-- each jump from a start among the n slots from s on goes forward, and not past the slot end
pub record Confined (b : List ℕ) (s n end : ℕ) : Type 0 where
  pub each : (u q : ℕ) → s ≤ u → u < s + n → start b u ≡ true → JumpsTo b u q → (u < q) × (q ≤ end)

pub confined_none : {b : List ℕ} {s end : ℕ} → Confined b s 0 end
confined_none = record { each = λ u q l m h j. absurd (omega arith) }

pub confined_cons : {b : List ℕ} {s n end : ℕ} → ((q : ℕ) → JumpsTo b s q → (s < q) × (q ≤ end)) → Confined b (suc s) n end → Confined b s (suc n) end
confined_cons {b} {s} {n} {end} e k = record { each = λ u q l m h j. go u q l m h j (dec_lt s u) }
  where
    go : (u q : ℕ) → s ≤ u → u < s + suc n → start b u ≡ true → JumpsTo b u q → Dec (s < u) → (u < q) × (q ≤ end)
    go u q l m h j (yes d) = k.each u q d (omega arith) h j
    go u q l m h j (no d) = let w : u ≡ s = omega arith in rw w (e q (rw w at j))

confined_join : {b : List ℕ} {s n m : ℕ} → Confined b s n (s + n) → Confined b (s + n) m (s + n + m) → Confined b s (n + m) (s + (n + m))
confined_join {b} {s} {n} {m} p q = record { each = λ u v l k h j. go u v l k h j (dec_lt u (s + n)) }
  where
    go : (u v : ℕ) → s ≤ u → u < s + (n + m) → start b u ≡ true → JumpsTo b u v → Dec (u < s + n) → (u < v) × (v ≤ s + (n + m))
    go u v l k h j (yes d) = let w = p.each u v l d h j in (w.0, omega (arith, w.1))
    go u v l k h j (no d) = let w = q.each u v (omega arith) (omega arith) h j in (w.0, omega (arith, w.1))

-- ---- one instruction

-- i, which is read back as j, is of the form f and keeps the rules 32 to 35
pub record Keeps (i : Insn) (f : Form) (j : Insn) : Type 0 where
  pub is : seen i ≡ j
  pub form : form_of i.code ≡ f
  pub knows : (b : List ℕ) (s : ℕ) → at b s ≡ j → known b s (uses f).kind ≡ true
  pub registers : registers_ok j (uses f) ≡ true
  pub unused : unused_zero j (uses f) ≡ true
  pub access : access_ok j (uses f).kind ≡ true

-- where it stands
module _ (b : List ℕ) (s : ℕ) {i : Insn} {f : Form} {j : Insn} (K : Keeps i f j) (e : at b s ≡ seen i) where
  pub as_seen : at b s ≡ j
  as_seen = e ∙ K.is

  pub has_form : form_at b s ≡ f
  has_form = form_by b s i e ∙ K.form

  pub fine_here : implies (uses f).jumps (is_start b (target s j.off)) ≡ true → shape_at b s ≡ Ok tt
  fine_here t =
      rules_fine b s (record {
        form = rw has_form (K.knows b s as_seen);
        registers = rw (has_form, as_seen) K.registers;
        unused = rw (has_form, as_seen) K.unused;
        access = rw (has_form, as_seen) K.access;
        jump = rw (has_form, as_seen) t;
      })

  pub inside_here : {Out : ℕ → Type 0} {D : Regs} → s < slots b → Ready f j D → ((q : ℕ) → Next b s q → Safe b Out q (after f j D)) → Inside b Out s D
  inside_here l r k =
      record {
        low = l;
        ready = rw (has_form, as_seen) r;
        on = rw (has_form, as_seen) (λ q t. let n : Next b s q = rw (has_form, as_seen) t in k q n);
      }

  -- it makes no jump
  pub no_jump : (uses f).jumps ≡ false → {q : ℕ} → JumpsTo b s q → ⊥
  no_jump n j = true≢false (sym (rw has_form at j.jumps) ∙ n)

  -- one slot, and on to the next
  pub step_here : {Out : ℕ → Type 0} {D : Regs} → (uses f).goes_on ≡ 1 → (uses f).jumps ≡ false → s < slots b → Ready f j D → Safe b Out (suc s) (after f j D) → Inside b Out s D
  step_here {Out} {D} g n l r o =
      inside_here l r (λ q t. subst (λ (x : ℕ). Safe b Out x (after f j D)) (sym (goes_on b s f has_form g n t ∙ add-one s)) o)

-- ---- pieces

-- from a slot where D is readable to the slot after it, where E is; something follows it
pub record Piece (l : List Op) (D E : Regs) : Type 1 where
  pub narrow : Narrow l
  pub fine : (b : List ℕ) (xs : List Start) (s : ℕ) → Here b xs s l → s + slots_of l < slots b → Kept b s (slots_of l)
  pub safe : (b : List ℕ) (xs : List Start) (Out : ℕ → Type 0) (s : ℕ) → Here b xs s l → s + slots_of l < slots b → Safe b Out (s + slots_of l) E → Inside b Out s D
  pub confined : (b : List ℕ) (xs : List Start) (s : ℕ) → Here b xs s l → Confined b s (slots_of l) (s + slots_of l)

pub join : {a c : List Op} {C D E : Regs} → Piece a C D → Piece c D E → Piece (a ++ c) C E
join {a} {c} {C} {D} {E} p q =
    record {
      narrow = narrow_append a c p.narrow q.narrow;
      fine = λ b xs s h l.
          let n = slots_append a c in
          rw n (kept_join (p.fine b xs s (front b xs s a c h) (omega arith)) (q.fine b xs (s + slots_of a) (back b xs s a c p.narrow h) (omega arith)));
      safe = λ b xs Out s h l o.
          let n = slots_append a c in
          let e : s + slots_of (a ++ c) ≡ s + slots_of a + slots_of c = omega arith in
          p.safe b xs Out s (front b xs s a c h) (omega arith)
          (inside (q.safe b xs Out (s + slots_of a) (back b xs s a c p.narrow h) (omega arith) (rw e at o)));
      confined = λ b xs s h. rw slots_append (confined_join (p.confined b xs s (front b xs s a c h)) (q.confined b xs (s + slots_of a) (back b xs s a c p.narrow h)));
    }

-- less is asked for after it
pub asking : {l : List Op} {C D E : Regs} → Under E D → Piece l C D → Piece l C E
asking u p = record { narrow = p.narrow; fine = p.fine; safe = λ b xs Out s h l o. p.safe b xs Out s h l (widen o u); confined = p.confined }

-- one slot, and on to the next
pub single : {i : Insn} {f : Form} {j : Insn} {D : Regs} → Keeps i f j → (uses f).goes_on ≡ 1 → (uses f).jumps ≡ false → Ready f j D → Piece (plain i ∷ []) D (after f j D)
unfolding insns slots_of
single {i} {f} {j} {D} K g n r =
    record {
      narrow = (rw K.form (omega (arith, g)), tt);
      fine = λ b xs s h l. kept_cons (fine_here b s K h.stands.0 (rw n)) kept_none;
      safe = λ b xs Out s h l o.
          step_here b s K h.stands.0 g n (omega arith) r (subst (λ (x : ℕ). Safe b Out x (after f j D)) (add-one s) o);
      confined = λ b xs s h. confined_cons (λ q w. absurd (no_jump b s K h.stands.0 n w)) confined_none;
    }

-- a map's address into R1
abbrev wide_insn : Insn
wide_insn = record { code = opcode_of WideLoad; dst = 1; src = 1; off = pos 0; imm = pos 0 }

abbrev zero_insn : Insn
zero_insn = record { code = 0; dst = 0; src = 0; off = pos 0; imm = pos 0 }

fields : (i : Insn) → i.dst < 16 → i.src < 16 → i.off ≡ pos 0 → i.imm ≡ pos 0 → Fields i
fields i d s o m = record { dst = d; src = s; off = rw o (record { sfits = omega arith }); imm = rw m (record { sfits = omega arith }) }

wide_seen : seen wide_insn ≡ wide_insn
wide_seen = seen_is wide_insn (fields wide_insn (omega arith) (omega arith) refl refl)

zero_seen : seen zero_insn ≡ zero_insn
zero_seen = seen_is zero_insn (fields zero_insn (omega arith) (omega arith) refl refl)

wide_form : (b : List ℕ) (s : ℕ) → at b s ≡ seen wide_insn → form_at b s ≡ WideLoad
wide_form b s e = form_by b s wide_insn e ∙ form_opcode WideLoad

-- a start is not the second slot of a map
not_second : (b : List ℕ) (xs : List Start) (s m u : ℕ) → Here b xs s (map m ∷ []) → suc s ≤ u → u < s + 2 → start b u ≡ true → ⊥
not_second b xs s m u h l k t = let q : u ≡ suc s = omega arith in true≢false (sym (rw q at t) ∙ start_second b s h.begins (wide_map b xs s m [] h))

module _ (b : List ℕ) (s : ℕ) (e : at b s ≡ seen wide_insn) (z : at b (suc s) ≡ seen zero_insn) (l : suc s < slots b) where
  wide_fine : shape_at b s ≡ Ok tt
  unfolding uses known registers_ok unused_zero access_ok all_zero is_zero
  wide_fine =
      let w = wide_form b s e in
      let i = e ∙ wide_seen in
      rules_fine b s (record {
        form = rw (w, i, z ∙ zero_seen, lt-ltb (suc s) (slots b) l);
        registers = rw (w, i);
        unused = rw (w, i);
        access = rw w;
        jump = rw w;
      })

  wide_inside : {Out : ℕ → Type 0} {D : Regs} → Safe b Out (s + 2) (with 1 D) → Inside b Out s D
  unfolding uses reads after
  wide_inside {Out} {D} o =
      let w = wide_form b s e in
      let i = e ∙ wide_seen in
      record {
        low = omega arith;
        ready = rw (w, i) (record { at = λ r t. absurd (true≢false (sym t)) });
        on = rw (w, i) (λ q t. let n : Next b s q = rw (w, i) t in subst (λ (x : ℕ). Safe b Out x (with 1 D)) (sym (goes_on b s WideLoad w refl refl n)) o);
      }

pub map_piece : (m : ℕ) {D : Regs} → Piece (map m ∷ []) D (with 1 D)
unfolding insns slots_of uses
map_piece m {D} =
    record {
      narrow = tt;
      fine = λ b xs s h l.
          kept_cons (wide_fine b s h.stands.0 h.stands.1.0 (omega arith))
          (record { each = λ u g k t. absurd (not_second b xs s m u h g (omega arith) t) });
      safe = λ b xs Out s h l o. wide_inside b s h.stands.0 h.stands.1.0 (omega arith) o;
      confined = λ b xs s h.
          confined_cons (λ q w. absurd (true≢false (sym (rw (wide_form b s h.stands.0) at w.jumps))))
          (record { each = λ u q g k t w. absurd (not_second b xs s m u h g (omega arith) t) });
    }
