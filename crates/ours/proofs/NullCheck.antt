-- The null check's operations: its own jumps lead to its own instructions or to the slot after them.
use mathlib.Core.Path.{◌≡◌, refl, sym, ap, ◌∙◌, subst}
use mathlib.Core.Bool.{true}
use mathlib.Core.Logic.{⊎_elim}
use mathlib.Core.List.{List, [], ◌∷◌}
use Prim.Native.Nat.{ℕ, suc, ◌+◌, ◌^◌, ◌<◌}
use native.Mathlib.Numerals.{add-one}
use native.Mathlib.Omega.{arith}
use borrow.Author.Tests.{lt-ltb}
use lib.IntN.{pos}
use Rattle.wire.specs.Range.{fits32}
use Rattle.insn.specs.Form.{opcode_of}
use Rattle.insn.specs.declared.Insn.{Insn}
use Rattle.insn.specs.declared.form.Form.TheVariants.{MovImm, Ja, JeqImm, Exit}
use Rattle.lower.specs.Op.{Op, plain, slots_of}
use Rattle.layout.specs.Jumps.{Start}
use Rattle.layout.specs.Code.{insns}
use Rattle.shape.specs.Code.{slots, at, start}
use Rattle.shape.specs.Fields.{uses}
use Rattle.shape.specs.Shape.{target, is_start}
use Rattle.paths.specs.Registers.{Regs, reads, with, after}
use Rattle.shape.specs.Shape.{shape_at}
use Rattle.shape.specs.declared.Shape.TheVariants as S
use Rattle.ours.specs.Landing.{JumpsTo}
use Rattle.ours.proofs.Seen.{seen}
use Rattle.ours.proofs.Safe.{Safe, Inside, inside, jumps_to, branches_to}
use Rattle.ours.proofs.Standing.{Narrow, Here, after_plain}
use Rattle.ours.proofs.Pieces.{Kept, kept_none, kept_cons, Confined, confined_none, confined_cons, Keeps, has_form, as_seen, fine_here, inside_here, no_jump, step_here, Piece}
use Rattle.ours.proofs.Steps.{none_read, one_read, with_has, slim, made, keeps_mov, keeps_jeq, keeps_ja, exits, keeps_exit, exit_inside}
use Rattle.std.specs.Prelude.{Ok}

-- Rr = n
abbrev movs : ℕ → ℕ → Insn
movs r n = made (opcode_of MovImm) r 0 (pos 0) (pos n)

-- JEQ R0, 0 and JA, k slots further
abbrev jeqs : ℕ → Insn
jeqs k = made (opcode_of JeqImm) 0 0 (pos k) (pos 0)

abbrev jas : ℕ → Insn
jas k = made (opcode_of Ja) 0 0 (pos k) (pos 0)

-- ---- one slot of it

module _ (b : List ℕ) (s r n : ℕ) (low : r < 10) (h : n < 2) (e : at b s ≡ seen (movs r n)) where
  keeps_bit : Keeps (movs r n) MovImm (movs r n)
  unfolding fits32
  keeps_bit = keeps_mov r (pos n) low (lt-ltb n (2 ^ 31) (omega arith))

  bit_fine : shape_at b s ≡ Ok tt
  unfolding uses
  bit_fine = fine_here b s keeps_bit e refl

  bit_none : {q : ℕ} → JumpsTo b s q → ⊥
  unfolding uses
  bit_none w = no_jump b s keeps_bit e refl w

  bit_safe : {Out : ℕ → Type 0} {D : Regs} → s < slots b → Safe b Out (suc s) (with r D) → Safe b Out s D
  unfolding uses reads after
  bit_safe l o = inside (step_here b s keeps_bit e refl refl l (none_read (λ x. refl)) o)

-- a jump k slots further, to t
module _ (b : List ℕ) (s k t : ℕ) (few : k < 3) (q : suc s + k ≡ t) where
  lands : t < slots b → start b t ≡ true → is_start b (target s (pos k)) ≡ true
  unfolding target is_start
  lands l h = rw (q, lt-ltb t (slots b) l) h

  ahead : {j : Insn} → at b s ≡ j → j.off ≡ pos k → target s (at b s).off ≡ pos t
  unfolding target
  ahead e o = ap (λ (x : Insn). target s x.off) e ∙ rw o (ap pos q)

  -- it goes forward
  forward : {j : Insn} {v : ℕ} → at b s ≡ j → j.off ≡ pos k → JumpsTo b s v → (s < v) × (v ≡ t)
  forward {v = v} e o w = let g = sym w.to ∙ ahead e o in let z : v ≡ t = cc in (omega arith, z)

  module _ (e : at b s ≡ seen (jas k)) where
    ja_fine : t < slots b → start b t ≡ true → shape_at b s ≡ Ok tt
    unfolding uses
    ja_fine l h = fine_here b s (keeps_ja (pos k) (omega arith)) e (lands l h)

    ja_safe : {Out : ℕ → Type 0} {D : Regs} → s < slots b → Safe b Out t D → Safe b Out s D
    unfolding uses reads after
    ja_safe {Out} {D} l o =
        let K = keeps_ja (pos k) (omega arith) in
        inside (inside_here b s K e l (none_read (λ x. refl)) (λ p n.
        subst (λ (x : ℕ). Safe b Out x D) (sym (jumps_to b s Ja (has_form b s K e) refl (ahead (as_seen b s K e) refl) n)) o))

    ja_forward : {v : ℕ} → JumpsTo b s v → (s < v) × (v ≡ t)
    ja_forward w = forward (as_seen b s (keeps_ja (pos k) (omega arith)) e) refl w

  module _ (e : at b s ≡ seen (jeqs k)) where
    jeq_forward : {v : ℕ} → JumpsTo b s v → (s < v) × (v ≡ t)
    jeq_forward w = forward (as_seen b s (keeps_jeq (pos k) (omega arith)) e) refl w

    jeq_fine : t < slots b → start b t ≡ true → shape_at b s ≡ Ok tt
    unfolding uses
    jeq_fine l h = fine_here b s (keeps_jeq (pos k) (omega arith)) e (lands l h)

    jeq_inside : {Out : ℕ → Type 0} {D : Regs} → s < slots b → D 0 ≡ true → Safe b Out (suc s) D → Safe b Out t D → Inside b Out s D
    unfolding uses reads after
    jeq_inside {Out} {D} l d on to =
        let K = keeps_jeq (pos k) (omega arith) in
        inside_here b s K e l (one_read 0 (λ x. refl) d) (λ p n.
        ⊎_elim (λ w. subst (λ (x : ℕ). Safe b Out x D) (sym (w ∙ add-one s)) on) (λ w. subst (λ (x : ℕ). Safe b Out x D) (sym w) to)
        (branches_to b s JeqImm (has_form b s K e) refl (ahead (as_seen b s K e) refl) n))

-- ---- the result is a branch condition

abbrev choosing : List Op
choosing = plain (jeqs 2) ∷ plain (movs 0 1) ∷ plain (jas 1) ∷ plain (movs 0 0) ∷ []

choosing_narrow : Narrow choosing
unfolding uses
choosing_narrow = (slim JeqImm (omega arith), (slim MovImm (omega arith), (slim Ja (omega arith), (slim MovImm (omega arith), tt))))

module _ (b : List ℕ) (xs : List Start) (s : ℕ) (h : Here b xs s choosing) where
  second : Here b xs (suc s) (plain (movs 0 1) ∷ plain (jas 1) ∷ plain (movs 0 0) ∷ [])
  second = (after_plain b xs s _ _ choosing_narrow.0 h).1

  third : Here b xs (suc (suc s)) (plain (jas 1) ∷ plain (movs 0 0) ∷ [])
  third = (after_plain b xs _ _ _ choosing_narrow.1.0 second).1

  fourth : Here b xs (suc (suc (suc s))) (plain (movs 0 0) ∷ [])
  fourth = (after_plain b xs _ _ _ choosing_narrow.1.1.0 third).1

  choosing_fine : s + 4 < slots b → Kept b s 4
  unfolding insns
  choosing_fine l =
      let fifth = (after_plain b xs _ _ _ choosing_narrow.1.1.1.0 fourth).1 in
      kept_cons (jeq_fine b s 2 (suc (suc (suc s))) (omega arith) (omega arith) h.stands.0 (omega arith) fourth.begins)
      (kept_cons (bit_fine b (suc s) 0 1 (omega arith) (omega arith) second.stands.0)
      (kept_cons (ja_fine b (suc (suc s)) 1 (suc (suc (suc (suc s)))) (omega arith) (omega arith) third.stands.0 (omega arith) fifth.begins)
      (kept_cons (bit_fine b (suc (suc (suc s))) 0 0 (omega arith) (omega arith) fourth.stands.0) kept_none)))

  choosing_confined : Confined b s 4 (s + 4)
  unfolding insns
  choosing_confined =
      confined_cons (λ q w. let z = jeq_forward b s 2 (suc (suc (suc s))) (omega arith) (omega arith) h.stands.0 w in (z.0, omega (arith, z.1)))
      (confined_cons (λ q w. absurd (bit_none b (suc s) 0 1 (omega arith) (omega arith) second.stands.0 w))
      (confined_cons (λ q w. let z = ja_forward b (suc (suc s)) 1 (suc (suc (suc (suc s)))) (omega arith) (omega arith) third.stands.0 w in (z.0, omega (arith, z.1)))
      (confined_cons (λ q w. absurd (bit_none b (suc (suc (suc s))) 0 0 (omega arith) (omega arith) fourth.stands.0 w)) confined_none)))

  choosing_inside : {Out : ℕ → Type 0} {D : Regs} → s + 4 < slots b → D 0 ≡ true → Safe b Out (suc (suc (suc (suc s)))) (with 0 D) → Inside b Out s D
  unfolding insns
  choosing_inside {Out} {D} l d o =
      let at4 : Safe b Out (suc (suc (suc s))) D = bit_safe b (suc (suc (suc s))) 0 0 (omega arith) (omega arith) fourth.stands.0 (omega arith) o in
      let at3 : Safe b Out (suc (suc s)) (with 0 D) = ja_safe b (suc (suc s)) 1 (suc (suc (suc (suc s)))) (omega arith) (omega arith) third.stands.0 (omega arith) o in
      let at2 : Safe b Out (suc s) D = bit_safe b (suc s) 0 1 (omega arith) (omega arith) second.stands.0 (omega arith) at3 in
      jeq_inside b s 2 (suc (suc (suc s))) (omega arith) (omega arith) h.stands.0 (omega arith) d at2 at4

pub choosing_piece : {D : Regs} → D 0 ≡ true → Piece choosing D (with 0 D)
unfolding slots_of
choosing_piece {D} d =
    record {
      narrow = choosing_narrow;
      fine = λ b xs s h l. choosing_fine b xs s h l;
      safe = λ b xs Out s h l o.
          let e : s + 4 ≡ suc (suc (suc (suc s))) = omega arith in
          choosing_inside b xs s h l d (rw e at o);
      confined = λ b xs s h. choosing_confined b xs s h;
    }

-- ---- it is none: where the value is 0, the program ends

-- the register that EXIT hands over
abbrev answer : ℕ
answer = 0

abbrev leaving : List Op
leaving = plain (jeqs 1) ∷ plain (jas 2) ∷ plain (movs answer 0) ∷ plain exits ∷ plain (movs 0 1) ∷ []

leaving_narrow : Narrow leaving
unfolding uses
leaving_narrow = (slim JeqImm (omega arith), (slim Ja (omega arith), (slim MovImm (omega arith), (slim Exit (omega arith), (slim MovImm (omega arith), tt)))))

module _ (b : List ℕ) (xs : List Start) (s : ℕ) (h : Here b xs s leaving) where
  after_first_lem : Here b xs (suc s) (plain (jas 2) ∷ plain (movs answer 0) ∷ plain exits ∷ plain (movs 0 1) ∷ [])
  after_first_lem = (after_plain b xs s _ _ leaving_narrow.0 h).1

  after_second : Here b xs (suc (suc s)) (plain (movs answer 0) ∷ plain exits ∷ plain (movs 0 1) ∷ [])
  after_second = (after_plain b xs _ _ _ leaving_narrow.1.0 after_first_lem).1

  after_third : Here b xs (suc (suc (suc s))) (plain exits ∷ plain (movs 0 1) ∷ [])
  after_third = (after_plain b xs _ _ _ leaving_narrow.1.1.0 after_second).1

  after_fourth : Here b xs (suc (suc (suc (suc s)))) (plain (movs 0 1) ∷ [])
  after_fourth = (after_plain b xs _ _ _ leaving_narrow.1.1.1.0 after_third).1

  leaving_fine : s + 5 < slots b → Kept b s 5
  unfolding insns uses
  leaving_fine l =
      kept_cons (jeq_fine b s 1 (suc (suc s)) (omega arith) (omega arith) h.stands.0 (omega arith) after_second.begins)
      (kept_cons (ja_fine b (suc s) 2 (suc (suc (suc (suc s)))) (omega arith) (omega arith) after_first_lem.stands.0 (omega arith) after_fourth.begins)
      (kept_cons (bit_fine b (suc (suc s)) answer 0 (omega arith) (omega arith) after_second.stands.0)
      (kept_cons (fine_here b (suc (suc (suc s))) keeps_exit after_third.stands.0 refl)
      (kept_cons (bit_fine b (suc (suc (suc (suc s)))) 0 1 (omega arith) (omega arith) after_fourth.stands.0) kept_none))))

  leaving_confined : Confined b s 5 (s + 5)
  unfolding insns uses
  leaving_confined =
      confined_cons (λ q w. let z = jeq_forward b s 1 (suc (suc s)) (omega arith) (omega arith) h.stands.0 w in (z.0, omega (arith, z.1)))
      (confined_cons (λ q w. let z = ja_forward b (suc s) 2 (suc (suc (suc (suc s)))) (omega arith) (omega arith) after_first_lem.stands.0 w in (z.0, omega (arith, z.1)))
      (confined_cons (λ q w. absurd (bit_none b (suc (suc s)) answer 0 (omega arith) (omega arith) after_second.stands.0 w))
      (confined_cons (λ q w. absurd (no_jump b (suc (suc (suc s))) keeps_exit after_third.stands.0 refl w))
      (confined_cons (λ q w. absurd (bit_none b (suc (suc (suc (suc s)))) 0 1 (omega arith) (omega arith) after_fourth.stands.0 w)) confined_none))))

pub leaving_piece : {D : Regs} → D 0 ≡ true → Piece leaving D (with 0 D)
unfolding slots_of insns
leaving_piece {D} d =
    record {
      narrow = leaving_narrow;
      fine = λ b xs s h l. leaving_fine b xs s h l;
      safe = λ b xs Out s h l o.
          let e : s + 5 ≡ suc (suc (suc (suc (suc s)))) = omega arith in
          leaving_inside b xs s h l d (rw e at o);
      confined = λ b xs s h. leaving_confined b xs s h;
    }
  where
    leaving_inside : (b : List ℕ) (xs : List Start) (s : ℕ) (h : Here b xs s leaving) {Out : ℕ → Type 0} {D : Regs} → s + 5 < slots b → D 0 ≡ true → Safe b Out (suc (suc (suc (suc (suc s))))) (with 0 D) → Inside b Out s D
    leaving_inside b xs s h {Out} {D} l d o =
        let at5 : Safe b Out (suc (suc (suc (suc s)))) D = bit_safe b (suc (suc (suc (suc s)))) 0 1 (omega arith) (omega arith) (after_fourth b xs s h).stands.0 (omega arith) o in
        let at4 : Safe b Out (suc (suc (suc s))) (with answer D) = inside (exit_inside b (suc (suc (suc s))) (after_third b xs s h).stands.0 (omega arith) (with_has answer D)) in
        let at3 : Safe b Out (suc (suc s)) D = bit_safe b (suc (suc s)) answer 0 (omega arith) (omega arith) (after_second b xs s h).stands.0 (omega arith) at4 in
        let at2 : Safe b Out (suc s) D = ja_safe b (suc s) 2 (suc (suc (suc (suc s)))) (omega arith) (omega arith) (after_first_lem b xs s h).stands.0 (omega arith) at5 in
        jeq_inside b s 1 (suc (suc s)) (omega arith) (omega arith) h.stands.0 (omega arith) d at2 at3
