-- What a terminator becomes, where its jumps land on blocks.
use mathlib.Core.Path.{◌≡◌, refl, sym, ap, ◌∙◌, subst}
use mathlib.Core.Bool.{Bool, true, false}
use mathlib.Core.Logic.{◌⊎◌, inl, inr, ⊎_elim}
use mathlib.Core.List.{List, [], ◌∷◌, ◌++◌}
use Prim.Native.Nat.{ℕ, suc, ◌+◌, ◌^◌, ◌<◌, ◌≤◌}
use native.Mathlib.Numerals.{add-one}
use native.Mathlib.Omega.{arith}
use borrow.Author.Tests.{ltb-true, lt-ltb}
use lib.Dec.{eqb}
use lib.IntN.{ℤ, pos, ◌+ℤ◌, ◌-ℤ◌, +ℤ_comm, +ℤ_assoc, -ℤ-+ℤ_cancel}
use lib.Signed.{mag}
use Rattle.wire.specs.Pick.{pick}
use Rattle.wire.specs.Range.{fits16, fits32}
use Rattle.ir.specs.declared.Operand.{Operand}
use Rattle.ir.specs.declared.Operand.TheVariants.{Var, Immediate}
use Rattle.ir.specs.declared.Terminator.{Terminator}
use Rattle.ir.specs.declared.Terminator.TheVariants.{Return, Jump, Branch}
use Rattle.insn.specs.Form.{opcode_of, form_of}
use Rattle.insn.specs.declared.Insn.{Insn}
use Rattle.insn.specs.declared.form.Form.TheVariants.{Ja, JneImm, Exit}
use Rattle.insn.proofs.Forms.{form_opcode}
use Rattle.frame.specs.Cell.{Frame}
use Rattle.lower.specs.Op.{Op, plain, map, ja, jne, Lowered, becomes, refused, insn, slots_of, ◌▸◌}
use Rattle.lower.specs.Operand.{constant, on_cell, load}
use Rattle.lower.specs.Terminator.{terminator}
use Rattle.lower.specs.declared.Reason.{Reason}
use Rattle.layout.specs.Jumps.{Start, Target, to, nowhere, or_this, last_start, distance, Landing, lands, no_target, too_far, on_target, or_rest, landing, jas, jnes, patches}
use Rattle.layout.specs.Jumps as J
use Rattle.layout.specs.Code.{insns, distance_to}
use Rattle.shape.specs.Code.{slots, at, start}
use Rattle.shape.specs.Fields.{uses}
use Rattle.shape.specs.Shape.{target, is_start, shape_at}
use Rattle.shape.specs.declared.Shape.TheVariants as S
use Rattle.paths.specs.Registers.{Regs, reads, with, after}
use Rattle.ours.proofs.Seen.{seen}
use Rattle.ours.proofs.Safe.{base, Under, under_same, Safe, out, Inside, inside, jumps_to, branches_to}
use Rattle.ours.proofs.Standing.{Narrow, Here, after_plain, front}
use Rattle.ours.proofs.Pieces.{Kept, kept_none, kept_cons, has_form, as_seen, fine_here, inside_here, Piece}
use Rattle.ours.proofs.Steps.{none_read, one_read, with_has, under_with, slim, made, keeps_ja, keeps_jne, exits, keeps_exit, exit_inside}
use Rattle.ours.proofs.Instructions.{Cells, Moves, m_load}
use Rattle.std.specs.Prelude.{None, Ok, Option, Some}

-- ---- targets

-- p is where a block begins
abbrev pub Slot : List Start → ℕ → Type 0
Slot [] p = ⊥
Slot (x ∷ xs) p = (p ≡ x.slot) ⊎ Slot xs p

pub last_slot : (xs : List Start) (id t : ℕ) → last_start xs id ≡ to t → Slot xs t
unfolding last_start or_this
last_slot [] id t e = let z : ◌≡◌ {A = ℕ} 0 1 = cc in absurd (omega arith)
last_slot (x ∷ xs) id t e = go (last_start xs id) e (last_slot xs id t)
  where
    this : (y : Bool) → pick y (to x.slot) nowhere ≡ to t → t ≡ x.slot
    this true e = cc
    this false e = let z : ◌≡◌ {A = ℕ} 0 1 = cc in absurd (omega arith)

    go : (l : Target) → or_this l x id ≡ to t → (l ≡ to t → Slot xs t) → (t ≡ x.slot) ⊎ Slot xs t
    go (to s) e k = inr (k e)
    go nowhere e k = inl (this (eqb x.id id) e)

-- a jump that is not refused
pub record Reaches (xs : List Start) (own id : ℕ) : Type 0 where
  pub slot : ℕ
  pub is : last_start xs id ≡ to slot
  pub near : mag (distance slot own) < 2 ^ 15

on_lands : (xs : List Start) (j : J.Jump) (l : Target) → last_start xs j.id ≡ l → on_target j l ≡ lands → Reaches xs j.own j.id
unfolding on_target fits16
on_lands xs j nowhere e h = let z : ◌≡◌ {A = ℕ} 0 1 = cc in absurd (omega arith)
on_lands xs j (to s) e h = record { slot = s; is = e; near = ltb-true _ _ (go (fits16 (distance s j.own)) h) }
  where
    go : (t : Bool) → pick t lands (too_far j.place j.id) ≡ lands → t ≡ true
    go true e = refl
    go false e = let z : ◌≡◌ {A = ℕ} 0 1 = cc in absurd (omega arith)

or_lands : (x y : Landing) → or_rest x y ≡ lands → (x ≡ lands) × (y ≡ lands)
unfolding or_rest
or_lands lands y e = (refl, e)
or_lands (no_target p i) y e = let z : ◌≡◌ {A = ℕ} 0 1 = cc in absurd (omega arith)
or_lands (too_far p i) y e = let z : ◌≡◌ {A = ℕ} 0 1 = cc in absurd (omega arith)

pub landing_first : (xs : List Start) (j : J.Jump) (js : List J.Jump) → landing xs (j ∷ js) ≡ lands → Reaches xs j.own j.id × (landing xs js ≡ lands)
unfolding landing
landing_first xs j js e = let p = or_lands (on_target j (last_start xs j.id)) (landing xs js) e in (on_lands xs j (last_start xs j.id) refl p.0, p.1)

pub landing_parts : (xs : List Start) (a c : List J.Jump) → landing xs (a ++ c) ≡ lands → (landing xs a ≡ lands) × (landing xs c ≡ lands)
unfolding landing or_rest
landing_parts xs [] c e = (refl, e)
landing_parts xs (j ∷ a) c e =
    let p = or_lands (on_target j (last_start xs j.id)) (landing xs (a ++ c)) e in
    let q = landing_parts xs a c p.1 in
    (rw p.0 q.0, q.1)

-- target slot − own slot − 1, from the slot after its own
pub distance_target : (t own : ℕ) → target own (distance t own) ≡ pos t
unfolding target
distance_target t own =
    let x = pos t -ℤ pos own in
    let one : pos (suc own) ≡ pos 1 +ℤ pos own = ap pos (omega arith) in
    +ℤ_comm (pos (suc own)) (x -ℤ pos 1)
    ∙ ap (λ (y : ℤ). (x -ℤ pos 1) +ℤ y) one
    ∙ sym (+ℤ_assoc (x -ℤ pos 1) (pos 1) (pos own))
    ∙ ap (λ (y : ℤ). y +ℤ pos own) (-ℤ-+ℤ_cancel x (pos 1))
    ∙ -ℤ-+ℤ_cancel (pos t) (pos own)

-- ---- the three endings

abbrev pub Jumpless : Insn → Type 0
Jumpless i = (uses (form_of i.code)).jumps ≡ false

-- EXIT comes where R0 is readable, JNE after a load of R0
pub data Ending : List Op → Type 1 where
  returns : {i : Insn} {D : Regs} → Jumpless i → Piece (plain i ∷ []) base D → D 0 ≡ true → Ending (plain i ∷ plain exits ∷ [])
  jumps : (id : ℕ) → Ending (ja id ∷ [])
  branches : {i : Insn} → Jumpless i → Piece (plain i ∷ []) base (with 0 base) → (id other : ℕ) → Ending (plain i ∷ jne id ∷ ja other ∷ [])

pub ending_narrow : {l : List Op} → Ending l → Narrow l
unfolding uses
ending_narrow (returns n p d) = (p.narrow.0, (slim Exit (omega arith), tt))
ending_narrow (jumps id) = tt
ending_narrow (branches n p id other) = (p.narrow.0, tt)

pub ending_some : {l : List Op} → Ending l → 0 < slots_of l
unfolding slots_of
ending_some (returns n p d) = omega arith
ending_some (jumps id) = omega arith
ending_some (branches n p id other) = omega arith

-- what jumps in them goes to a block, and each operation is one slot
abbrev pub Blockward : List Op → Type 0
Blockward [] = Unit {0}
Blockward (plain i ∷ l) = Jumpless i × Blockward l
Blockward (map m ∷ l) = ⊥
Blockward (ja id ∷ l) = Blockward l
Blockward (jne id ∷ l) = Blockward l

pub ending_blockward : {l : List Op} → Ending l → Blockward l
unfolding uses
ending_blockward (returns n p d) = (n, (rw form_opcode, tt))
ending_blockward (jumps id) = tt
ending_blockward (branches n p id other) = (n, tt)

-- ---- where they stand

module _ (b : List ℕ) (xs : List Start) (good : (p : ℕ) → Slot xs p → (p < slots b) × (start b p ≡ true)) where
  -- a jump of either form to a block
  module _ (s id : ℕ) (R : Reaches xs s id) where
    at_block : is_start b (target s (distance R.slot s)) ≡ true
    unfolding is_start
    at_block = let g = good R.slot (last_slot xs id R.slot R.is) in rw (distance_target R.slot s, lt-ltb R.slot (slots b) g.0) g.1

    to_block : {j : Insn} → at b s ≡ j → j.off ≡ distance R.slot s → target s (at b s).off ≡ pos R.slot
    to_block e o = ap (λ (x : Insn). target s x.off) e ∙ ap (target s) o ∙ distance_target R.slot s

    there : {D : Regs} (q : ℕ) → Under base D → q ≡ R.slot → Safe b (Slot xs) q D
    there {D} q u e = out (subst (Slot xs) (sym e) (last_slot xs id R.slot R.is)) u

    jumping : (code : ℕ) → at b s ≡ seen (made code 0 0 (distance_to (last_start xs id) s) (pos 0)) → at b s ≡ seen (made code 0 0 (distance R.slot s) (pos 0))
    unfolding distance_to
    jumping code e = e ∙ ap (λ (t : Target). seen (made code 0 0 (distance_to t s) (pos 0))) R.is

    ja_fine : at b s ≡ seen (made (opcode_of Ja) 0 0 (distance_to (last_start xs id) s) (pos 0)) → Kept b s 1
    unfolding uses
    ja_fine e = kept_cons (fine_here b s (keeps_ja _ R.near) (jumping _ e) at_block) kept_none

    ja_inside : {D : Regs} → Under base D → s < slots b → at b s ≡ seen (made (opcode_of Ja) 0 0 (distance_to (last_start xs id) s) (pos 0)) → Inside b (Slot xs) s D
    unfolding uses reads after
    ja_inside u l e =
        let k = keeps_ja _ R.near in
        let g = jumping (opcode_of Ja) e in
        inside_here b s k g l (none_read (λ x. refl)) (λ q t. there q u (jumps_to b s Ja (has_form b s k g) refl (to_block (as_seen b s k g) refl) t))

    jne_fine : at b s ≡ seen (made (opcode_of JneImm) 0 0 (distance_to (last_start xs id) s) (pos 0)) → shape_at b s ≡ Ok tt
    unfolding uses
    jne_fine e = fine_here b s (keeps_jne _ R.near) (jumping _ e) at_block

    jne_inside : {D : Regs} → Under base D → D 0 ≡ true → s < slots b → at b s ≡ seen (made (opcode_of JneImm) 0 0 (distance_to (last_start xs id) s) (pos 0)) → Safe b (Slot xs) (suc s) D → Inside b (Slot xs) s D
    unfolding uses reads after
    jne_inside {D} u d l e o =
        let k = keeps_jne _ R.near in
        let g = jumping (opcode_of JneImm) e in
        inside_here b s k g l (one_read 0 (λ x. refl) d) (λ q t.
        ⊎_elim (λ p. subst (λ (x : ℕ). Safe b (Slot xs) x D) (sym (p ∙ add-one s)) o) (λ p. there q u p)
        (branches_to b s JneImm (has_form b s k g) refl (to_block (as_seen b s k g) refl) t))

  module _ (place s : ℕ) where
    -- its instructions keep the shape rules
    pub ending_fine : {l : List Op} → Ending l → Here b xs s l → s + slots_of l ≤ slots b → landing xs (patches place s l) ≡ lands → Kept b s (slots_of l)
    unfolding slots_of insns patches jas jnes uses
    ending_fine (returns {i} _ p d) h r e =
        let n = (after_plain b xs s i _ p.narrow.0 h).1 in
        kept_cons ((p.fine b xs s (front b xs s (plain i ∷ []) (plain exits ∷ []) h) (omega arith)).each s (omega arith) (omega arith) h.begins)
        (kept_cons (fine_here b (suc s) keeps_exit n.stands.0 refl) kept_none)
    ending_fine (jumps id) h r e = ja_fine s id (landing_first xs _ _ e).0 h.stands.0
    ending_fine (branches {i} _ p id other) h r e =
        let n = (after_plain b xs s i _ p.narrow.0 h).1 in
        let far = landing_first xs _ _ e in
        kept_cons ((p.fine b xs s (front b xs s (plain i ∷ []) (jne id ∷ ja other ∷ []) h) (omega arith)).each s (omega arith) (omega arith) h.begins)
        (kept_cons (jne_fine (suc s) id (landing_first xs _ _ far.1).0 n.stands.0) (ja_fine (suc (suc s)) other far.0 n.stands.1.0))

    -- from R6 and R10 its paths are safe
    pub ending_inside : {l : List Op} → Ending l → Here b xs s l → s + slots_of l ≤ slots b → landing xs (patches place s l) ≡ lands → Inside b (Slot xs) s base
    unfolding slots_of insns patches jas jnes uses reads after
    ending_inside (returns {i} {D} _ p d) h r e =
        let n = (after_plain b xs s i _ p.narrow.0 h).1 in
        let o : Safe b (Slot xs) (suc s) D = inside (exit_inside b (suc s) n.stands.0 (omega arith) d) in
        p.safe b xs (Slot xs) s (front b xs s (plain i ∷ []) (plain exits ∷ []) h) (omega arith) (rw add-one o)
    ending_inside (jumps id) h r e = ja_inside s id (landing_first xs _ _ e).0 under_same (omega arith) h.stands.0
    ending_inside (branches {i} _ p id other) h r e =
        let n = (after_plain b xs s i _ p.narrow.0 h).1 in
        let far = landing_first xs _ _ e in
        let u = under_with 0 in
        let last = inside (ja_inside (suc (suc s)) other far.0 u (omega arith) n.stands.1.0) in
        let o = inside (jne_inside (suc s) id (landing_first xs _ _ far.1).0 u (with_has 0 base) (omega arith) n.stands.0 last) in
        p.safe b xs (Slot xs) s (front b xs s (plain i ∷ []) (jne id ∷ ja other ∷ []) h) (omega arith) (rw add-one o)

-- ---- each terminator becomes one of them, or is refused

data Alone : Lowered → Type 0 where
  one : (i : Insn) → Jumpless i → Alone (becomes (plain i ∷ []))
  nothing : {r : Reason} → Alone (refused r)

a_constant : (t : Bool) (i : Insn) (r : Reason) → Jumpless i → Alone (pick t (becomes (plain i ∷ [])) (refused r))
a_constant true i r n = one i n
a_constant false i r n = nothing

a_cell : (v : ℕ) (x : Option ℤ) (g : ℤ → Insn) → ((z : ℤ) → Jumpless (g z)) → Alone (on_cell v x (λ z. becomes (plain (g z) ∷ [])))
unfolding on_cell
a_cell v (Some z) g n = one (g z) (n z)
a_cell v None g n = nothing

a_load : (f : Frame) (r : ℕ) (o : Operand) → Alone (load f r o)
unfolding load constant insn uses
a_load f r (Var v) = a_cell v (f.cell v) _ (λ z. rw form_opcode)
a_load f r (Immediate z) = a_constant (fits32 z) _ _ (rw form_opcode)

pub data Ends : Lowered → Type 1 where
  some : {l : List Op} → Ending l → Ends (becomes l)
  none : {r : Reason} → Ends (refused r)

e_return : {x : Lowered} → Moves x base (with 0 base) → Alone x → Ends (x ▸ insn Exit 0 0 (pos 0) (pos 0))
unfolding ◌▸◌ insn
e_return (Moves.some p) (one i n) = some (returns n p (with_has 0 base))
e_return Moves.none nothing = none

e_branch : {x : Lowered} → Moves x base (with 0 base) → Alone x → (id other : ℕ) → Ends (x ▸ becomes (jne id ∷ ja other ∷ []))
unfolding ◌▸◌
e_branch (Moves.some p) (one i n) id other = some (branches n p id other)
e_branch Moves.none nothing id other = none

pub ends : (f : Frame) → Cells f → (t : Terminator) → Ends (terminator f t)
unfolding terminator base
ends f c (Return o) = e_return (m_load f c 0 o (omega arith) refl) (a_load f 0 o)
ends f c (Jump id) = some (jumps id)
ends f c (Branch o id other) = e_branch (m_load f c 0 o (omega arith) refl) (a_load f 0 o) id other
