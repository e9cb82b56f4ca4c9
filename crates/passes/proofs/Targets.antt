-- Where the jumps of a terminator go: its code with the slots that the tables tell is its code by the emitted blocks, and every distance is in range.
use mathlib.Core.Path.{◌≡◌, refl, sym, ap, ◌∙◌}
use mathlib.Core.Bool.{Bool, true, false}
use mathlib.Core.List.{List, [], ◌∷◌, ◌++◌}
use mathlib.Core.Logic.{⊎_elim}
use Prim.Native.Nat.{ℕ, suc, ◌+◌, ◌*◌, ◌<◌}
use native.Mathlib.Nat.{zero-add}
use native.Mathlib.Omega.{arith}
use lib.IntN.{ℤ, pos}
use lib.ListN.{length, get_or}
use Rattle.wire.specs.Pick.{pick}
use Rattle.wire.specs.Range.{fits16, fits32}
use Rattle.ir.specs.declared.Operand.{Operand}
use Rattle.ir.specs.declared.Operand.TheVariants.{Var, Immediate}
use Rattle.ir.specs.declared.Terminator.{Terminator}
use Rattle.ir.specs.declared.Terminator.TheVariants as T
use Rattle.insn.specs.declared.Insn.{Insn}
use Rattle.insn.specs.declared.form.Form.{Form}
use Rattle.insn.specs.declared.form.Form.TheVariants.{Exit}
use Rattle.unitfile.specs.Unit.{BasicBlock}
use Rattle.frame.specs.Cell.{Frame}
use Rattle.flow.specs.Computed.{is_reached}
use Rattle.flow.specs.Linked.{number_from}
use Rattle.flow.proofs.Numbers.{Here, number_law}
use Rattle.survey.specs.Surveyed.{ids}
use Rattle.survey.proofs.Flat.{ids_count}
use Rattle.lower.specs.Op.{plain, ja, jne, Lowered, becomes, refused, insn, ◌▸◌}
use Rattle.lower.specs.Operand.{constant, on_cell, load}
use Rattle.lower.specs.Terminator.{terminator}
use Rattle.lower.specs.declared.Reason.{Reason}
use Rattle.layout.specs.Emitted.{nodes}
use Rattle.layout.specs.Layout.{Context, at, ops}
use Rattle.layout.specs.Jumps.{Start, starts, Target, to, nowhere, last_start, distance, Jump, jas, jnes, patches, Landing, lands, no_target, too_far, on_target, or_rest, landing}
use Rattle.layout.specs.Code.{distance_to, insns}
use Rattle.layout.specs.Inner as layout
use Rattle.layout.specs.Inner.{keep_by}
use Rattle.layout.proofs.Located.{located}
use Rattle.passes.specs.Notes.{first_target, second_target, pairs_of}
use Rattle.passes.specs.Tables.{Tables}
use Rattle.passes.specs.Put.{slot_to, insns_to, reaches, Written}
use Rattle.std.specs.Prelude.{None, Option, Some}

-- ---- jumps that land

lands_both : (x y : Landing) → or_rest x y ≡ lands → (x ≡ lands) × (y ≡ lands)
unfolding or_rest
lands_both lands y e = (refl, e)
lands_both (no_target p i) y e = let z : ◌≡◌ {A = ℕ} 0 1 = cc in absurd (omega arith)
lands_both (too_far p i) y e = let z : ◌≡◌ {A = ℕ} 0 1 = cc in absurd (omega arith)

pub landing_append : (xs : List Start) (a b : List Jump) → landing xs (a ++ b) ≡ lands → (landing xs a ≡ lands) × (landing xs b ≡ lands)
unfolding landing or_rest
landing_append xs [] b e = (refl, e)
landing_append xs (j ∷ a) b e =
    let x = lands_both (on_target j (last_start xs j.id)) (landing xs (a ++ b)) e in
    let y = landing_append xs a b x.1 in
    (ap (λ (l : Landing). or_rest l (landing xs a)) x.0 ∙ y.0, y.1)

-- a jump to an id goes to slot a, or nowhere
pub record Leads (xs : List Start) (id a : ℕ) : Type 0 where
  pub flag : Bool
  pub is : last_start xs id ≡ pick flag (to a) nowhere

in_range : (t : Bool) (p i : ℕ) → pick t lands (too_far p i) ≡ lands → t ≡ true
in_range true p i e = refl
in_range false p i e = let z : ◌≡◌ {A = ℕ} 0 1 = cc in absurd (omega arith)

-- where it lands, it goes to a, and that is in range
pub record Lands (l : Target) (a own : ℕ) : Type 0 where
  pub is : l ≡ to a
  pub near : fits16 (distance a own) ≡ true

lands_by : (t : Bool) (j : Jump) (a : ℕ) (l : Target) → l ≡ pick t (to a) nowhere → on_target j l ≡ lands → Lands l a j.own
unfolding on_target
lands_by true j a l e h = record { is = e; near = in_range (fits16 (distance a j.own)) _ _ (ap (on_target j) (sym e) ∙ h) }
lands_by false j a l e h = let y = ap (on_target j) (sym e) ∙ h in let z : ◌≡◌ {A = ℕ} 0 1 = cc in absurd (omega arith)

-- ---- a terminator's operations

data One : Lowered → Type 0 where
  some : (i : Insn) → One (becomes (plain i ∷ []))
  none : (r : Reason) → One (refused r)

one_insn : (form : Form) (dst src : ℕ) (off imm : ℤ) → One (insn form dst src off imm)
unfolding insn
one_insn form dst src off imm = One.some _

one_pick : (t : Bool) {x y : Lowered} → One x → One y → One (pick t x y)
one_pick true p q = p
one_pick false p q = q

one_cell : (v : ℕ) (x : Option ℤ) (g : ℤ → Lowered) → ((z : ℤ) → One (g z)) → One (on_cell v x g)
unfolding on_cell
one_cell v (Some z) g h = h z
one_cell v None g h = One.none _

one_load : (f : Frame) (r : ℕ) (o : Operand) → One (load f r o)
unfolding load constant
one_load f r (Var v) = one_cell v (f.cell v) _ (λ z. one_insn _ _ _ _ _)
one_load f r (Immediate z) = one_pick (fits32 z) (one_insn _ _ _ _ _) (One.none _)

-- its plain instructions, and its jumps
data Ends : Terminator → Lowered → Type 0 where
  return : (o : Operand) (i j : Insn) → Ends (T.Return o) (becomes (plain i ∷ plain j ∷ []))
  jump : (id : ℕ) → Ends (T.Jump id) (becomes (ja id ∷ []))
  branch : (o : Operand) (first second : ℕ) (i : Insn) → Ends (T.Branch o first second) (becomes (plain i ∷ jne first ∷ ja second ∷ []))
  none : (t : Terminator) (r : Reason) → Ends t (refused r)

ends_return : (o : Operand) {x : Lowered} → One x → Ends (T.Return o) (x ▸ insn Exit 0 0 (pos 0) (pos 0))
unfolding ◌▸◌ insn
ends_return o (One.some i) = Ends.return o i _
ends_return o (One.none r) = Ends.none _ r

ends_branch : (o : Operand) (first second : ℕ) {x : Lowered} → One x → Ends (T.Branch o first second) (x ▸ becomes (jne first ∷ ja second ∷ []))
unfolding ◌▸◌
ends_branch o first second (One.some i) = Ends.branch o first second i
ends_branch o first second (One.none r) = Ends.none _ r

ends : (f : Frame) (t : Terminator) → Ends t (terminator f t)
unfolding terminator
ends f (T.Return o) = ends_return o (one_load f 0 o)
ends f (T.Jump id) = Ends.jump id
ends f (T.Branch o first second) = ends_branch o first second (one_load f 0 o)

module _ (xs : List Start) (a b place s : ℕ) where
  written_ends : {t : Terminator} {x : Lowered} → Ends t x → Leads xs (first_target t) a → Leads xs (second_target t) b → landing xs (patches place s (ops (at place x))) ≡ lands → Written xs a b s (ops (at place x))
  unfolding first_target second_target ops at patches jas jnes landing or_rest insns_to insns reaches distance_to
  written_ends (Ends.return o i j) p q h = record { code = refl; reach = refl }
  written_ends (Ends.jump id) p q h =
      let l = lands_by p.flag (record { place = place; own = s; id = id }) a _ p.is (lands_both _ _ h).0 in
      record { code = rw l.is refl; reach = rw l.near refl }
  written_ends (Ends.branch o first second i) p q h =
      let u = lands_both _ _ h in
      let l = lands_by q.flag (record { place = place; own = suc (suc s); id = second }) b _ q.is u.0 in
      let m = lands_by p.flag (record { place = place; own = suc s; id = first }) a _ p.is (lands_both _ _ u.1).0 in
      record { code = rw (l.is, m.is) refl; reach = rw (l.near, m.near) refl }
  written_ends (Ends.none t r) p q h = record { code = refl; reach = refl }

  pub written_terminator : (f : Frame) (t : Terminator) → Leads xs (first_target t) a → Leads xs (second_target t) b → landing xs (patches place s (ops (at place (terminator f t)))) ≡ lands → Written xs a b s (ops (at place (terminator f t)))
  written_terminator f t p q h = written_ends (ends f t) p q h

-- ---- by the tables

module _ {c : Context} {e : ℕ → Bool} {bs : List BasicBlock} {edges numbers : List ℕ} (t : Tables c e bs edges numbers) where
  module _ (i : ℕ) (h : i < 2 * length bs) where
    abbrev id : ℕ
    id = get_or (pairs_of bs) i 0

    abbrev number : ℕ
    number = number_from 0 (ids bs) id

    found : last_start (starts c (keep_by e 0 bs)) id ≡ pick (e number) (to (get_or (layout.edges c e 0 0 1 bs) number 0)) nowhere
    unfolding starts
    found = located c e (is_reached (nodes bs)) 0 1 bs (record { at = λ k l. ap e (zero-add k) ∙ t.agrees k l }) t.few t.past id

    -- the i-th of all targets
    pub leads : Leads (starts c (keep_by e 0 bs)) id (slot_to edges numbers i)
    unfolding slot_to
    leads =
        ⊎_elim
        (λ (x : Here (ids bs) id number). record { flag = e number; is = found ∙ ap (λ (s : ℕ). pick (e number) (to s) nowhere) (sym (t.edge number (omega (arith, x.inside, ids_count bs))) ∙ ap (λ (k : ℕ). get_or edges k 0) (sym (t.number i h))) })
        (λ x. record { flag = false; is = found ∙ ap (λ (f : Bool). pick f (to (get_or (layout.edges c e 0 0 1 bs) number 0)) nowhere) (ap e x.0 ∙ t.past) })
        (number_law (ids bs) id (omega (arith, ids_count bs, t.few)))
