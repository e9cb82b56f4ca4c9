-- What a block's instructions and its terminator take, from their bytes.
use mathlib.Core.Path.{◌≡◌, refl, sym, ap, ◌∙◌, subst}
use mathlib.Core.Bool.{Bool, true, false}
use mathlib.Core.List.{List, [], ◌∷◌, ◌++◌}
use Prim.Native.Nat.{ℕ, ◌+◌, ◌*◌, ◌<◌, ◌≤◌}
use native.Mathlib.Nat.{zero-add}
use native.Mathlib.Omega.{arith}
use borrow.Author.Tests.{eq-eqb, ne_eqb}
use lib.Dec.{eqb}
use lib.IntN.{pos}
use lib.ListN.{length}
use mir.Syntax.{w32}
use Rattle.wire.specs.Pick.{pick}
use Rattle.wire.specs.Le.{byte_at, unsigned_at}
use Rattle.wire.specs.Range.{fits32}
use Rattle.ir.specs.Operands.{list_of}
use Rattle.ir.specs.declared.Instruction.{Instruction}
use Rattle.ir.specs.declared.Operand.{Operand}
use Rattle.ir.specs.declared.Operand.TheVariants as O
use Rattle.ir.specs.declared.Terminator.{Terminator}
use Rattle.ir.specs.declared.Terminator.TheVariants as T
use Rattle.operand.specs.Operand.{operand_in}
use Rattle.record.specs.Frame.{next_at}
use Rattle.record.specs.Instruction.{fields_in}
use Rattle.unitfile.specs.Unit.{PlacedInstruction, BasicBlock}
use Rattle.recordparts.specs.Terminator.{terminator_in}
use Rattle.recordparts.specs.Stands.{InstructionAt, TerminatorAt}
use Rattle.insn.specs.declared.form.Form.TheVariants.{MovImm, Exit}
use Rattle.frame.specs.Cell.{Frame}
use Rattle.lower.specs.Op.{Lowered, becomes, refused, ja, jne, slots_of, insn, ◌▸◌}
use Rattle.lower.specs.Operand.{constant, on_cell, load}
use Rattle.lower.specs.Instruction.{instruction, scratch_after}
use Rattle.lower.specs.Payload.{instruction_in, operands_of}
use Rattle.lower.specs.Terminator.{terminator}
use Rattle.lower.specs.Step.{map_ops}
use Rattle.lower.specs.Held.{map_in, held}
use Rattle.lower.specs.declared.Reason.{Reason}
use Rattle.lower.specs.declared.Reason.TheVariants as Re
use Rattle.size.specs.Size.{every_cell, size_in}
use Rattle.size.specs.Celled.{Celled}
use Rattle.size.proofs.Cells.{same_size_in}
use Rattle.layout.specs.Layout.{Laid, laid, refused_at, Context, at, ◌then◌, instructions, block}
use Rattle.layout.specs.Inner.{block_by, maps_of}
use Rattle.layout.proofs.Laid.{slots_append}
use Rattle.layout.proofs.Tidy.{Tidy}
use Rattle.survey.specs.Standing.{Chain}
use Rattle.survey.proofs.Standing.{First, chain_within, chain_empty, chain_first, chain_same}
use Rattle.passes.specs.Inner.{condition_in}
use Rattle.passes.specs.Places.{payload_at}
use Rattle.passes.specs.Rows.{RowCelled, EndCelled, BlockCelled, Row, RowSized, BlockIn, SomeBlock, BlockSized, BlockTakes}
use Rattle.passes.specs.Tables.{size_of, size_by, relocs_by, load_size, Sized}
use Rattle.passes.proofs.Celled.{first_celled, others_celled}
use Rattle.passes.proofs.Payload.{terminator_drop, result_is, operands_are, instruction_is, same_opcode, tidy_payload}
use Rattle.passes.proofs.Plain.{plain_slots, plain_maps, plain_map, maps_append}
use Rattle.std.specs.Prelude.{Err, None, Ok, Result, Some}
use Rattle.wire.proofs.Pairs.{ok_parts}

-- ---- what one record takes

pub within : {x y a b : ℕ} → x ≤ a → y ≤ b → (n m : ℕ) → ◌≡◌ {A = Result (ℕ × ℕ) (ℕ × Reason)} (Ok (x, y)) (Ok (n, m)) → (n ≤ a) × (m ≤ b)
within {x} {y} {a} {b} p q n m e =
    let same = ok_parts e in
    (omega (arith, same.0), omega (arith, same.1))

sized : {l : Laid} {x y : ℕ} → x ≤ 13 → y ≤ 1 → Ok (x, y) ≡ size_of l → Sized l (Ok (x, y))
sized p q e = record { size = e; few = within p q }

sized_refused : {l : Laid} {place : ℕ} {r : Reason} → Err (place, r) ≡ size_of l → Sized l (Err (place, r))
sized_refused e = record { size = e; few = λ n m h. let z : ◌≡◌ {A = ℕ} 0 1 = cc in absurd (omega arith) }

sized_tidy : (place : ℕ) {x : Lowered} → Tidy 11 x → Sized (at place x) (size_by place (held x))
unfolding held map_in size_by relocs_by at map_ops size_of slots_of maps_of
sized_tidy place (Tidy.some None is h) = rw (plain_map is) (sized (omega (arith, plain_slots is)) (omega arith) (rw (plain_maps is)))
sized_tidy place (Tidy.some (Some m) is h) = sized (omega (arith, plain_slots is)) (omega arith) (rw (plain_maps is))
sized_tidy place (Tidy.none r) = sized_refused refl

sized_held : (place : ℕ) {x : Lowered} {r : Result (ℕ × ℕ) (ℕ × Reason)} → Tidy 11 x → r ≡ size_by place (held x) → Sized (at place x) r
sized_held place {x} t q = subst (Sized (at place x)) (sym q) (sized_tidy place t)

-- ---- an instruction

-- only a NullCheck asks whether its result is a branch condition
asked : (c : Context) (p : List ℕ) → size_in (condition_in c p) p ≡ size_in (c.condition (unsigned_at w32 p 0)) p
unfolding condition_in size_in instruction_in fields_in
asked c p = go (eqb (byte_at p 4) 7) refl
  where
    go : (t : Bool) → eqb (byte_at p 4) 7 ≡ t → size_in (pick t (c.condition (unsigned_at w32 p 0)) false) p ≡ size_in (c.condition (unsigned_at w32 p 0)) p
    go true e = refl
    go false e = ap held (same_opcode every_cell 0 false (c.condition (unsigned_at w32 p 0)) _ _ (fields_in p 0) e)

module _ (c : Context) (b : List ℕ) (place : ℕ) (i : Instruction) (here : InstructionAt b place i) (cells : Celled c.frame i.result (list_of i.operands)) where
  abbrev p : List ℕ
  p = payload_at b place

  cells_in : Celled c.frame (unsigned_at w32 p 0) (operands_of p)
  cells_in = rw (result_is b place i here, operands_are b place i here) cells

  instruction_sized : (j : ℕ) {r : Result (ℕ × ℕ) (ℕ × Reason)} → r ≡ size_by place (size_in (condition_in c p) p) → Sized (at place (instruction c.frame j (c.condition i.result) i)) r
  instruction_sized j {r} e =
      let t = c.condition (unsigned_at w32 p 0) in
      let h = same_size_in c.frame j t p cells_in in
      let q : r ≡ size_by place (held (instruction_in c.frame j t p)) = e ∙ ap (size_by place) (asked c p ∙ sym h) in
      subst (λ (x : Lowered). Sized (at place x) r)
      (instruction_is b place i here c.frame j t ∙ ap (λ (v : ℕ). instruction c.frame j (c.condition v) i) (result_is b place i here))
      (sized_held place (tidy_payload c.frame j t p) q)

-- ---- a terminator

-- by its payload's form
module _ (place : ℕ) (p : List ℕ) where
  abbrev Here : Result (ℕ × ℕ) (ℕ × Reason) → Type 0
  Here = Sized (at place (terminator every_cell (terminator_in p 0)))

  loads : (o : Operand) (n : ℕ) {l : Laid} → n ≤ 13 → (size_of l ≡ load_size place o n) → Sized l (load_size place o n)
  unfolding load_size
  loads (O.Var v) n h e = sized h (omega arith) (sym e)
  loads (O.Immediate z) n {l} h e = go (fits32 z) (sym e)
    where
      go : (t : Bool) → pick t (Ok (n, 0)) (Err (place, Re.Immediate z)) ≡ size_of l → Sized l (pick t (Ok (n, 0)) (Err (place, Re.Immediate z)))
      go true e = sized h (omega arith) e
      go false e = sized_refused e

  returns : (o : Operand) → size_of (at place (terminator every_cell (T.Return o))) ≡ load_size place o 2
  unfolding terminator load on_cell constant every_cell insn ◌▸◌ at size_of slots_of maps_of load_size
  returns (O.Var v) = refl
  returns (O.Immediate z) = go (fits32 z)
    where
      go : (t : Bool) → size_of (at place (pick t (insn MovImm 0 0 (pos 0) z) (refused (Re.Immediate z)) ▸ insn Exit 0 0 (pos 0) (pos 0))) ≡ pick t (Ok (2, 0)) (Err (place, Re.Immediate z))
      go true = refl
      go false = refl

  branches : (o : Operand) (to other : ℕ) → size_of (at place (terminator every_cell (T.Branch o to other))) ≡ load_size place o 3
  unfolding terminator load on_cell constant every_cell insn ◌▸◌ at size_of slots_of maps_of load_size
  branches (O.Var v) to other = refl
  branches (O.Immediate z) to other = go (fits32 z)
    where
      go : (t : Bool) → size_of (at place (pick t (insn MovImm 0 0 (pos 0) z) (refused (Re.Immediate z)) ▸ becomes (jne to ∷ ja other ∷ []))) ≡ pick t (Ok (3, 0)) (Err (place, Re.Immediate z))
      go true = refl
      go false = refl

  pub return_sized : {r : Result (ℕ × ℕ) (ℕ × Reason)} → byte_at p 0 ≡ 0 → r ≡ load_size place (operand_in p 1) 2 → Here r
  unfolding terminator_in
  return_sized h e = rw (e, eq-eqb (byte_at p 0) 0 h) (loads (operand_in p 1) 2 (omega arith) (returns (operand_in p 1)))

  pub jump_sized : byte_at p 0 ≡ 1 → Here (Ok (1, 0))
  unfolding terminator_in terminator at size_of slots_of maps_of
  jump_sized h = rw h (sized (omega arith) (omega arith) refl)

  pub branch_sized : {r : Result (ℕ × ℕ) (ℕ × Reason)} → (byte_at p 0 ≡ 0 → ⊥) → (byte_at p 0 ≡ 1 → ⊥) → r ≡ load_size place (operand_in p 1) 3 → Here r
  unfolding terminator_in
  branch_sized h k e = rw (e, ne_eqb (byte_at p 0) 0 h, ne_eqb (byte_at p 0) 1 k) (loads (operand_in p 1) 3 (omega arith) (branches (operand_in p 1) _ _))

-- in a frame that has its variable's cell
same_end : (place : ℕ) (f : Frame) (t : Terminator) → EndCelled f t → size_of (at place (terminator every_cell t)) ≡ size_of (at place (terminator f t))
unfolding terminator load on_cell every_cell insn ◌▸◌ at size_of slots_of maps_of
same_end place f (T.Return (O.Var v)) c = rw (c.returned v refl).at
same_end place f (T.Return (O.Immediate z)) c = refl
same_end place f (T.Jump target) c = refl
same_end place f (T.Branch (O.Var v) to other) c = rw (c.tested v to other refl).at
same_end place f (T.Branch (O.Immediate z) to other) c = refl

end_sized : (f : Frame) (b : List ℕ) (place : ℕ) (t : Terminator) {r : Result (ℕ × ℕ) (ℕ × Reason)} → TerminatorAt b place t → EndCelled f t → Sized (at place (terminator every_cell (terminator_in (payload_at b place) 0))) r → Sized (at place (terminator f t)) r
end_sized f b place t {r} h c s =
    let q = subst (λ (x : Terminator). Sized (at place (terminator every_cell x)) r) (terminator_drop b (place + 4) ∙ h.value) s in
    record { size = q.size ∙ same_end place f t c; few = q.few }

-- ---- slots and relocations, and those of what follows

unfoldable pub plus : ℕ → ℕ → Laid → Result (ℕ × ℕ) (ℕ × Reason)
plus s m (laid l) = Ok (s + slots_of l, m + maps_of l)
plus s m (refused_at place r) = Err (place, r)

pub plus_laid : (s m : ℕ) (x y : Laid) (n k : ℕ) → Ok (n, k) ≡ size_of x → plus s m (x then y) ≡ plus (s + n) (m + k) y
unfolding plus size_of ◌then◌
plus_laid s m (laid a) (laid b) n k e =
    let p : n ≡ slots_of a = (ok_parts e).0 in
    let q : k ≡ maps_of a = (ok_parts e).1 in
    let g : s + slots_of (a ++ b) ≡ s + n + slots_of b = omega (arith, slots_append a b) in
    let h : m + maps_of (a ++ b) ≡ m + k + maps_of b = omega (arith, maps_append a b) in
    rw (g, h)
plus_laid s m (laid a) (refused_at p r) n k e = refl
plus_laid s m (refused_at p r) (laid b) n k e = let z : ◌≡◌ {A = ℕ} 0 1 = cc in absurd (omega arith)
plus_laid s m (refused_at p r) (refused_at q t) n k e = let z : ◌≡◌ {A = ℕ} 0 1 = cc in absurd (omega arith)

pub plus_refused : (s m : ℕ) (x y : Laid) (place : ℕ) (r : Reason) → Err (place, r) ≡ size_of x → plus s m (x then y) ≡ Err (place, r)
unfolding plus size_of ◌then◌
plus_refused s m (laid a) y place r e = let z : ◌≡◌ {A = ℕ} 0 1 = cc in absurd (omega arith)
plus_refused s m (refused_at p t) (laid b) place r e = sym e
plus_refused s m (refused_at p t) (refused_at q u) place r e = sym e

pub plus_nothing : (s m : ℕ) → Ok (s, m) ≡ plus s m (laid [])
unfolding plus slots_of maps_of
plus_nothing s m =
    let g : s + 0 ≡ s = omega arith in
    let h : m + 0 ≡ m = omega arith in
    rw (g, h)

laid_last : (s m : ℕ) (x : Laid) (n k : ℕ) → Ok (n, k) ≡ size_of x → Ok (s + n, m + k) ≡ plus s m x
unfolding plus size_of
laid_last s m (laid l) n k e =
    let p : n ≡ slots_of l = (ok_parts e).0 in
    let q : k ≡ maps_of l = (ok_parts e).1 in
    rw (p, q)
laid_last s m (refused_at p r) n k e = let z : ◌≡◌ {A = ℕ} 0 1 = cc in absurd (omega arith)

refused_last : (s m : ℕ) (x : Laid) (place : ℕ) (r : Reason) → Err (place, r) ≡ size_of x → Err (place, r) ≡ plus s m x
unfolding plus size_of
refused_last s m (laid l) place r e = let z : ◌≡◌ {A = ℕ} 0 1 = cc in absurd (omega arith)
refused_last s m (refused_at p t) place r e = e

plus_zero : (x : Laid) → plus 0 0 x ≡ size_of x
unfolding plus size_of
plus_zero (laid l) =
    let g : 0 + slots_of l ≡ slots_of l = omega arith in
    let h : 0 + maps_of l ≡ maps_of l = omega arith in
    rw (g, h)
plus_zero (refused_at place r) = refl

-- ---- a block's instructions

-- with s slots and m relocations so far, these lead to the size r
pub record Leads (c : Context) (is : List PlacedInstruction) (s m : ℕ) (r : Result (ℕ × ℕ) (ℕ × Reason)) : Type 0 where
  pub ring : ℕ
  pub size : plus s m (instructions c ring is) ≡ r

-- at a place
pub record Sizing (c : Context) (b : List ℕ) (end first place s m : ℕ) : Type 0 where
  pub row : Row c.frame b end first
  pub left : Row c.frame b end place
  pub leads : (j : ℕ) → Leads c left.instructions s m (size_of (instructions c j row.instructions))
  pub slots : 4 * s + 13 * first ≤ 13 * place
  pub relocs : 4 * m + first ≤ place

pub start : {c : Context} {b : List ℕ} {end first : ℕ} → Row c.frame b end first → Sizing c b end first first 0 0
start {c} w =
    record {
      row = w;
      left = w;
      leads = λ j. record { ring = j; size = plus_zero (instructions c j w.instructions) };
      slots = omega arith;
      relocs = omega arith;
    }

module _ {c : Context} {b : List ℕ} {end first place s m : ℕ} (n : Sizing c b end first place s m) where
  module _ (h : place < end) where
    abbrev here : First b end place n.left.instructions
    here = chain_first n.left.chain h

    cells : RowCelled c.frame (record { place = place; instruction = here.instruction } ∷ here.others)
    cells = subst (RowCelled c.frame) here.are n.left.cells

    -- its payload lies in the unit, and the next place is not past the end
    pub inside : place + 20 ≤ length b
    inside = omega (arith, here.here.whole)

    pub goes_on : (place + 4 ≤ next_at b place) × (next_at b place ≤ end)
    unfolding next_at
    goes_on = (omega arith, chain_within here.chain)

    module _ {r : Result (ℕ × ℕ) (ℕ × Reason)} (e : r ≡ size_by place (size_in (condition_in c (payload_at b place)) (payload_at b place))) where
      taken : (j : ℕ) → Sized (at place (instruction c.frame j (c.condition here.instruction.result) here.instruction)) r
      taken j = instruction_sized c b place here.instruction here.here (first_celled cells) j e

      pub few : {x y : ℕ} → r ≡ Ok (x, y) → (x ≤ 13) × (y ≤ 1)
      few {x} {y} q = (taken 0).few x y q

      pub on_instruction : {x y : ℕ} → r ≡ Ok (x, y) → Sizing c b end first (next_at b place) (s + x) (m + y)
      unfolding instructions
      on_instruction {x} {y} q =
          let o = few q in
          let g = goes_on.0 in
          record {
            row = n.row;
            left = record { instructions = here.others; chain = here.chain; cells = others_celled cells };
            leads = λ j.
                let l = n.leads j in
                record {
                  ring = scratch_after l.ring here.instruction;
                  size = sym (plus_laid s m _ _ x y (sym q ∙ (taken l.ring).size)) ∙ ap (λ (is : List PlacedInstruction). plus s m (instructions c l.ring is)) (sym here.are) ∙ l.size;
                };
            slots = omega (arith, n.slots);
            relocs = omega (arith, n.relocs);
          }

      pub on_refusal : {at : ℕ} {reason : Reason} → r ≡ Err (at, reason) → RowSized c b end first (Err (at, reason))
      unfolding instructions
      on_refusal {at} {reason} q =
          record {
            row = n.row;
            size = λ j.
                let l = n.leads j in
                sym (plus_refused s m _ _ at reason (sym q ∙ (taken l.ring).size)) ∙ ap (λ (is : List PlacedInstruction). plus s m (instructions c l.ring is)) (sym here.are) ∙ l.size;
            few = λ x y z. let z : ◌≡◌ {A = ℕ} 0 1 = cc in absurd (omega arith);
          }

  pub at_end : end ≤ place → RowSized c b end first (Ok (s, m))
  unfolding instructions
  at_end h =
      let w = chain_within n.left.chain in
      record {
        row = n.row;
        size = λ j.
            let l = n.leads j in
            plus_nothing s m ∙ ap (λ (is : List PlacedInstruction). plus s m (instructions c l.ring is)) (sym (chain_empty n.left.chain h)) ∙ l.size;
        few = λ x y e.
            let same = ok_parts e in
            (omega (arith, n.slots, same.0), omega (arith, n.relocs, same.1));
      }

-- ---- a block

pub some_row : {f : Frame} {b : List ℕ} {first end : ℕ} → SomeBlock f b first end → Row f b end first
some_row w = record { instructions = w.block.instructions; chain = w.stands.chain; cells = w.stands.cells.row }

pub some_inside : {f : Frame} {b : List ℕ} {first end : ℕ} → SomeBlock f b first end → end + 4 ≤ length b
some_inside w = omega (arith, w.stands.ends.whole)

module _ {c : Context} {b : List ℕ} {first end : ℕ} (k : BasicBlock) (w : BlockIn c.frame b first end k) where
  pub silent_sized : BlockSized c false first end k (Ok (0, 0))
  unfolding block_by size_of slots_of maps_of
  silent_sized =
      let l = chain_within w.chain in
      record { size = λ j. refl; few = λ n m e. let same = ok_parts e in (omega (arith, same.0), omega (arith, same.1)) }

  module _ {r : Result (ℕ × ℕ) (ℕ × Reason)} (z : RowSized c b end first r) where
    row_size : (j : ℕ) → r ≡ size_of (instructions c j k.instructions)
    row_size j = z.size j ∙ ap (λ (is : List PlacedInstruction). size_of (instructions c j is)) (chain_same z.row.chain w.chain)

    pub row_refused : {place : ℕ} {reason : Reason} → r ≡ Err (place, reason) → BlockSized c true first end k (Err (place, reason))
    unfolding block_by block
    row_refused {place} {reason} q =
        record {
          size = λ j. sym (plus_refused 0 0 _ _ place reason (sym q ∙ row_size j)) ∙ plus_zero _;
          few = λ n m e. let z : ◌≡◌ {A = ℕ} 0 1 = cc in absurd (omega arith);
        }

    module _ {u : Result (ℕ × ℕ) (ℕ × Reason)} (y₁ : Sized (at end (terminator every_cell (terminator_in (payload_at b end) 0))) u) where
      last : Sized (at k.ending (terminator c.frame k.terminator)) u
      last = subst (λ (place : ℕ). Sized (at place (terminator c.frame k.terminator)) u) (sym w.ending) (end_sized c.frame b end k.terminator w.ends w.cells.end y₁)

      both_size : {s m : ℕ} → r ≡ Ok (s, m) → (j : ℕ) → plus s m (at k.ending (terminator c.frame k.terminator)) ≡ size_of (block c j k)
      unfolding block
      both_size {s} {m} q j =
          let e = sym (plus_laid 0 0 _ (at k.ending (terminator c.frame k.terminator)) s m (sym q ∙ row_size j)) ∙ plus_zero _ in
          rw (zero-add s, zero-add m) at e

      pub end_refused : {s m place : ℕ} {reason : Reason} → r ≡ Ok (s, m) → u ≡ Err (place, reason) → BlockSized c true first end k (Err (place, reason))
      unfolding block_by
      end_refused {s} {m} {place} {reason} q p =
          record {
            size = λ j. refused_last s m _ place reason (sym p ∙ last.size) ∙ both_size q j;
            few = λ n m e. let z : ◌≡◌ {A = ℕ} 0 1 = cc in absurd (omega arith);
          }

      pub block_sized : {s m x y : ℕ} → r ≡ Ok (s, m) → u ≡ Ok (x, y) → BlockSized c true first end k (Ok (s + x, m + y))
      unfolding block_by
      block_sized {s} {m} {x} {y} q p =
          let before = z.few s m q in
          let more = y₁.few x y p in
          record {
            size = λ j. laid_last s m _ x y (sym p ∙ last.size) ∙ both_size q j;
            few = λ n o e.
                let same = ok_parts e in
                (omega (arith, same.0, before.0, before.1, more.0, more.1), omega (arith, same.1, before.0, before.1, more.0, more.1));
          }
