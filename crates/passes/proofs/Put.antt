-- Code and relocations written piece by piece.
use mathlib.Core.Path.{◌≡◌, refl, sym, ap, ◌∙◌, subst}
use mathlib.Core.Bool.{true}
use mathlib.Core.List.{List, [], ◌∷◌, ◌++◌}
use Prim.Native.Nat.{ℕ, suc, ◌+◌, ◌*◌, ◌^◌, ◌≤◌}
use native.Mathlib.Omega.{arith}
use native.Mathlib.Numerals.{add-one, add-two}
use borrow.Author.Tests.{ltb-true}
use lib.IntN.{ℤ}
use lib.Signed.{mag}
use lib.ListN.{length}
use lib.Seq.{sets, length-sets}
use mir.Syntax.{w16, w64}
use mir.Val.{SFits}
use Rattle.wire.specs.Number.{bytes_before}
use Rattle.wire.proofs.Store.{store_in}
use Rattle.wire.specs.Range.{fits16}
use Rattle.insn.specs.Form.{opcode_of}
use Rattle.insn.specs.Layout.{bytes_of}
use Rattle.insn.specs.declared.Insn.{Insn}
use Rattle.insn.specs.declared.form.Form.TheVariants.{Ja, JneImm}
use Rattle.insn.proofs.Pieces.{bytes_length}
use Rattle.opcode.proofs.Opcodes.{both_true}
use Rattle.lower.specs.Op.{Op, plain, ja, jne, slots_of, Lowered, becomes, refused}
use Rattle.lower.specs.Step.{map_ops}
use Rattle.lower.specs.Held.{map_in, held}
use Rattle.lower.specs.Put.{wide_insn, zero_insn, insns_in, put_at, put_lowered}
use Rattle.lower.specs.declared.Emitted.{Emitted}
use Rattle.layout.specs.Layout.{at, ops}
use Rattle.layout.specs.Jumps.{Start, distance}
use Rattle.layout.specs.Code.{insns, code_bytes, relocations}
use Rattle.layout.specs.Inner.{plain_ops, maps_of}
use Rattle.layout.proofs.Tidy.{Tidy}
use Rattle.layout.proofs.Written.{code_append, code_length}
use Rattle.passes.specs.Tables.{relocs_by}
use Rattle.passes.specs.Put.{insns_to, jump_of, reaches, relocations_by, RoomAt, Relocates, Puts}
use Rattle.passes.proofs.Lists.{sets_append}
use Rattle.passes.proofs.Plain.{plain_slots, plain_maps, plain_map}
use Rattle.lower.specs.declared.Reason.{Reason}
use Rattle.std.specs.Prelude.{Err, MatchResult, None, Ok, Some}
use Rattle.std.proofs.lemmas.Result.{MatchResult-at_ok, MatchResult-at_err}

-- ---- instructions

-- one run of instructions after another
pub joined : (b : List ℕ) (s s' : ℕ) (is js : List Insn) {c d : List ℕ} → s' ≡ s + length is → c ≡ sets b (8 * s) (code_bytes is) → d ≡ sets c (8 * s') (code_bytes js) → d ≡ sets b (8 * s) (code_bytes (is ++ js))
joined b s s' is js e f g =
    let at : 8 * s + length (code_bytes is) ≡ 8 * s' = omega (arith, code_length is) in
    g ∙ ap (λ (l : List ℕ). sets l (8 * s') (code_bytes js)) f
    ∙ ap (λ (n : ℕ). sets (sets b (8 * s) (code_bytes is)) n (code_bytes js)) (sym at)
    ∙ sym (sets_append b (8 * s) (code_bytes is) (code_bytes js))
    ∙ ap (sets b (8 * s)) (sym (code_append is js))

-- instructions put one by one, where there is room for all
put_at_lem : (b : List ℕ) (at : ℕ) (is : List Insn) → at + 8 * length is ≤ length b → put_at b at is ≡ sets b at (code_bytes is)
unfolding put_at code_bytes
put_at_lem b at [] h = refl
put_at_lem b at (i ∷ is) h =
    let n = bytes_length i in
    let m = length-sets b at (bytes_of i) in
    ap (λ (l : List ℕ). put_at l (at + 8) is) (store_in b at (bytes_of i) (omega arith))
    ∙ put_at_lem (sets b at (bytes_of i)) (at + 8) is (omega arith)
    ∙ ap (λ (k : ℕ). sets (sets b at (bytes_of i)) (at + k) (code_bytes is)) (sym n)
    ∙ sym (sets_append b at (bytes_of i) (code_bytes is))

-- plain instructions are themselves, wherever jumps go
plain_insns : (xs : List Start) (s : ℕ) (is : List Insn) → insns xs s (plain_ops is) ≡ is
unfolding insns plain_ops
plain_insns xs s [] = refl
plain_insns xs s (i ∷ is) = ap (λ (l : List Insn). i ∷ l) (plain_insns xs (suc s) is)

pub plain_relocations : (s : ℕ) (is : List Insn) → relocations s (plain_ops is) ≡ []
unfolding relocations plain_ops
plain_relocations s [] = refl
plain_relocations s (i ∷ is) = plain_relocations (suc s) is

plain_in : (is : List Insn) → insns_in (plain_ops is) ≡ is
unfolding insns_in plain_ops
plain_in [] = refl
plain_in (i ∷ is) = ap (λ (l : List Insn). i ∷ l) (plain_in is)

-- ---- what an instruction becomes: a map's load or none, and plain instructions

-- what its lowering answers and puts tells its operations
pub record Told (xs : List Start) (s : ℕ) (l : List Op) (e : Emitted) : Type 0 where
  pub slots : e.slots ≡ slots_of l
  pub maps : relocs_by e.map ≡ maps_of l
  pub relocs : relocations_by s e.map ≡ relocations s l
  pub code : insns_in l ≡ insns xs s l
  pub count : length (insns_in l) ≡ slots_of l

module _ (xs : List Start) (s place : ℕ) where
  told_tidy : {x : Lowered} → Tidy 11 x → MatchResult (held x) (λ e. Told xs s (ops (at place x)) e) (λ r. x ≡ refused r)
  unfolding held map_in at ops map_ops slots_of maps_of relocs_by relocations_by relocations insns_in insns
  told_tidy (Tidy.some None is h) = record {
    slots = refl;
    maps = rw (plain_map is) (sym (plain_maps is));
    relocs = rw (plain_map is) (sym (plain_relocations s is));
    code = plain_in is ∙ sym (plain_insns xs s is);
    count = ap length (plain_in is) ∙ sym (plain_slots is);
  }
  told_tidy (Tidy.some (Some m) is h) = record {
    slots = refl;
    maps = ap suc (sym (plain_maps is));
    relocs = ap (λ (l : List ℕ). bytes_before s ∷ m ∷ l) (sym (plain_relocations (s + 2) is));
    code = ap (λ (l : List Insn). wide_insn ∷ zero_insn ∷ l) (plain_in is ∙ sym (plain_insns xs (s + 2) is));
    count = ap (λ (n : ℕ). suc (suc n)) (ap length (plain_in is) ∙ sym (plain_slots is));
  }
  told_tidy (Tidy.none r) = refl

  put_lowered_lem : (x : Lowered) (cs : List ℕ) → put_lowered cs (8 * s) x ≡ put_at cs (8 * s) (insns_in (ops (at place x)))
  unfolding put_lowered at ops insns_in put_at
  put_lowered_lem (becomes l) cs = refl
  put_lowered_lem (refused r) cs = refl

  module _ {x : Lowered} {r : Reason} (tidy : Tidy 11 x) (is : Err r ≡ held x) where
    -- a refused one puts nothing
    pub puts_nothing : {t : ℕ} {cs rs cs' : List ℕ} → cs' ≡ put_lowered cs (8 * s) x → Puts (insns xs) (ops (at place x)) s t cs rs s t cs' rs
    unfolding put_lowered at ops slots_of maps_of insns relocations code_bytes
    puts_nothing f =
        let e = MatchResult-at_err (λ y. Told xs s (ops (at place x)) y) (λ q. x ≡ refused q) r (sym is) (told_tidy tidy) in
        rw e (record { slot = omega arith; reloc = omega arith; code = rw e at f; relocs = refl })

  module _ {x : Lowered} {e : Emitted} (tidy : Tidy 11 x) (is : Ok e ≡ held x) where
    told : Told xs s (ops (at place x)) e
    told = MatchResult-at_ok (λ y. Told xs s (ops (at place x)) y) (λ q. x ≡ refused q) e (sym is) (told_tidy tidy)

    pub told_room : {t n m : ℕ} → RoomAt (ops (at place x)) s t n m → (s + e.slots ≤ 851969) × (t + 2 * relocs_by e.map ≤ m)
    told_room r = (omega (arith, r.few, told.slots), omega (arith, r.relocs, told.maps))

    pub puts_told : {t s' t' m : ℕ} {cs rs cs' rs' : List ℕ} → RoomAt (ops (at place x)) s t (length cs) m → cs' ≡ put_lowered cs (8 * s) x → Relocates e.map e.slots s t rs s' t' rs' → Puts (insns xs) (ops (at place x)) s t cs rs s' t' cs' rs'
    puts_told {t} {cs = cs} {rs} r f p = record {
      slot = p.slot ∙ ap (λ (n : ℕ). s + n) told.slots;
      reloc = p.reloc ∙ ap (λ (n : ℕ). t + 2 * n) told.maps;
      code =
          f ∙ put_lowered_lem x cs
          ∙ put_at_lem cs (8 * s) (insns_in (ops (at place x))) (omega (arith, r.code, told.count))
          ∙ ap (λ (l : List Insn). sets cs (8 * s) (code_bytes l)) told.code;
      relocs = p.relocs ∙ ap (sets rs t) told.relocs;
    }

-- ---- jumps

-- a distance in range, as the machine holds it
pub record Narrow (z : ℤ) : Type 0 where
  pub wide : SFits w64 z
  pub fits : SFits w16 z

pub narrow : {z d : ℤ} → z ≡ d → fits16 d ≡ true → Narrow z
unfolding fits16
narrow {z} {d} e h =
    let n = ltb-true (mag d) (2 ^ 15) h in
    subst Narrow (sym e) (record { wide = record { sfits = omega arith }; fits = record { sfits = omega arith } })

module _ (a b s t : ℕ) where
  pub jump_reaches : (id : ℕ) → reaches a b s (ja id ∷ []) ≡ true → fits16 (distance a s) ≡ true
  unfolding reaches
  jump_reaches id h = (both_true (fits16 (distance a s)) true h).0

  pub branch_reaches : (i : Insn) (to other : ℕ) → reaches a b s (plain i ∷ jne to ∷ ja other ∷ []) ≡ true → (fits16 (distance a (s + 1)) ≡ true) × (fits16 (distance b (s + 2)) ≡ true)
  unfolding reaches
  branch_reaches i to other h =
      let x = both_true (fits16 (distance a (suc s))) _ h in
      let y = both_true (fits16 (distance b (suc (suc s)))) _ x.1 in
      (rw (add-one s) x.0, rw (add-two s) y.0)

  module _ (cs rs : List ℕ) where
    pub puts_none : Puts (insns_to a b) [] s t cs rs s t cs rs
    unfolding insns_to slots_of maps_of relocations code_bytes
    puts_none = record { slot = omega arith; reloc = omega arith; code = refl; relocs = refl }

    pub puts_return : (i j : Insn) {c d : List ℕ} → c ≡ sets cs (8 * s) (code_bytes (i ∷ [])) → d ≡ sets c (8 * (s + 1)) (code_bytes (j ∷ [])) → Puts (insns_to a b) (plain i ∷ plain j ∷ []) s t cs rs (s + 2) t d rs
    unfolding insns_to slots_of maps_of relocations
    puts_return i j f g = record { slot = refl; reloc = omega arith; code = joined cs s (s + 1) (i ∷ []) (j ∷ []) refl f g; relocs = refl }

    pub puts_jump : (id : ℕ) {j : Insn} {c : List ℕ} → j ≡ jump_of (opcode_of Ja) (distance a s) → c ≡ sets cs (8 * s) (code_bytes (j ∷ [])) → Puts (insns_to a b) (ja id ∷ []) s t cs rs (s + 1) t c rs
    unfolding insns_to slots_of maps_of relocations
    puts_jump id e f = record { slot = refl; reloc = omega arith; code = f ∙ ap (λ (x : Insn). sets cs (8 * s) (code_bytes (x ∷ []))) e; relocs = refl }

    pub puts_branch : (i : Insn) (to other : ℕ) {j k : Insn} {c d e : List ℕ}
        → j ≡ jump_of (opcode_of JneImm) (distance a (s + 1)) → k ≡ jump_of (opcode_of Ja) (distance b (s + 2))
        → c ≡ sets cs (8 * s) (code_bytes (i ∷ [])) → d ≡ sets c (8 * (s + 1)) (code_bytes (j ∷ [])) → e ≡ sets d (8 * (s + 2)) (code_bytes (k ∷ []))
        → Puts (insns_to a b) (plain i ∷ jne to ∷ ja other ∷ []) s t cs rs (s + 3) t e rs
    unfolding insns_to slots_of maps_of relocations
    puts_branch i to other {j} {k} p q f g h =
        let second = p ∙ ap (λ (n : ℕ). jump_of (opcode_of JneImm) (distance a n)) (add-one s) in
        let third = q ∙ ap (λ (n : ℕ). jump_of (opcode_of Ja) (distance b n)) (add-two s) in
        record {
          slot = refl;
          reloc = omega arith;
          code =
              joined cs s (s + 2) (i ∷ j ∷ []) (k ∷ []) refl (joined cs s (s + 1) (i ∷ []) (j ∷ []) refl f g) h
              ∙ λ x. sets cs (8 * s) (code_bytes (i ∷ second x ∷ third x ∷ []));
          relocs = refl;
        }
