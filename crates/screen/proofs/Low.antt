-- Where the shape is fine no instruction reads a register above 10, and the second slot of a wide load reads none.
use mathlib.Core.Path.{◌≡◌, refl, sym}
use mathlib.Core.Bool.{Bool, true, false, true≢false}
use mathlib.Core.Logic.{⊎_elim}
use mathlib.Core.List.{List}
use Prim.Native.Nat.{ℕ, zero, suc, ◌≤◌, ◌<◌}
use native.Mathlib.Omega.{arith}
use lib.Dec.{eqb, leb, ltb}
use lib.IntN.{ℤ}
use borrow.Author.Tests.{leb-true, eqb-true}
use Rattle.wire.specs.Pick.{pick, either, is_zero}
use Rattle.insn.specs.declared.Insn.{Insn}
use Rattle.insn.specs.declared.form.Form.{Form}
use Rattle.insn.specs.declared.form.Form.TheVariants.{NoForm, WideLoad, Ldx, Stx, AluImm, AluReg, MovImm, MovReg, Ja, JeqImm, JneImm, Call, Exit}
use Rattle.insn.specs.Rfc.{size_field}
use Rattle.insn.specs.Form.{form_of}
use Rattle.insn.specs.Helper.{helper_of, arguments}
use Rattle.insn.proofs.Helpers.{at_most_four}
use Rattle.shape.specs.Code.{slots, at, form_at, wide, start}
use Rattle.shape.specs.Fields.{uses}
use Rattle.shape.specs.Shape.{all_zero, known, shape_at}
use Rattle.shape.specs.declared.Shape.TheVariants as S
use Rattle.shape.proofs.Lengths.{length_parts, length_slots}
use Rattle.shape.specs.Fine.{EachFine}
use Rattle.shape.proofs.Tests.{both_true, either_true}
use Rattle.shape.proofs.Judged.{judged_fine}
use Rattle.shape.proofs.Rules.{fine_rules, dst_most, src_most, wide_form}
use Rattle.paths.specs.Registers.{argument, reads}
use Rattle.screen.specs.Parts.{Apt}
use Rattle.screen.specs.Verdict.{fine, before_paths}
use Rattle.screen.proofs.Before.{parts}
use Rattle.std.specs.Prelude.{Ok}

-- ---- the registers that an instruction reads

argument_low : (z : ℤ) (r : ℕ) → argument (arguments (helper_of z)) r ≡ true → r < 11
unfolding argument
argument_low z r e =
    let n = arguments (helper_of z) in
    omega (arith, leb-true r n (both_true (leb 1 r) (leb r n) e).1, at_most_four z)

either_low : (r a b : ℕ) → a ≤ 10 → b ≤ 10 → either (eqb r a) (eqb r b) ≡ true → r < 11
either_low r a b la lb e = ⊎_elim (λ p. omega (arith, eqb-true r a p)) (λ p. omega (arith, eqb-true r b p)) (either_true (eqb r a) (eqb r b) e)

reads_low : (f : Form) (i : Insn) → ((uses f).dst ≡ true → i.dst ≤ 10) → ((uses f).src ≡ true → i.src ≤ 10) → (r : ℕ) → reads f i r ≡ true → r < 11
unfolding reads uses
reads_low NoForm i d s r e = absurd (true≢false (sym e))
reads_low WideLoad i d s r e = absurd (true≢false (sym e))
reads_low (Ldx w) i d s r e = omega (arith, eqb-true r i.src e, s refl)
reads_low (Stx w) i d s r e = either_low r i.dst i.src (d refl) (s refl) e
reads_low (AluImm o) i d s r e = omega (arith, eqb-true r i.dst e, d refl)
reads_low (AluReg o) i d s r e = either_low r i.dst i.src (d refl) (s refl) e
reads_low MovImm i d s r e = absurd (true≢false (sym e))
reads_low MovReg i d s r e = omega (arith, eqb-true r i.src e, s refl)
reads_low Ja i d s r e = absurd (true≢false (sym e))
reads_low JeqImm i d s r e = omega (arith, eqb-true r i.dst e, d refl)
reads_low JneImm i d s r e = omega (arith, eqb-true r i.dst e, d refl)
reads_low Call i d s r e = argument_low i.imm r e
reads_low Exit i d s r e = omega (arith, eqb-true r 0 e)

-- ---- the second slot of a wide load

zero_form : (b : List ℕ) (s : ℕ) → all_zero (at b s) ≡ true → form_at b s ≡ NoForm
unfolding all_zero form_at form_of size_field
zero_form b s e = rw (eqb-true (at b s).code 0 (both_true _ _ e).0)

second_form : (b : List ℕ) (s : ℕ) → wide b s ≡ true → shape_at b s ≡ Ok tt → form_at b (suc s) ≡ NoForm
unfolding uses known
second_form b s w e =
    let k = rw ((wide_form b s).0 w) at (fine_rules b s e).form in
    zero_form b (suc s) (both_true (is_zero (at b s).imm) _ (both_true (eqb (at b s).src 1) _ (both_true (ltb (suc s) (slots b)) _ k).1).1).1

second_of : (b : List ℕ) (s : ℕ) → start b (suc s) ≡ false → (start b s ≡ true) × (wide b s ≡ true)
unfolding start
second_of b s e = go (start b s) (wide b s) e
  where
    go : (x y : Bool) → pick x (pick y false true) true ≡ false → (x ≡ true) × (y ≡ true)
    go true true e = (refl, refl)
    go true false e = absurd (true≢false e)
    go false y e = absurd (true≢false e)

none_read : (f : Form) (i : Insn) (r : ℕ) → f ≡ NoForm → reads f i r ≡ true → ⊥
unfolding reads
none_read f i r q e = true≢false (sym (rw q at e))

-- ---- the whole code

read_low : (b : List ℕ) → EachFine b → (s r : ℕ) → s < slots b → reads (form_at b s) (at b s) r ≡ true → r < 11
unfolding start
read_low b F s r h e = go s (start b s) refl h e
  where
    go : (s : ℕ) (x : Bool) → start b s ≡ x → s < slots b → reads (form_at b s) (at b s) r ≡ true → r < 11
    go s true q h e = let R = fine_rules b s (F s h q) in reads_low (form_at b s) (at b s) (dst_most b s R) (src_most b s R) r e
    go zero false q h e = absurd (true≢false q)
    go (suc s) false q h e =
        let P = second_of b s q in
        absurd (none_read (form_at b (suc s)) (at b (suc s)) r (second_form b s P.1 (F s (omega arith) P.0)) e)

pub apt : (b l : List ℕ) (entries : ℕ) → before_paths b l entries ≡ fine → Apt b entries
unfolding slots
apt b l entries e =
    let p = parts b l entries e in
    let F = judged_fine b l p.1 in
    let n = length_parts b F.length in
    record { some = omega (arith, n.0, n.1); most = length_slots b F.length; room = p.0; low = read_low b F.each }
