-- Masks of registers, bit by bit, and what an instruction does to each bit.
use mathlib.Core.Path.{◌≡◌, refl, sym, ap, ◌∙◌}
use mathlib.Core.Bool.{Bool, true, false}
use mathlib.Core.List.{List}
use Prim.Native.Nat.{ℕ, zero, suc, ◌+◌, ◌*◌, ◌/◌, ◌%◌, ◌^◌, ◌≤◌, ◌<◌, min, max}
use native.Mathlib.Nat.{pow-suc, le_of_suc-le-suc}
use native.Mathlib.Omega.{arith}
use lib.Bits.{bit_and, bit_or, or_lt}
use lib.Dec.{eqb}
use borrow.Author.Tests.{ne_eqb}
use Rattle.wire.specs.Pick.{pick, either}
use Rattle.wire.specs.Bit.{bit}
use Rattle.wire.proofs.Bits.{bit_zero, bit_suc, bit_ext, bit_or_lem, bit_and_lem, bit_of_zero}
use Rattle.insn.specs.declared.Insn.{Insn}
use Rattle.insn.specs.declared.form.Form.{Form}
use Rattle.insn.specs.declared.form.Form.TheVariants.{NoForm, WideLoad, Ldx, Stx, AluImm, AluReg, MovImm, MovReg, Ja, JeqImm, JneImm, Call, Exit}
use Rattle.shape.specs.Code.{at, form_at}
use Rattle.paths.specs.Registers.{Regs, at_start, with, called, after}
use Rattle.paths.specs.Mask.{mask, only, flow_of, node_of, node_at}
use Rattle.paths.specs.Work.{through}
use Rattle.paths.specs.declared.node.Node.{Node}
use Rattle.paths.specs.declared.node.Flow.{Flow}
use Rattle.paths.specs.declared.node.Flow.TheVariants.{Stops, Keeps, Writes, WritesWide, Calls, Jumps, Branches}

-- ---- a test as a number

abbrev pub num : Bool → ℕ
num true = 1
num false = 0

pub num_le : (p : Bool) → num p ≤ 1
num_le true = omega arith
num_le false = omega arith

pub num_true : (p : Bool) → num p ≡ 1 → p ≡ true
num_true true e = refl
num_true false e = absurd (omega arith)

pub num_false : (p : Bool) → num p ≡ 0 → p ≡ false
num_false true e = absurd (omega arith)
num_false false e = refl

num_either : (p q : Bool) → num (either p q) ≡ max (num p) (num q)
num_either true q = omega (arith, num_le q)
num_either false q = omega (arith, num_le q)

-- ---- the bits of a mask

-- twice a number, and one more where p is true
grown : (p : Bool) (x k : ℕ) → x < 2 ^ k → pick p 1 0 + 2 * x < 2 ^ suc k
grown true x k h = omega (arith, pow-suc 2 k)
grown false x k h = omega (arith, pow-suc 2 k)

lowest : (p : Bool) (x : ℕ) → (pick p 1 0 + 2 * x) % 2 ≡ num p
lowest true x = omega arith
lowest false x = omega arith

rest : (p : Bool) (x : ℕ) → (pick p 1 0 + 2 * x) / 2 ≡ x
rest true x = omega arith
rest false x = omega arith

pub mask_lt : (m : Regs) (k : ℕ) → mask m k < 2 ^ k
unfolding mask
mask_lt m zero = omega arith
mask_lt m (suc k) = grown (m 0) (mask (λ r. m (suc r)) k) k (mask_lt (λ r. m (suc r)) k)

pub mask_bit : (m : Regs) (k r : ℕ) → r < k → bit (mask m k) r ≡ num (m r)
unfolding mask
mask_bit m zero r h = absurd (omega arith)
mask_bit m (suc k) zero h = bit_zero (mask m (suc k)) ∙ lowest (m 0) (mask (λ r. m (suc r)) k)
mask_bit m (suc k) (suc r) h =
    bit_suc (mask m (suc k)) r ∙ ap (λ (x : ℕ). bit x r) (rest (m 0) (mask (λ r. m (suc r)) k)) ∙ mask_bit (λ r. m (suc r)) k r (le_of_suc-le-suc h)

-- a number with the same bits is the mask
mask_ext : (m : Regs) (k x : ℕ) → x < 2 ^ k → ((r : ℕ) → r < k → bit x r ≡ num (m r)) → x ≡ mask m k
mask_ext m k x l h = bit_ext k x (mask m k) l (mask_lt m k) (λ r lr. h r lr ∙ sym (mask_bit m k r lr))

pub mask_or : (p q : Regs) (k : ℕ) → bit_or (mask p k) (mask q k) ≡ mask (λ r. either (p r) (q r)) k
mask_or p q k =
    mask_ext (λ r. either (p r) (q r)) k (bit_or (mask p k) (mask q k)) (or_lt k (mask p k) (mask q k) (mask_lt p k) (mask_lt q k))
    (λ r lr. omega (arith, bit_or_lem (mask p k) (mask q k) r, mask_bit p k r lr, mask_bit q k r lr, num_either (p r) (q r)))

-- what holds of each number below 12, from each of the twelve
each12 : (P : ℕ → Type 0) → P 0 × P 1 × P 2 × P 3 × P 4 × P 5 × P 6 × P 7 × P 8 × P 9 × P 10 × P 11 → (r : ℕ) → r < 12 → P r
each12 P h zero l = h.0
each12 P h (suc zero) l = h.1
each12 P h (suc (suc zero)) l = h.2
each12 P h (suc (suc (suc zero))) l = h.3
each12 P h (suc (suc (suc (suc zero)))) l = h.4
each12 P h (suc (suc (suc (suc (suc zero))))) l = h.5
each12 P h (suc (suc (suc (suc (suc (suc zero)))))) l = h.6
each12 P h (suc (suc (suc (suc (suc (suc (suc zero))))))) l = h.7
each12 P h (suc (suc (suc (suc (suc (suc (suc (suc zero)))))))) l = h.8
each12 P h (suc (suc (suc (suc (suc (suc (suc (suc (suc zero))))))))) l = h.9
each12 P h (suc (suc (suc (suc (suc (suc (suc (suc (suc (suc zero)))))))))) l = h.10
each12 P h (suc (suc (suc (suc (suc (suc (suc (suc (suc (suc (suc zero))))))))))) l = h.11
each12 P h (suc (suc (suc (suc (suc (suc (suc (suc (suc (suc (suc (suc r)))))))))))) l = absurd (omega arith)

pub full : (r : ℕ) → r < 12 → bit 4095 r ≡ 1
unfolding bit
full = each12 (λ r. bit 4095 r ≡ 1) (refl, refl, refl, refl, refl, refl, refl, refl, refl, refl, refl, refl)

-- one register's mask
pub only_here : (x : ℕ) → x < 11 → 2 ^ x ≡ mask (only x) 11
unfolding mask only
only_here x h =
    each12 (λ x. x < 11 → 2 ^ x ≡ mask (only x) 11)
    (λ _. refl, λ _. refl, λ _. refl, λ _. refl, λ _. refl, λ _. refl, λ _. refl, λ _. refl, λ _. refl, λ _. refl, λ _. refl, λ l. absurd (omega arith)) x (omega arith) h

pub only_far : (x : ℕ) → 11 ≤ x → 0 ≡ mask (only x) 11
unfolding only
only_far x h = mask_ext (only x) 11 0 (omega arith) (λ r lr. bit_of_zero r ∙ ap num (sym (ne_eqb r x (λ e. omega arith))))

-- ---- what an instruction does to a bit

pub through_bit : (x : Node) (m r : ℕ) → bit (through x m) r ≡ max (min (bit m r) (bit x.keep r)) (bit x.made r)
unfolding through
through_bit x m r = bit_or_lem (bit_and m x.keep) x.made r ∙ ap (λ (a : ℕ). max a (bit x.made r)) (bit_and_lem m x.keep r)

kept : (p : Bool) (r : ℕ) → r < 11 → num p ≡ max (min (num p) (bit 4095 r)) (bit 0 r)
kept p r l = omega (arith, num_le p, full r (omega arith), bit_of_zero r)

written : (d : ℕ) (m : Regs) (r : ℕ) → r < 11 → num (with d m r) ≡ max (min (num (m r)) (bit 4095 r)) (bit (mask (only d) 11) r)
unfolding with only
written d m r l = omega (arith, num_either (eqb r d) (m r), num_le (m r), num_le (eqb r d), full r (omega arith), mask_bit (only d) 11 r l)

call_bit : (m : Regs) (r : ℕ) → r < 11 → num (called m r) ≡ max (min (num (m r)) (bit 4032 r)) (bit 1 r)
unfolding called bit
call_bit m r l =
    each12 (λ r. r < 11 → num (called m r) ≡ max (min (num (m r)) (bit 4032 r)) (bit 1 r))
    (λ _. omega (arith, num_le (m 0)), λ _. omega (arith, num_le (m 1)), λ _. omega (arith, num_le (m 2)), λ _. omega (arith, num_le (m 3)), λ _. omega (arith, num_le (m 4)), λ _. omega (arith, num_le (m 5)), λ _. omega (arith, num_le (m 6)), λ _. omega (arith, num_le (m 7)), λ _. omega (arith, num_le (m 8)), λ _. omega (arith, num_le (m 9)), λ _. omega (arith, num_le (m 10)), λ h. absurd (omega arith)) r (omega arith) l

after_of : (s : ℕ) (i : Insn) (f : Form) (m : Regs) (r : ℕ) → r < 11
    → num (after f i m r) ≡ max (min (num (m r)) (bit (node_of s i (flow_of f)).keep r)) (bit (node_of s i (flow_of f)).made r)
unfolding node_of flow_of after
after_of s i NoForm m r l = kept (m r) r l
after_of s i WideLoad m r l = written i.dst m r l
after_of s i (Ldx z) m r l = written i.dst m r l
after_of s i (Stx z) m r l = kept (m r) r l
after_of s i (AluImm o) m r l = written i.dst m r l
after_of s i (AluReg o) m r l = written i.dst m r l
after_of s i MovImm m r l = written i.dst m r l
after_of s i MovReg m r l = written i.dst m r l
after_of s i Ja m r l = kept (m r) r l
after_of s i JeqImm m r l = kept (m r) r l
after_of s i JneImm m r l = kept (m r) r l
after_of s i Call m r l = call_bit m r l
after_of s i Exit m r l = kept (m r) r l

-- the registers after a slot, as the program's masks go
pub after_bit : (b : List ℕ) (v : ℕ) (m : Regs) (r : ℕ) → r < 11
    → num (after (form_at b v) (at b v) m r) ≡ max (min (num (m r)) (bit (node_at b v).keep r)) (bit (node_at b v).made r)
unfolding node_at
after_bit b v m r l = after_of v (at b v) (form_at b v) m r l

pub bit_11 : (n : ℕ) → n < 2048 → bit n 11 ≡ 0
unfolding bit
bit_11 n h = omega arith

-- no instruction makes bit 11
made_lt : (s : ℕ) (i : Insn) (e : Flow) → (node_of s i e).made < 2048
unfolding node_of
made_lt s i Stops = omega arith
made_lt s i Keeps = omega arith
made_lt s i Writes = mask_lt (only i.dst) 11
made_lt s i WritesWide = mask_lt (only i.dst) 11
made_lt s i Calls = omega arith
made_lt s i Jumps = omega arith
made_lt s i Branches = omega arith

pub unmade : (b : List ℕ) (v : ℕ) → bit (node_at b v).made 11 ≡ 0
unfolding node_at
unmade b v = bit_11 (node_at b v).made (made_lt v (at b v) (flow_of (form_at b v)))

pub start_bit : (r : ℕ) → r < 11 → bit 1026 r ≡ num (at_start r)
unfolding mask at_start
start_bit r l = mask_bit at_start 11 r l
