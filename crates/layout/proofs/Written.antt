-- The code and the relocations of operations one after the other, and how long they are.
use mathlib.Core.Path.{◌≡◌, refl, sym, ap}
use mathlib.Core.List.{List, [], ◌∷◌, ◌++◌, append_assoc}
use Prim.Native.Nat.{ℕ, suc, ◌+◌, ◌*◌}
use native.Mathlib.Nat.{add-zero}
use native.Mathlib.Omega.{arith}
use lib.ListN.{length, length-append}
use Rattle.insn.specs.Layout.{bytes_of}
use Rattle.insn.specs.declared.Insn.{Insn}
use Rattle.insn.proofs.Pieces.{bytes_length}
use Rattle.lower.specs.Op.{Op, plain, map, ja, jne, slots_of}
use Rattle.layout.specs.Jumps.{Start}
use Rattle.layout.specs.Code.{insns, code_bytes, relocations}
use Rattle.layout.specs.Inner.{maps_of}

module _ (xs : List Start) where
  pub insns_append : (s : ℕ) (a b : List Op) → insns xs s (a ++ b) ≡ insns xs s a ++ insns xs (s + slots_of a) b
  unfolding insns slots_of
  insns_append s [] b = ap (λ (x : ℕ). insns xs x b) (sym (add-zero s))
  insns_append s (plain i ∷ a) b = let e : suc s + slots_of a ≡ s + suc (slots_of a) = omega arith in rw (insns_append (suc s) a b, e)
  insns_append s (map m ∷ a) b = let e : s + 2 + slots_of a ≡ s + suc (suc (slots_of a)) = omega arith in rw (insns_append (s + 2) a b, e)
  insns_append s (ja to ∷ a) b = let e : suc s + slots_of a ≡ s + suc (slots_of a) = omega arith in rw (insns_append (suc s) a b, e)
  insns_append s (jne to ∷ a) b = let e : suc s + slots_of a ≡ s + suc (slots_of a) = omega arith in rw (insns_append (suc s) a b, e)

  pub insns_count : (s : ℕ) (l : List Op) → length (insns xs s l) ≡ slots_of l
  unfolding insns slots_of
  insns_count s [] = refl
  insns_count s (plain i ∷ l) = ap suc (insns_count (suc s) l)
  insns_count s (map m ∷ l) = ap (λ (n : ℕ). suc (suc n)) (insns_count (s + 2) l)
  insns_count s (ja to ∷ l) = ap suc (insns_count (suc s) l)
  insns_count s (jne to ∷ l) = ap suc (insns_count (suc s) l)

pub code_append : (a b : List Insn) → code_bytes (a ++ b) ≡ code_bytes a ++ code_bytes b
unfolding code_bytes
code_append [] b = refl
code_append (i ∷ a) b = rw (code_append a b, append_assoc)

pub code_length : (l : List Insn) → length (code_bytes l) ≡ 8 * length l
unfolding code_bytes
code_length [] = refl
code_length (i ∷ l) = omega (arith, length-append (bytes_of i) (code_bytes l), bytes_length i, code_length l)

pub relocations_append : (s : ℕ) (a b : List Op) → relocations s (a ++ b) ≡ relocations s a ++ relocations (s + slots_of a) b
unfolding relocations slots_of
relocations_append s [] b = ap (λ (x : ℕ). relocations x b) (sym (add-zero s))
relocations_append s (plain i ∷ a) b = let e : suc s + slots_of a ≡ s + suc (slots_of a) = omega arith in rw (relocations_append (suc s) a b, e)
relocations_append s (map m ∷ a) b = let e : s + 2 + slots_of a ≡ s + suc (suc (slots_of a)) = omega arith in rw (relocations_append (s + 2) a b, e)
relocations_append s (ja to ∷ a) b = let e : suc s + slots_of a ≡ s + suc (slots_of a) = omega arith in rw (relocations_append (suc s) a b, e)
relocations_append s (jne to ∷ a) b = let e : suc s + slots_of a ≡ s + suc (slots_of a) = omega arith in rw (relocations_append (suc s) a b, e)

pub relocations_count : (s : ℕ) (l : List Op) → length (relocations s l) ≡ 2 * maps_of l
unfolding relocations maps_of
relocations_count s [] = refl
relocations_count s (plain i ∷ l) = relocations_count (suc s) l
relocations_count s (map m ∷ l) = omega (arith, relocations_count (s + 2) l)
relocations_count s (ja to ∷ l) = relocations_count (suc s) l
relocations_count s (jne to ∷ l) = relocations_count (suc s) l
