-- A name written byte by byte.
use mathlib.Core.Path.{◌≡◌, sym, ap, ◌∙◌}
use mathlib.Core.List.{List, ◌∷◌}
use Prim.Native.Nat.{ℕ, suc, ◌+◌, ◌-◌, ◌<◌, ◌≤◌}
use native.Mathlib.Omega.{arith}
use lib.ListN.{length, get_or, set, take, drop, length-set}
use lib.Seq.{sets, drop-cons}
use Rattle.wire.specs.Le.{store}
use Rattle.wire.proofs.Store.{store_in}
use Rattle.operand.proofs.Pieces.{nothing}
use Rattle.recordwriter.proofs.Length.{part_length}

-- one byte of a part of s is written, the rest are left
pub byte_step : (b s : List ℕ) (at start len k : ℕ) → k < len → start + len ≤ length s → at + len ≤ length b → store (set b (at + k) (get_or s (start + k) 0)) (at + (k + 1)) (take (len - (k + 1)) (drop (start + (k + 1)) s)) ≡ store b (at + k) (take (len - k) (drop (start + k) s))
byte_step b s at start len k h l m =
    let v = take (len - (k + 1)) (drop (start + (k + 1)) s) in
    let a = get_or s (start + k) 0 in
    let n : length v ≡ len - (k + 1) = part_length (len - (k + 1)) (start + (k + 1)) s (omega arith) in
    let next : at + (k + 1) ≡ suc (at + k) = omega arith in
    let cut : take (len - k) (drop (start + k) s) ≡ a ∷ v =
    ap (take (len - k)) (drop-cons s (start + k) 0 (omega arith))
    ∙ ap (λ (j : ℕ). take j (a ∷ drop (suc (start + k)) s)) (le_sub h)
    ∙ ap (λ (j : ℕ). a ∷ take (len - (k + 1)) (drop j s)) (after start k) in
    store_in (set b (at + k) a) (at + (k + 1)) v (simp length-set (omega (arith, n)))
    ∙ ap (λ (j : ℕ). sets (set b (at + k) a) j v) next
    ∙ sym (store_in b (at + k) (a ∷ v) (omega (arith, n)))
    ∙ ap (store b (at + k)) (sym cut)
  where
    le_sub : {len k : ℕ} → k < len → len - k ≡ suc (len - (k + 1))
    le_sub h = omega arith

    after : (start k : ℕ) → suc (start + k) ≡ start + (k + 1)
    after start k = omega arith

pub byte_end : (b s : List ℕ) (at start len k : ℕ) → len ≤ k → b ≡ store b (at + k) (take (len - k) (drop (start + k) s))
byte_end b s at start len k h = nothing b (at + k) ∙ ap (λ (j : ℕ). store b (at + k) (take j (drop (start + k) s))) (none h)
  where
    none : {len k : ℕ} → len ≤ k → 0 ≡ len - k
    none h = omega arith
