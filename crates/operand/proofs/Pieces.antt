-- Pieces written one after the other are one piece.
use mathlib.Core.Path.{◌≡◌, refl, sym, ap, ◌∙◌}
use mathlib.Core.Bool.{Bool, true, false}
use mathlib.Core.List.{List, [], ◌∷◌, ◌++◌}
use Prim.Native.Nat.{ℕ, ◌+◌, ◌%◌, ◌<◌, ◌≤◌}
use native.Mathlib.Omega.{arith}
use lib.Dec.{leb}
use lib.IntN.{ℤ}
use lib.ListN.{length, length-append}
use mir.Syntax.{Width, w8}
use mir.Val.{SFits, to_z, of_z}
use mir.ValLaws.{to_z-of_z}
use Rattle.wire.specs.Pick.{pick}
use Rattle.wire.specs.Le.{octets, bytes_of, unsigned_bytes, signed_bytes, store}
use Rattle.wire.proofs.Le.{unsigned_length, signed_length}
use Rattle.wire.proofs.Store.{store_length, store_run}

-- c is b with the k bytes u from `at` on, where they have room
pub record Puts (b : List ℕ) (at k : ℕ) (u c : List ℕ) : Type 0 where
  pub size : length u ≡ k
  pub left : at + k ≤ length b → c ≡ store b at u

infixl 60 ◌▸◌
pub ◌▸◌ : {b c d : List ℕ} {at j k : ℕ} {u v : List ℕ} → Puts b at j u c → Puts c (at + j) k v d → Puts b at (j + k) (u ++ v) d
◌▸◌ {b} {c} {d} {at} {j} {k} {u} {v} p q =
    record {
      size = simp length-append (omega (arith, p.size, q.size));
      left = λ h.
          let e : c ≡ store b at u = p.left (omega arith) in
          let l : length c ≡ length b = ap length e ∙ store_length b at u in
          q.left (omega arith)
          ∙ ap (λ (x : List ℕ). store x (at + j) v) e
          ∙ ap (λ (n : ℕ). store (store b at u) (at + n) v) (sym p.size)
          ∙ store_run b at u v (omega (arith, p.size, q.size));
    }

pub piece : (u : List ℕ) {b c : List ℕ} {at : ℕ} → c ≡ store b at u → Puts b at (length u) u c
piece u e = record { size = refl; left = λ h. e }

pub number : (w : Width) (x : ℕ) {b c : List ℕ} {at : ℕ} → c ≡ store b at (unsigned_bytes w x) → Puts b at (octets w) (unsigned_bytes w x) c
number w x e = record { size = unsigned_length w x; left = λ h. e }

-- a signed number that passed through an argument
pub signed : (w : Width) (z : ℤ) {b c : List ℕ} {at : ℕ} → SFits w z → c ≡ store b at (signed_bytes w (to_z w (of_z w z))) → Puts b at (octets w) (signed_bytes w z) c
signed w z {b} {c} {at} f e = record { size = signed_length w z; left = λ h. e ∙ ap (λ (y : ℤ). store b at (signed_bytes w y)) (to_z-of_z w z f) }

pub byte : (x : ℕ) {b c : List ℕ} {at : ℕ} → x < 256 → c ≡ store b at (unsigned_bytes w8 x) → Puts b at 1 (x ∷ []) c
unfolding unsigned_bytes bytes_of
byte x {b} {c} {at} h e =
    let m : x % 256 ≡ x = omega arith in
    record { size = refl; left = λ l. e ∙ ap (λ (y : ℕ). store b at (y ∷ [])) m }

-- nothing is left to write
pub nothing : (b : List ℕ) (i : ℕ) → b ≡ store b i []
unfolding store
nothing b i = go (leb (i + 0) (length b))
  where
    go : (t : Bool) → b ≡ pick t b b
    go true = refl
    go false = refl
