-- A part of bytes: what is read in it is read in the whole.
use mathlib.Core.Path.{◌≡◌, refl, sym, ap, ◌∙◌}
use mathlib.Core.Bool.{Bool, true, false}
use mathlib.Core.List.{List}
use Prim.Native.Nat.{ℕ, ◌+◌, ◌<◌, ◌≤◌}
use native.Mathlib.Nat.{add-zero, add_assoc}
use native.Mathlib.Omega.{arith}
use borrow.Author.Tests.{leb-true, leb-false}
use lib.Dec.{leb}
use lib.ListN.{length, drop, length-drop}
use lib.Seq.{get_or-drop}
use mir.Syntax.{Width, w8, w16, w32, w64, w128}
use mir.Val.{to_z}
use Rattle.wire.specs.Le.{octets, byte_at, unsigned_at, signed_at}
use Rattle.wire.proofs.Le.{le_same, unsigned_in, unsigned_out}

some_octets : (w : Width) → 0 < octets w
some_octets w8 = omega arith
some_octets w16 = omega arith
some_octets w32 = omega arith
some_octets w64 = omega arith
some_octets w128 = omega arith

module _ (b : List ℕ) (k i : ℕ) where
  pub byte_drop : byte_at (drop k b) i ≡ byte_at b (k + i)
  byte_drop = get_or-drop k b i 0

  pub unsigned_drop : (w : Width) → unsigned_at w (drop k b) i ≡ unsigned_at w b (k + i)
  unsigned_drop w = go (leb (k + i + octets w) (length b)) refl
    where
      go : (t : Bool) → leb (k + i + octets w) (length b) ≡ t → unsigned_at w (drop k b) i ≡ unsigned_at w b (k + i)
      go true e =
          let l : k + i + octets w ≤ length b = leb-true _ _ e in
          unsigned_in w (drop k b) i (simp length-drop (omega arith))
          ∙ le_same (octets w) (drop k b) b i (k + i) (λ j _. get_or-drop k b (i + j) 0 ∙ simp add_assoc)
          ∙ sym (unsigned_in w b (k + i) l)
      go false e =
          let l : length b < k + i + octets w = leb-false _ _ e in
          unsigned_out w (drop k b) i (simp length-drop (omega (arith, some_octets w))) ∙ sym (unsigned_out w b (k + i) l)

  pub signed_drop : (w : Width) → signed_at w (drop k b) i ≡ signed_at w b (k + i)
  unfolding signed_at
  signed_drop w = ap (to_z w) (unsigned_drop w)

-- at the part's beginning
pub unsigned_first : (w : Width) (b : List ℕ) (k : ℕ) → unsigned_at w (drop k b) 0 ≡ unsigned_at w b k
unsigned_first w b k = unsigned_drop b k 0 w ∙ ap (unsigned_at w b) (add-zero k)
