-- Signed numbers that pass through arguments, fields and casts. Such a number is `to_z w (of_z w z)`.
use mathlib.Core.Path.{◌≡◌, ap, ◌∙◌}
use Prim.Native.Nat.{ℕ, ◌<◌, ◌^◌}
use lib.IntN.{ℤ}
use lib.Signed.{mag}
use lib.Dec.{T, leb}
use mir.Syntax.{Width, w16, w32, w64}
use mir.Val.{hbits, SFits, to_z, of_z}
use mir.Facts.{sfits_widen}
use mir.ValLaws.{to_z-of_z}
use Rattle.shurtenbo.specs.Insns.{insn_of}

-- cast to an i64
module _ (w : Width) (narrower : T (leb (hbits w) (hbits w64))) (z : ℤ) (h : mag z < 2 ^ hbits w) where
  pub widens : SFits w64 (to_z w (of_z w z))
  widens = rw (to_z-of_z w z (record { sfits = h })) (sfits_widen {w = w} narrower (record { sfits = h }))

  pub widened : to_z w64 (of_z w64 (to_z w (of_z w z))) ≡ z
  widened = ap (λ (y : ℤ). to_z w64 (of_z w64 y)) (to_z-of_z w z (record { sfits = h })) ∙ to_z-of_z w64 z (sfits_widen {w = w} narrower (record { sfits = h }))

-- an instruction made of arguments
pub same_insn : (code dst src : ℕ) (off imm : ℤ) → SFits w16 off → SFits w32 imm → insn_of code dst src (to_z w16 (of_z w16 off)) (to_z w32 (of_z w32 imm)) ≡ insn_of code dst src off imm
same_insn code dst src off imm f g = rw (to_z-of_z w16 off f, to_z-of_z w32 imm g)
