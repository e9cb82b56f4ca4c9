-- Every variable that the blocks of a unit name has a cell.
use mathlib.Core.Path.{◌≡◌, refl, ap, ◌∙◌}
use mathlib.Core.List.{List, ◌∷◌, Memᴰ}
use Prim.Native.Nat.{ℕ}
use Rattle.ir.specs.Operands.{list_of}
use Rattle.ir.specs.declared.Operand.TheVariants as O
use Rattle.ir.specs.declared.Terminator.{Terminator}
use Rattle.ir.specs.declared.Terminator.TheVariants as T
use Rattle.frame.specs.Cell.{Frame}
use Rattle.frame.specs.Hint.{frame_by}
use Rattle.frame.proofs.Hints.{frame_by_lem}
use Rattle.unitfile.specs.Unit.{PlacedInstruction, BasicBlock}
use Rattle.survey.specs.Collected.{all, collected}
use Rattle.survey.proofs.Among.{result_among, operand_among, return_among, condition_among, has_cell}
use Rattle.survey.proofs.Sorted.{all_fits}
use Rattle.size.specs.Celled.{HasCell, Celled}
use Rattle.passes.specs.Rows.{RowCelled, EndCelled, BlockCelled}

-- those of blocks
pub record BlocksCelled (f : Frame) (ks : List BasicBlock) : Type 0 where
  pub each : (k : BasicBlock) → Memᴰ k ks → BlockCelled f k

-- ---- of the first, and of the others

module _ {f : Frame} {p : PlacedInstruction} {is : List PlacedInstruction} (c : RowCelled f (p ∷ is)) where
  pub first_celled : Celled f p.instruction.result (list_of p.instruction.operands)
  first_celled = c.each p (Memᴰ.head refl)

  pub others_celled : RowCelled f is
  others_celled = record { each = λ q m. c.each q (Memᴰ.tail m) }

module _ {f : Frame} {k : BasicBlock} {ks : List BasicBlock} (c : BlocksCelled f (k ∷ ks)) where
  pub block_celled : BlockCelled f k
  block_celled = c.each k (Memᴰ.head refl)

  pub blocks_celled : BlocksCelled f ks
  blocks_celled = record { each = λ q m. c.each q (Memᴰ.tail m) }

-- ---- where all variables were collected

module _ (bs : List BasicBlock) (vs hs : List ℕ) (e : collected bs ≡ all vs) where
  has : (v : ℕ) → Memᴰ v vs → HasCell (frame_by vs hs) v
  has v m =
      let h = has_cell v vs m in
      record { offset = h.offset; at = ap (λ (f : Frame). f.cell v) (frame_by_lem vs hs (all_fits bs vs e).sorted) ∙ h.at }

  pub celled : BlocksCelled (frame_by vs hs) bs
  celled =
      record {
        each = λ k m. record {
          row = record {
            each = λ p n. record { kept = has _ (result_among bs vs e k m p n); read = λ v o. has v (operand_among bs vs e k m p n v o) };
          };
          end = record { returned = λ v q. has v (return_among bs vs e k m v q); tested = λ v to other q. has v (condition_among bs vs e k m v to other q) };
        };
      }
