-- What small codes do, one table under a single statement.
use mathlib.Core.Path.{refl}
use Rattle.wire.specs.Le as wireLe
use Rattle.insn.specs.Form as insnForm
use Rattle.insn.specs.Helper as insnHelper
use Rattle.insn.specs.Layout as insnLayout
use Rattle.insn.specs.Rfc as insnRfc
use Rattle.shape.specs.Code as shapeCode
use Rattle.shape.specs.Shape as shapeShape
use Rattle.machine.specs.Word.{wrap, word, low, alu}
use Rattle.machine.specs.Memory.{address, cell_of, byte_of, part, with_part, loaded, stored}
use Rattle.machine.specs.Turn.{after, jump, first_of, turn_of, turn, given, step}
use Rattle.machine.specs.Points.{slot, compute, branch, compared, pointer, second, patched, carry, outcome}
use Rattle.machine.specs.Known.{KnownSteps}

pub known_steps : KnownSteps
unfolding wireLe.store wireLe.le wireLe.bytes_of wireLe.unsigned_at wireLe.signed_at insnForm.form_of insnForm.sizes insnForm.with_constant insnForm.with_register insnForm.jumps insnHelper.helpers insnHelper.among insnHelper.helper_of insnHelper.arguments insnLayout.insn_at insnRfc.size_field insnRfc.width shapeCode.at shapeShape.target wrap word low alu address cell_of byte_of part with_part loaded stored after jump first_of turn_of turn given step slot compute branch compared pointer second patched carry outcome
known_steps =
    record {
      P1 = λ p a m. refl;
      P4 = λ p a m. refl;
      add_wraps = λ p a m. refl;
      sub_wraps = λ p a m. refl;
      mul_wraps = λ p a m. refl;
      div_unsigned = λ p a m. refl;
      div_by_zero = λ p a m. refl;
      mod_unsigned = λ p a m. refl;
      mod_by_zero = λ p a m. refl;
      shl_six_bits = λ p a m. refl;
      shr_six_bits = λ p a m. refl;
      jeq_taken = λ p a m. refl;
      jeq_left = λ p a m. refl;
      jne_taken = λ p a m. refl;
      jne_left = λ p a m. refl;
      r10_below = λ p a m. refl;
      r10_equal = λ a m. refl;
      r10_other = λ a m. refl;
      byte_of_cell = λ p a m. refl;
      byte_into_cell = λ p a m. refl;
      constant = λ p a m. refl;
      a_map = λ p m. refl;
      a_load = λ p m. refl;
      a_store = λ p m. refl;
      a_call = λ p m. refl;
      a_bare_call = λ p m. refl;
      no_helper = λ p m. refl;
      call_answers = λ a m. refl;
      call_takes = λ a m. refl;
      call_leaves = λ a m. refl;
    }
