-- The counts that were found are those of the unit that was read.
use mathlib.Core.Path.{◌≡◌}
use mathlib.Core.List.{List}
use Prim.Native.Nat.{ℕ}
use Rattle.record.specs.Record.{refusal_of}
use Rattle.record.specs.declared.Fault.{Fault}
use Rattle.unitfile.specs.Unit.{parse, read_unit}
use Rattle.unitfile.specs.declared.Found.{Found}
use Rattle.unitfile.proofs.Theorems.{refused_alike}
use Rattle.unitfile.proofs.Units.{unit_of}
use Rattle.shurtenbo.specs.Answer.{done_with, numbers_of}
use Rattle.shurtenbo.specs.Units.{unit_numbers}
use Rattle.std.specs.Prelude.{Err, Ok}

pub whole_numbers : (b : List ℕ) (found : Found) → read_unit b ≡ Ok found → unit_numbers (parse b) ≡ done_with found.maps found.blocks
unfolding unit_numbers
whole_numbers b found e =
    let u = unit_of b found e in
    rw (u.parsed_as, u.names, u.blocks)

pub refused_numbers : (b : List ℕ) (f : Fault) → read_unit b ≡ Err f → unit_numbers (parse b) ≡ numbers_of (refusal_of f)
unfolding unit_numbers
refused_numbers b f e = rw ((refused_alike b f).0 e)
