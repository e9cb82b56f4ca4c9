-- How what an instruction or a terminator becomes is held in a value.
use Rattle.std.specs.Prelude.{ℕ, List, [], ◌∷◌, pos, Err, None, Ok, Option, Result, Some}
use Rattle.insn.specs.declared.form.Form.TheVariants.{Exit}
use Rattle.lower.specs.Op.{Op, plain, map, ja, jne, Lowered, becomes, refused, insn, slots_of, ◌▸◌}
use Rattle.lower.specs.declared.Emitted.{Emitted}
use Rattle.lower.specs.declared.Ending.{Ending}
use Rattle.lower.specs.declared.Ending.TheVariants as E
use Rattle.lower.specs.declared.Reason.{Reason}

-- the map whose address is loaded
unfoldable pub map_in : List Op → Option ℕ
map_in [] = None
map_in (map m ∷ l) = Some m
map_in (plain i ∷ l) = map_in l
map_in (ja to ∷ l) = map_in l
map_in (jne to ∷ l) = map_in l

-- what an instruction becomes, beside its code, or why it is refused
unfoldable pub held : Lowered → Result Emitted Reason
held (becomes l) = Ok (record { map = map_in l; slots = slots_of l })
held (refused r) = Err r

-- what a terminator becomes, read off its value: each value is of one list only
unfoldable pub ending_ops : Result Ending Reason → Lowered
ending_ops (Ok (E.Return i)) = becomes (plain i ∷ []) ▸ insn Exit 0 0 (pos 0) (pos 0)
ending_ops (Ok (E.Jump target)) = becomes (ja target ∷ [])
ending_ops (Ok (E.Branch i to other)) = becomes (plain i ∷ jne to ∷ ja other ∷ [])
ending_ops (Err r) = refused r
