-- The record that is due at a byte, and the refusals in 01's order: 2, then 3 or 4, then 5.
use Rattle.std.specs.Prelude.{ℕ, ◌+◌, Bool, true, List, eqb, pos, Err, None, Ok, Option, Result, Some}
use Rattle.wire.specs.Pick.{pick}
use Rattle.wire.specs.declared.refusal.Refusal.{Refusal}
use Rattle.record.specs.Frame.{length_at, kind_at, whole_at, next_at}
use Rattle.record.specs.Payload.{payload_at}
use Rattle.record.specs.declared.Due.{Due}
use Rattle.record.specs.declared.Due.TheVariants as Du
use Rattle.record.specs.declared.Fault.{Fault}
use Rattle.record.specs.declared.Fault.TheVariants.{TooLong, Cut, NoHead, NotDue, Broken}
use Rattle.record.specs.declared.Record.{Record}

-- 01's number, place and value of each fault
unfoldable pub refusal_of : Fault → Refusal
refusal_of TooLong = record { number = 1; place = 0; value = pos 0 }
refusal_of (Cut at) = record { number = 2; place = at; value = pos 0 }
refusal_of NoHead = record { number = 3; place = 0; value = pos 0 }
refusal_of (NotDue at) = record { number = 4; place = at; value = pos 0 }
refusal_of (Broken at) = record { number = 5; place = at; value = pos 0 }

-- the kind is the one due
unfoldable pub kind_due : Due → ℕ → Bool
kind_due Du.Head kind = eqb kind 1
kind_due Du.Map kind = eqb kind 2
kind_due Du.Block kind = eqb kind 3
kind_due Du.Inside kind = pick (eqb kind 4) true (eqb kind 5)

-- where the head is due, what is no valid head is 3
abbrev pub refused_as : Due → Fault → Fault
refused_as Du.Head f = NoHead
refused_as Du.Map f = f
refused_as Du.Block f = f
refused_as Du.Inside f = f

unfoldable pub not_due : Due → ℕ → Fault
not_due due at = refused_as due (NotDue at)

unfoldable pub broken : Due → ℕ → Fault
broken due at = refused_as due (Broken at)

unfoldable pub on_payload : Due → ℕ → ℕ → Option Record → Result (Record × ℕ) Fault
on_payload due at next (Some r) = Ok (r, next)
on_payload due at next None = Err (broken due at)

unfoldable pub read_record : List ℕ → ℕ → Due → ℕ → Result (Record × ℕ) Fault
read_record b at due maps =
    pick (whole_at b at)
    (pick (kind_due due (kind_at b at)) (on_payload due at (next_at b at) (payload_at (kind_at b at) b (at + 4) (length_at b at) maps)) (Err (not_due due at)))
    (Err (Cut at))
