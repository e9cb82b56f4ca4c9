-- The known lines, computed.
use mathlib.Core.Path.{refl}
use Rattle.wire.specs.Le.{le, bytes_of, unsigned_at, unsigned_bytes}
use Rattle.text.specs.Ascii.{ascii}
use Rattle.text.specs.Digits.{digit, digits_of, decimal, sign, hex, shown, shown_name}
use Rattle.text.specs.Lines.{slot_bytes, counts_line, slot_line, slot_lines, reloc_line, refused_line}
use Rattle.text.specs.Known.{Known, code_p2, listing_p2}

pub known : Known
unfolding le bytes_of unsigned_at unsigned_bytes ascii digit digits_of decimal sign hex shown shown_name slot_bytes counts_line slot_line slot_lines reloc_line refused_line code_p2 listing_p2
known = record { listing = refl; hidden = refl; refused = refl; negative = refl }
