-- What a mark leaves at its key.
use Rattle.std.specs.Prelude.{Bool, true, false, Option, Some, None}
use Rattle.plain_data.specs.Texts.{Bytes}
use Rattle.rdt_types.specs.declared.mark.Mark.{Mark}
use Rattle.rdt_types.specs.declared.mark.Mark.TheVariants as mark

-- at an element of a set: it is there exactly where it is added
abbrev pub added : Bool → Option (Unit {0})
added true = Some tt
added false = None

-- at a field of a hash: the text that is put
abbrev pub put_by : Mark → Option Bytes
put_by (mark.Put text) = Some text
put_by mark.Removed = None
