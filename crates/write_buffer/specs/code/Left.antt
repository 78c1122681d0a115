-- A value over which the body's own delta lies, as the code is handed both: the delta is lent, if there is one.
use Rattle.std.specs.Prelude.{Option}
use Rattle.std.specs.Option.{option_copied}
use Rattle.rdt_types.specs.declared.delta.Delta.{Delta}
use Rattle.rdt_types.specs.declared.value.Value.{Value}
use Rattle.conflict_table.specs.Composed.{left_by}
use denote.Bor.{Bor}

-- what the delta leaves of the value
abbrev pub left_over : Option (Bor Delta) → Value → Value
left_over own value = left_by (option_copied own) value
