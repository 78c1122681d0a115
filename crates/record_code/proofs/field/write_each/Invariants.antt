use Rattle.std.proofs.Common.{◌≡◌, ◌++◌, take}
use Rattle.std.specs.List.{flat_map, AllByRecursion}
use Rattle.record_code.proofs.field.write_each.Given as goal

abbrev pub invariant-loop-field : goal.invariant-loop-field
invariant-loop-field g l = record {
  written : l.out ≡ l.fn.out ++ flat_map g.F.Field.spelling (take l.field-index l.fields);
  room : AllByRecursion g.F.Field.has_room (take l.field-index l.fields);
}
