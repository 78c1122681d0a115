use Rattle.std.proofs.Common.{◌≡◌, ◌++◌, take}
use Rattle.std.specs.List.{flat_map, AllByRecursion}
use Rattle.remote_wire.proofs.part.put_each.Given as goal

abbrev pub invariant-loop-part : goal.invariant-loop-part
invariant-loop-part g l = record {
  written : l.out ≡ l.fn.out ++ flat_map g.P.Part.spelling (take l.part-index l.parts);
  form : AllByRecursion g.P.Part.has_form (take l.part-index l.parts);
}
