use Rattle.std.proofs.Common.{◌≡◌, ◌++◌, drop}
use Rattle.rdt_types.specs.Listed.{without}
use Rattle.rdt_types.proofs.list_delta.without.Given as goal

-- what is kept, and what stays of the rest, are what stays of all
abbrev pub invariant-loop-item : goal.invariant-loop-item
invariant-loop-item l = l.kept ++ without l.removed (drop l.item-index l.items) ≡ without l.removed l.items
