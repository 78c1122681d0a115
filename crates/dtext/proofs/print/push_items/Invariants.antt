use Rattle.std.proofs.Common.{◌≡◌, ◌++◌, take}
use Rattle.std.specs.List.{flat_map}
use Rattle.dtext.specs.Printing.{after_space}
use Rattle.dtext.proofs.print.push_items.Given as goal

-- the values so far
abbrev pub invariant-loop-item : goal.invariant-loop-item
invariant-loop-item l = l.out ≡ l.fn.out ++ flat_map after_space (take l.item-index l.items)
