use Rattle.std.proofs.Common.{◌≡◌, ◌++◌, take}
use Rattle.plain_data.proofs.sequence.push_clones.Given as goal

-- the first ones are added
abbrev pub invariant-loop-item : goal.invariant-loop-item
invariant-loop-item g l = l.items.items ≡ l.fn.items.items ++ take l.item-index l.more
