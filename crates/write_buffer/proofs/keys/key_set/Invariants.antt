use Rattle.std.proofs.Common.{◌≡◌, take}
use Rattle.write_buffer.proofs.KeySets.{bare}
use Rattle.write_buffer.proofs.keys.key_set.Given as goal

abbrev pub invariant-loop-entry : goal.invariant-loop-entry
invariant-loop-entry g l = l.keys.items ≡ bare (take l.entry-index l.entry-items)
