use Rattle.std.proofs.Common.{◌≡◌, map, take}
use Rattle.write_buffer.proofs.keys.keys_of.Given as goal

abbrev pub invariant-loop-entry : goal.invariant-loop-entry
invariant-loop-entry g l = l.keys ≡ map (λ e. e.0) (take l.entry-index l.entry-items)
