use Rattle.std.proofs.Common.{◌≡◌, ◌++◌, drop}
use Rattle.client_watches.specs.Watching.{addresses_of}
use Rattle.client_watches.proofs.catching.add_addresses.Given as goal

-- what was added, and the addresses of the rest, are all
abbrev pub invariant-loop-seen : goal.invariant-loop-seen
invariant-loop-seen l = l.loose ++ addresses_of (drop l.seen-index l.observations) ≡ l.fn.loose ++ addresses_of l.fn.observations
