use Rattle.std.proofs.Common.{◌≡◌, drop}
use Rattle.rdt_types.specs.DeltaMaps.{delta_at}
use Rattle.journal_core.proofs.naming.delta_in.Given as goal

-- none of the deltas so far is at the address
abbrev pub invariant-loop-changed : goal.invariant-loop-changed
invariant-loop-changed l = delta_at (drop l.changed-index l.deltas) l.address ≡ delta_at l.fn.deltas l.fn.address
