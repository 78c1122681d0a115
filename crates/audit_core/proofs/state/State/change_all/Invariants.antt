use Rattle.std.proofs.Common.{◌≡◌, take}
use Rattle.audit_core.specs.Dumps.{with_deltas}
use Rattle.audit_core.proofs.state.State.change_all.Given as goal

-- what the deltas so far have made
abbrev pub invariant-loop-address : goal.invariant-loop-address
invariant-loop-address l = l.self ≡ with_deltas l.fn.self (take l.address-index l.fn.deltas)
