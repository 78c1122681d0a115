use Rattle.std.proofs.Common.{◌≡◌}
use Rattle.audit_core.specs.code.Running.{with_snaps}
use Rattle.audit_core.proofs.state.put_all.Given as goal

-- what was put, and then the rest, are all
abbrev pub invariant-loop-address : goal.invariant-loop-address
invariant-loop-address l = with_snaps l.values.entries l.address-iterator.rest.items ≡ with_snaps l.fn.values.entries l.fn.snaps.items
