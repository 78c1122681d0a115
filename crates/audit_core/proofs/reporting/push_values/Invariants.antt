use Rattle.std.proofs.Common.{◌≡◌, ◌++◌, take}
use Rattle.std.specs.List.{flat_map}
use Rattle.audit_core.specs.Reports.{value_line}
use Rattle.audit_core.proofs.reporting.push_values.Given as goal

-- the lines so far
abbrev pub invariant-loop-address : goal.invariant-loop-address
invariant-loop-address l = l.out ≡ l.fn.out ++ flat_map value_line (take l.address-index l.pairs)
