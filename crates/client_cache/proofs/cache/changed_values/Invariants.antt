use Rattle.std.proofs.Common.{◌≡◌, ◌++◌, drop}
use Rattle.client_cache.specs.code.Changing.{changed_from}
use Rattle.client_cache.proofs.cache.changed_values.Given as goal

-- what was made, and what the rest make, are all
abbrev pub invariant-loop-address : goal.invariant-loop-address
invariant-loop-address l =
    l.changed.items ++ changed_from l.values.entries (drop l.address-index l.changes) ≡ changed_from l.fn.values.entries l.fn.changes
