use Rattle.std.proofs.Common.{◌≡◌}
use Rattle.client_cache.specs.code.Changing.{with_all}
use Rattle.client_cache.proofs.cache.put_all.Given as goal

-- what was put, and then the rest, are all
abbrev pub invariant-loop-address : goal.invariant-loop-address
invariant-loop-address l = with_all l.values.entries l.address-iterator.rest.items ≡ with_all l.fn.values.entries l.fn.changed.items
