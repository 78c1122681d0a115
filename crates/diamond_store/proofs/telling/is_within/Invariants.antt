use Rattle.std.proofs.Common.{◌≡◌, drop}
use Rattle.std.specs.List.{list_all}
use Rattle.diamond_store.specs.Passes.{is_in}
use Rattle.diamond_store.proofs.telling.is_within.Given as goal

-- whether the rest lies within is whether all does
abbrev pub invariant-loop-address : goal.invariant-loop-address
invariant-loop-address l = list_all (λ pair. is_in l.fn.addresses.keys pair.0) (drop l.address-index l.address-items)
    ≡ list_all (λ pair. is_in l.fn.addresses.keys pair.0) l.fn.feed.changes
