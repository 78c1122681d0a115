use Rattle.std.proofs.Common.{rules}
use Rattle.std.specs.Option.{option_cmp}
use Rattle.std.specs.Ordering.{is_lt}
use Rattle.std.specs.Cmp.Lexicographic.{options_total}
use Rattle.std.proofs.lemmas.Fn.{always_returns_same}
use Rattle.std.proofs.lemmas.List.Sorted.{ranks_by}
use Rattle.rdt_types.specs.contracts.address.AddressOrd.TheImpl.Laws as order
use Rattle.rdt_types.specs.Addresses.{address_cmp}
use Rattle.hold_core.specs.code.Index.{address_at}
use Rattle.hold_core.proofs.placing.sort_places.Goals as goal

pub returns-clause-sorted : goal.returns-clause-sorted
returns-clause-sorted c =
    let at = address_at c.args.observations.now in
    c.sort_unstable_by.ensures.sorted (λ a b. is_lt (option_cmp address_cmp (at a) (at b))) (ranks_by (options_total order.total-law) at)
    (always_returns_same _ _ _ (λ a r f k. search rules))
