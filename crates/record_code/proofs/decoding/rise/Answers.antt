use Rattle.std.proofs.Common.{◌≡◌, rules}
use Rattle.std.specs.Ordering.{is_lt}
use Rattle.std.proofs.lemmas.List.Sorted.{answers_always}
use Rattle.rdt_types.specs.Addresses.{address_cmp}
use Rattle.rdt_types.specs.contracts.address.AddressOrd.TheImpl.Laws as addresses
use Rattle.record_code.proofs.Rising.{rises}
use Rattle.record_code.proofs.decoding.rise.Goals as goal

pub returns : goal.returns
returns c =
    rises address_cmp addresses.total-law c.args.pairs.now c.is_sorted_by.result
    (c.is_sorted_by.ensures.cases (λ x y. is_lt (address_cmp x.0 y.0))
    (answers_always _ (λ a r. r ≡ is_lt (address_cmp a.0.now.0 a.1.0.now.0)) _
    (λ f a r f' h. search rules)))
