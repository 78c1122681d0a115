use Rattle.std.proofs.Common.{length, sym, ap, ◌∙◌}
use Rattle.std.proofs.lemmas.Bool.{eqb-true}
use Rattle.std.specs.BTreeMap.{get}
use Rattle.plain_data.proofs.Entries.{equal, lookup-alike}
use Rattle.rdt_types.specs.Addresses.{address_cmp}
use Rattle.rdt_types.specs.contracts.address.AddressOrd.TheImpl.Laws as order
use Rattle.rerun_driver.proofs.Links.{items, gone-at, none-in}
use Rattle.rerun_driver.proofs.places.Places.sweep.Goals as goal

pub returns-then-is_empty : goal.returns-then-is_empty
returns-then-is_empty c =
    let m = c.args.self.now.sets in
    let k = c.args.address.now in
    gone-at (get address_cmp m) (get address_cmp c.remove.new.self) k c.remove.ensures.updates.0
    (λ a e. sym (ap items (lookup-alike address_cmp order.total-law k a m.entries (equal _ e))) ∙ sym c.at.ensures
    ∙ none-in c.at.result.now (eqb-true (length c.at.result.now) 0 (sym c.is_empty.ensures ∙ c.if-is_empty.true)))
