use Rattle.std.proofs.Common.{Some, cond, is_some, sym, ap, ◌∙◌}
use Rattle.std.specs.BTreeMap.{get, is_at}
use Rattle.plain_data.proofs.Entries.{equal, lookup-alike}
use Rattle.rdt_types.specs.Addresses.{address_cmp}
use Rattle.rdt_types.specs.contracts.address.AddressOrd.TheImpl.Laws as order
use Rattle.rerun_driver.proofs.Links.{items, same-at}
use Rattle.rerun_driver.proofs.places.Places.reserve.Goals as goal

pub returns-in-Some : goal.returns-in-Some
returns-in-Some c =
    let m = c.args.self.now.sets in
    let k = c.args.address.now in
    let set = c.reserve.new.self in
    same-at (get address_cmp m) (get address_cmp (c.get_mut.follows.lender set)) k set
    (((c.get_mut.follows.holds set).3 (ap is_some (sym c.in-Some.ensures.value))).0)
    (λ a e. c.reserve.ensures.numbers ∙ ap items (c.in-Some.ensures.value ∙ lookup-alike address_cmp order.total-law k a m.entries (equal _ e)))

pub returns : goal.returns
returns c =
    let m = c.args.self.now.sets in
    let k = c.args.address.now in
    let set = c.reserve-2.new.self in
    same-at (get address_cmp m) (get address_cmp c.insert.new.self) k set
    (λ a. c.in_ok-insert.ensures.updates.0 a
    ∙ ap (λ q. cond (is_at (address_cmp q) a) (Some set) (get address_cmp c.get_mut.follows.lender-at-none a)) c.in_ok-copied.ensures
    ∙ ap (λ n. cond (is_at (address_cmp k) a) (Some set) (get address_cmp n a)) c.get_mut.follows.holds-at-none)
    (λ a e. c.reserve-2.ensures.numbers ∙ c.new-set.ensures
    ∙ ap items (c.in_default.ensures.value ∙ lookup-alike address_cmp order.total-law k a m.entries (equal _ e)))
