use Rattle.std.proofs.Common.{ℕ, List, is_some, refl, sym, ap, ◌∙◌}
use Rattle.std.specs.BTreeMap.{get}
use Rattle.plain_data.proofs.Entries.{equal, lookup-alike}
use Rattle.rdt_types.specs.Addresses.{address_cmp}
use Rattle.rdt_types.specs.contracts.address.AddressOrd.TheImpl.Laws as order
use Rattle.rerun_driver.specs.code.Numbers.{Roomy, without_number}
use Rattle.rerun_driver.proofs.Links.{items, put-at, nowhere-at, none-at, nobody-at}
use Rattle.rerun_driver.proofs.places.Places.take_out.Goals as goal

pub returns-in-Some-clause-taken : goal.returns-in-Some-clause-taken
returns-in-Some-clause-taken c =
    let m = c.args.self.now.sets in
    let k = c.args.address.now in
    let n = c.args.number in
    let set = c.take_out.new.self in
    put-at (get address_cmp m) (get address_cmp (c.get_mut.follows.lender set)) k (λ (xs : List ℕ). without_number xs n) set
    (((c.get_mut.follows.holds set).3 (ap is_some (sym c.in-Some.ensures.value))).0)
    (λ a e. ap (λ (s : Roomy). s.0) c.take_out.ensures.taken
    ∙ ap (λ o. without_number (items o) n) (c.in-Some.ensures.value ∙ lookup-alike address_cmp order.total-law k a m.entries (equal _ e)))

pub returns-in-Some-clause-gone : goal.returns-in-Some-clause-gone
returns-in-Some-clause-gone c =
    let m = c.args.self.now.sets in
    let set = c.take_out.new.self in
    none-at (get address_cmp m) (get address_cmp (c.get_mut.follows.lender set)) c.args.address.now c.args.number set
    (((c.get_mut.follows.holds set).3 (ap is_some (sym c.in-Some.ensures.value))).0) c.take_out.ensures.gone

pub returns-in_default-clause-taken : goal.returns-in_default-clause-taken
returns-in_default-clause-taken c =
    let m = c.args.self.now.sets in
    let k = c.args.address.now in
    nowhere-at (get address_cmp m) (get address_cmp c.get_mut.follows.lender-at-none) k (λ (xs : List ℕ). without_number xs c.args.number) refl
    (λ a. ap (λ n. get address_cmp n a) c.get_mut.follows.holds-at-none)
    (λ a e. sym (lookup-alike address_cmp order.total-law k a m.entries (equal _ e)) ∙ sym c.in_default.ensures.value)

pub returns-in_default-clause-gone : goal.returns-in_default-clause-gone
returns-in_default-clause-gone c =
    let m = c.args.self.now.sets in
    let k = c.args.address.now in
    nobody-at (get address_cmp m) (get address_cmp c.get_mut.follows.lender-at-none) k c.args.number
    (λ a. ap (λ n. get address_cmp n a) c.get_mut.follows.holds-at-none)
    (λ a e. sym (lookup-alike address_cmp order.total-law k a m.entries (equal _ e)) ∙ sym c.in_default.ensures.value)
