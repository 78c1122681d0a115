use Rattle.std.proofs.Common.{◌≡◌, ℕ, List, cond, is_some, sym, ap, ◌∙◌}
use Rattle.std.proofs.lemmas.Bool.{OnTrue_from, OnTrue_at}
use Rattle.std.specs.BTreeMap.{get, is_at}
use Rattle.plain_data.proofs.Entries.{equal, lookup-alike}
use Rattle.rdt_types.specs.declared.address.Address.{Address}
use Rattle.rdt_types.specs.Addresses.{address_cmp}
use Rattle.rdt_types.specs.contracts.address.AddressOrd.TheImpl.Laws as order
use Rattle.rerun_driver.specs.code.Numbers.{Roomy, with_number}
use Rattle.rerun_driver.proofs.Links.{items, put-at, same-at}
use Rattle.rerun_driver.proofs.places.Places.put.Goals as goal

pub returns-in-Some-clause-put : goal.returns-in-Some-clause-put
returns-in-Some-clause-put c =
    let m = c.args.self.now.sets in
    let k = c.args.address.now in
    let n = c.args.number in
    let set = c.put_in.new.set in
    let f = get address_cmp m in
    let g = get address_cmp (c.get_mut.follows.lender set) in
    OnTrue_from c.put_in.result
    ((a : Address) → items (g a) ≡ cond (is_at (address_cmp k) a) (with_number (items (f a)) n) (items (f a)))
    (λ put. put-at f g k (λ (xs : List ℕ). with_number xs n) set
    (((c.get_mut.follows.holds set).3 (ap is_some (sym c.in-Some.ensures.value))).0)
    (λ a e. OnTrue_at put c.put_in.ensures.put
    ∙ ap (λ o. with_number (items o) n) (c.in-Some.ensures.value ∙ lookup-alike address_cmp order.total-law k a m.entries (equal _ e))))

pub returns-in-Some-clause-none : goal.returns-in-Some-clause-none
returns-in-Some-clause-none c none =
    let m = c.args.self.now.sets in
    let k = c.args.address.now in
    let set = c.put_in.new.set in
    same-at (get address_cmp m) (get address_cmp (c.get_mut.follows.lender set)) k set
    (((c.get_mut.follows.holds set).3 (ap is_some (sym c.in-Some.ensures.value))).0)
    (λ a e. ap (λ (s : Roomy). s.0) (c.put_in.ensures.none none)
    ∙ ap items (c.in-Some.ensures.value ∙ lookup-alike address_cmp order.total-law k a m.entries (equal _ e)))

pub returns-in-None-clause-none : goal.returns-in-None-clause-none
returns-in-None-clause-none c none a = ap (λ n. items (get address_cmp n a)) c.get_mut.follows.holds-at-none
