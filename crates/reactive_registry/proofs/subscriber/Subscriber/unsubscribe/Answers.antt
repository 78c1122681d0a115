use Rattle.std.proofs.Common.{◌≡◌, false, ◌∙◌, rules}
use Rattle.std.specs.List.{list_any}
use Rattle.std.specs.BTreeMap.{is_at}
use Rattle.rdt_types.specs.Addresses.{address_cmp}
use Rattle.reactive_registry.specs.Registered.{addresses_but}
use Rattle.reactive_registry.proofs.GoingOn.{without-all}
use Rattle.reactive_registry.proofs.subscriber.Subscriber.unsubscribe.Goals as goal

-- the address stood once, so none is left
pub returns-clause-kept : goal.returns-clause-kept
returns-clause-kept c =
    let at = is_at (address_cmp c.args.address.now) in
    let gone : list_any at c.remove.new.self.keys ≡ false = c.remove.ensures.updates.1 in
    let keys : c.remove.new.self.keys ≡ addresses_but c.args.address.now c.self.inside.addresses.keys =
    c.remove.ensures.keys ∙ without-all at c.self.inside.addresses.keys (rw c.remove.ensures.keys at gone) in
    search (rules, keys)
