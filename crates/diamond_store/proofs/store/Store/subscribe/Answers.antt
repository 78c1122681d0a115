use Rattle.docc_prepare.specs.Calls.{Call}
use Rattle.diamond_store.proofs.Called.{subscribed-to, not-subscribed}
use Rattle.diamond_store.proofs.store.Store.subscribe.Goals as goal

pub returns-in_default : goal.returns-in_default
returns-in_default g c =
    let p = c.pass.inside in
    rw (← c.pass.view_is) (not-subscribed g.N.Naming.lock.origin g.N.Naming.lock.base p.client p.front p.seen p.taken p.settings c.pass.invariant
    c.count-known.ensures.lawful p.subscribed.keys p.denied c.args.address.now c.tell.new.addresses.keys (Call.subscribe c.args.address.now)
    c.in_default.ensures.err)

pub returns : goal.returns
returns g c =
    let p = c.pass.inside in
    rw (← c.pass.view_is) (subscribed-to g.N.Naming.lock.origin g.N.Naming.lock.base p.client p.front p.seen p.taken p.settings c.pass.invariant
    c.count-known.ensures.lawful p.subscribed.keys p.denied c.args.address.now c.tell.new.addresses.keys c.in-Ok.ensures.ok)
