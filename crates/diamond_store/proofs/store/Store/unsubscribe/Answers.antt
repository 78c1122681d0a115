use Rattle.diamond_store.proofs.Called.{unsubscribed-from}
use Rattle.diamond_store.proofs.store.Store.unsubscribe.Goals as goal

pub returns : goal.returns
returns g c =
    let p = c.pass.inside in
    rw (← c.pass.view_is) (unsubscribed-from g.N.Naming.lock.origin g.N.Naming.lock.base p.client p.front p.seen p.taken p.settings c.pass.invariant
    c.count-known.ensures.lawful p.subscribed.keys p.denied c.args.address.now c.hush.new.addresses.keys c.hush.ensures)
