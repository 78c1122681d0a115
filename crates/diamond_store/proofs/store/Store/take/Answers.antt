use Rattle.docc_prepare.specs.Calls.{Call}
use Rattle.diamond_store.proofs.Called.{was-fed}
use Rattle.diamond_store.proofs.Known.{failed}
use Rattle.diamond_store.proofs.store.Store.take.Goals as goal

pub returns-in_default-clause-answered : goal.returns-in_default-clause-answered
returns-in_default-clause-answered g c =
    let p = c.pass.inside in
    let t = c.take-told in
    rw (← c.pass.view_is) (failed g.N.Naming.lock.origin g.N.Naming.lock.base p.client p.front t.new.token p.seen p.taken p.settings c.pass.invariant
    t.ensures.later t.ensures.lawful p.subscribed.keys p.denied Call.take)

pub returns-clause-answered : goal.returns-clause-answered
returns-clause-answered g c =
    let p = c.pass.inside in
    let t = c.take-told in
    rw (← c.pass.view_is) (was-fed g.N.Naming.lock.origin g.N.Naming.lock.base p.client p.front t.new.token p.seen p.taken p.settings c.pass.invariant
    t.ensures.later t.ensures.lawful p.subscribed.keys p.denied c.in-Ok.feed c.to-end.result c.to-end.ensures c.in-Ok.ensures.feed)
