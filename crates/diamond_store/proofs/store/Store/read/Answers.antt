use Rattle.docc_prepare.specs.Calls.{Call}
use Rattle.diamond_store.proofs.Called.{was-read}
use Rattle.diamond_store.proofs.Known.{failed}
use Rattle.diamond_store.proofs.store.Store.read.Goals as goal

pub returns-in_default : goal.returns-in_default
returns-in_default g c =
    let p = c.pass.inside in
    let t = c.read-read in
    rw (← c.pass.view_is) (failed g.N.Naming.lock.origin g.N.Naming.lock.base p.client p.front t.new.token p.seen p.taken p.settings c.pass.invariant
    t.ensures.later t.ensures.lawful p.subscribed.keys p.denied (Call.read c.args.address.now))

pub returns : goal.returns
returns g c =
    let p = c.pass.inside in
    let t = c.read-read in
    rw (← c.pass.view_is) (was-read g.N.Naming.lock.origin g.N.Naming.lock.base p.client p.front t.new.token p.seen p.taken p.settings c.pass.invariant
    t.ensures.later t.ensures.lawful p.subscribed.keys p.denied c.args.address.now c.in-Ok.snap c.in-Ok.ensures.reads)
