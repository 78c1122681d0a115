use Rattle.std.proofs.Common.{ℕ, sym, subst, arith}
use Rattle.docc_prepare.specs.Backends.{CanAppend}
use Rattle.docc_prepare.specs.Calls.{Call}
use Rattle.diamond_store.specs.Owing.{IsOwed}
use Rattle.diamond_store.specs.Passes.{Passed, passed, known_of}
use Rattle.diamond_store.proofs.Appended.{owed-by, pass-appended, was-appended-at}
use Rattle.diamond_store.proofs.Known.{failed}
use Rattle.diamond_store.proofs.store.Store.append.Goals as goal

pub add-requires-clause-owed : goal.add-requires-clause-owed
add-requires-clause-owed g c =
    let p = c.pass.inside in
    subst (λ (n : ℕ). IsOwed n p.front.seen c.args.ready.now) c.pass.invariant.settings.shards
    (owed-by (passed g.N.Naming.lock.base p.client p.front p.seen p.subscribed.keys p.taken p.denied p.settings) c.args.ready.now
    (subst (λ (q : Passed). CanAppend (known_of q) c.args.ready.now) (sym c.pass.view_is) c.requires))

pub returns-in_default-clause-answered : goal.returns-in_default-clause-answered
returns-in_default-clause-answered g c =
    let p = c.pass.inside in
    rw (← c.pass.view_is) (failed g.N.Naming.lock.origin g.N.Naming.lock.base p.client p.front c.add.new.token p.seen p.taken p.settings c.pass.invariant
    c.in_default.ensures.err c.add.ensures.lawful p.subscribed.keys p.denied (Call.append c.args.ready.now))

pub invariant_of-pass-2 : goal.invariant_of-pass-2
invariant_of-pass-2 g c =
    let p = c.pass.inside in
    pass-appended g.N.Naming.lock.origin g.N.Naming.lock.base p.client p.front c.add.new.token p.seen p.taken c.entries-pass-inside.result p.settings
    c.args.ready.now c.in-Ok.decision c.pass.invariant c.in-Ok.ensures.adds c.entries-pass-inside.ensures

pub returns-clause-answered : goal.returns-clause-answered
returns-clause-answered g c =
    let p = c.pass.inside in
    rw (← c.pass.view_is) (was-appended-at g.N.Naming.lock.origin g.N.Naming.lock.base p.client p.front c.add.new.token p.seen p.taken
    c.entries-pass-inside.result p.settings c.pass.invariant p.subscribed.keys p.denied c.counted-pass-inside.result c.args.ready.now
    (subst (λ (q : Passed). CanAppend (known_of q) c.args.ready.now) (sym c.pass.view_is) c.requires) c.add.ensures.lawful c.self.invariant.from c.count-known.result
    c.count.result c.in-Ok.decision c.in-Ok.ensures.adds (let is = c.count.ensures.count in omega arith) c.answer.result c.answer.ensures
    c.entries-pass-inside.ensures c.counted-pass-inside.ensures)
