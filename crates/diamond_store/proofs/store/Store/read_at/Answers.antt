use Rattle.std.proofs.Common.{◌≤◌, ℕ, sym, subst}
use Rattle.docc_prepare.specs.Calls.{Call}
use Rattle.diamond_store.specs.Passes.{Passed}
use Rattle.diamond_store.specs.Reading.{ReadsBack}
use Rattle.diamond_store.proofs.Called.{was-read-at}
use Rattle.diamond_store.proofs.Known.{failed}
use Rattle.diamond_store.proofs.store.Store.read_at.Goals as goal

pub returns-in_default : goal.returns-in_default
returns-in_default g c =
    let p = c.pass.inside in
    let t = c.read_at-read in
    rw (← c.pass.view_is) (failed g.N.Naming.lock.origin g.N.Naming.lock.base p.client p.front t.new.token p.seen p.taken p.settings c.pass.invariant
    t.ensures.later t.ensures.lawful p.subscribed.keys p.denied (Call.read_at c.args.address.now c.args.number))

pub returns : goal.returns
returns g c =
    let p = c.pass.inside in
    let t = c.read_at-read in
    rw (← c.pass.view_is) (was-read-at g.N.Naming.lock.origin g.N.Naming.lock.base p.client p.front t.new.token p.seen p.taken p.settings c.pass.invariant
    t.ensures.later t.ensures.lawful p.subscribed.keys p.denied c.args.address.now c.args.number c.in-Ok.answer
    (subst (λ (q : Passed). c.args.number ≤ q.seen) (sym c.pass.view_is) c.requires.seen)
    (subst (λ (w : ℕ). ReadsBack t.new.token.seen w c.args.address.now c.args.number c.in-Ok.answer) (sym c.pass.invariant.settings.window)
    c.in-Ok.ensures.reads))
