use Rattle.std.proofs.Common.{◌≤◌, ℕ, sym, subst, arith}
use Rattle.diamond_store.proofs.Called.{refreshed}
use Rattle.diamond_store.proofs.Known.{learns, seen-within}
use Rattle.diamond_store.proofs.store.Store.length.Goals as goal

pub returns-clause-answered : goal.returns-clause-answered
returns-clause-answered g c =
    let p = c.pass.inside in
    let t = c.length-length in
    rw (← c.pass.view_is) (refreshed g.N.Naming.lock.origin g.N.Naming.lock.base p.client p.front t.new.front p.seen p.taken p.settings c.pass.invariant
    t.ensures.later t.ensures.lawful p.subscribed.keys p.denied t.result t.ensures.length
    (subst (λ (n : ℕ). p.seen ≤ n) (sym t.ensures.length) (seen-within g.N.Naming.lock.origin g.N.Naming.lock.base p.client p.front t.new.front p.seen
    p.taken p.settings c.pass.invariant t.ensures.later t.ensures.lawful p.subscribed.keys p.denied)))

pub returns-clause-learns : goal.returns-clause-learns
returns-clause-learns g c =
    let p = c.pass.inside in
    let t = c.length-length in
    let is = t.ensures.length in
    let within = seen-within g.N.Naming.lock.origin g.N.Naming.lock.base p.client p.front t.new.front p.seen p.taken p.settings c.pass.invariant
    t.ensures.later t.ensures.lawful p.subscribed.keys p.denied in
    rw (← c.pass.view_is) (learns g.N.Naming.lock.origin g.N.Naming.lock.base p.client p.front t.new.front p.seen p.taken p.settings c.pass.invariant
    t.ensures.later t.ensures.lawful p.subscribed.keys p.denied t.result (omega arith) (omega arith))
