use Rattle.std.proofs.Common.{subst, arith}
use Rattle.history_lock.specs.declared.known.Known.{Known}
use Rattle.history_lock.specs.Tokens.{IsLater}
use Rattle.txn_lang.specs.declared.commit.Commit.{Commit}
use Rattle.diamond_store.specs.Appending.{client_of}
use Rattle.diamond_store.proofs.Known.{learns, seen-within}
use Rattle.diamond_store.proofs.store.Store.join.Goals as goal

pub returns-in-Author-clause-learns : goal.returns-in-Author-clause-learns
returns-in-Author-clause-learns g c =
    let p = c.pass.inside in
    let later = subst (λ (k : Known Commit). IsLater client_of k c.meet.new.mine) c.split-token.ensures.unchanged c.meet.ensures.later in
    rw (← c.pass.view_is) (learns g.N.Naming.lock.origin g.N.Naming.lock.base p.client p.front c.meet.new.mine p.seen p.taken p.settings c.pass.invariant
    later c.meet.ensures.lawful p.subscribed.keys p.denied p.seen (omega arith)
    (seen-within g.N.Naming.lock.origin g.N.Naming.lock.base p.client p.front c.meet.new.mine p.seen p.taken p.settings c.pass.invariant
    later c.meet.ensures.lawful p.subscribed.keys p.denied))

pub returns-in-Spent-clause-learns : goal.returns-in-Spent-clause-learns
returns-in-Spent-clause-learns g c =
    let p = c.pass.inside in
    let t = c.meet-in-Spent in
    let later = subst (λ (k : Known Commit). IsLater client_of k t.new.mine) c.split-token.ensures.unchanged t.ensures.later in
    rw (← c.pass.view_is) (learns g.N.Naming.lock.origin g.N.Naming.lock.base p.client p.front t.new.mine p.seen p.taken p.settings c.pass.invariant
    later t.ensures.lawful p.subscribed.keys p.denied p.seen (omega arith)
    (seen-within g.N.Naming.lock.origin g.N.Naming.lock.base p.client p.front t.new.mine p.seen p.taken p.settings c.pass.invariant
    later t.ensures.lawful p.subscribed.keys p.denied))
