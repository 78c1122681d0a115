use Rattle.std.proofs.Common.{arith}
use Rattle.diamond_store.proofs.Known.{learns, seen-within}
use Rattle.journal_relay.proofs.Prefixes.{length-prefix}
use Rattle.diamond_store.proofs.store.Store.meet.Goals as goal

pub returns-clause-learns : goal.returns-clause-learns
returns-clause-learns g c =
    let p = c.pass.inside in
    let t = c.meet in
    let within = seen-within g.N.Naming.lock.origin g.N.Naming.lock.base p.client p.front t.new.mine p.seen p.taken p.settings c.pass.invariant
    t.ensures.later t.ensures.lawful p.subscribed.keys p.denied in
    let other = length-prefix c.args.token.seen t.new.mine.seen t.ensures.begins_other in
    let is = c.entries-length.ensures in
    let greater = c.max-pass-inside.ensures in
    rw (← c.pass.view_is) (learns g.N.Naming.lock.origin g.N.Naming.lock.base p.client p.front t.new.mine p.seen p.taken p.settings c.pass.invariant
    t.ensures.later t.ensures.lawful p.subscribed.keys p.denied c.max-pass-inside.result (omega arith) (omega arith))
