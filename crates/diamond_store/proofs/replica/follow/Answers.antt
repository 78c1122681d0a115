use Rattle.std.proofs.Common.{arith}
use Rattle.diamond_store.specs.Numbers.{shards_in}
use Rattle.diamond_store.proofs.Followed.{tail-kinds, replicates-followed, replicates-later}
use Rattle.journal_relay.proofs.Prefixes.{length-prefix}
use Rattle.diamond_store.proofs.Sound.{lawful-sound}
use Rattle.diamond_store.proofs.replica.follow.Goals as goal

pub follow-requires-clause-kinds : goal.follow-requires-clause-kinds
follow-requires-clause-kinds g c =
    tail-kinds g.N.Naming.lock.base c.tail.new.token.seen (shards_in g.N.Naming.lock.origin) c.args.post.now.place c.front-from.result c.args.to c.in_ok-tail.tail
    (lawful-sound g.N.Naming.lock.base c.tail.new.token.seen c.tail.ensures.lawful) c.in_ok-tail.ensures.tail

pub returns-clause-holds : goal.returns-clause-holds
returns-clause-holds g c =
    let later = c.tail.ensures.later.seen in
    let seen = c.tail.new.token.seen in
    let longer = length-prefix c.args.post.now.token.seen seen later in
    let within = c.requires.within in
    replicates-followed g.N.Naming.lock.base g.N.Naming.lock.origin seen c.args.post.now.place
    (lawful-sound g.N.Naming.lock.base seen c.tail.ensures.lawful) c.front-from.result c.args.to c.args.post.now.shard c.follow.new.self c.in_ok-tail.tail
    (replicates-later g.N.Naming.lock.origin c.args.post.now.token.seen seen c.args.post.now.place c.args.post.now.shard c.requires.holds later)
    c.front-from.ensures (omega arith) c.in_ok-tail.ensures.tail c.follow.ensures.same c.follow.ensures.within c.follow.ensures.holds
