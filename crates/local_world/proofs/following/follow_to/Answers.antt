use Rattle.std.proofs.Common.{arith}
use Rattle.journal_core.specs.Tails.{tail_of}
use Rattle.local_world.proofs.Holding.{tail-kinds, is_next, held-followed}
use Rattle.local_world.proofs.following.follow_to.Goals as goal

pub follow_lent-requires-clause-kinds : goal.follow_lent-requires-clause-kinds
follow_lent-requires-clause-kinds c =
    tail-kinds c.args.journal.now.commits c.args.journal.now.shards c.args.place c.front-front.result c.args.to
    (tail_of c.lend_tail-tail.result) c.requires.legal
    c.lend_tail-tail.ensures

pub returns-clause-held : goal.returns-clause-held
returns-clause-held c =
    let journal = c.args.journal.now.commits in
    let settings = c.args.settings.now in
    held-followed journal settings c.args.place c.args.shard.now c.follow_lent.new.self c.requires.held c.follow_lent.ensures.same
    (let ends = c.lend_tail-tail.ensures.ends in omega (arith, c.follow_lent.ensures.within, c.requires.within))
    (c.follow_lent.ensures.holds journal
    (is_next journal settings c.args.place c.args.journal.now.shards c.front-front.result c.args.to c.args.shard.now (tail_of c.lend_tail-tail.result)
    c.requires.legal c.requires.held c.requires.all_shards c.front-front.ensures c.requires.within c.lend_tail-tail.ensures))
