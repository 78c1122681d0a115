use Rattle.diamond_store.proofs.Decided.{on_ok}
use Rattle.diamond_store.proofs.Followed.{replicates-later}
use Rattle.diamond_store.proofs.replica.reach.Goals as goal

pub follow-followed-requires-clause-holds : goal.follow-followed-requires-clause-holds
follow-followed-requires-clause-holds g c =
    replicates-later g.N.Naming.lock.origin c.args.post.now.token.seen c.teach.new.other.seen c.args.post.now.place c.args.post.now.shard
    c.requires.holds c.teach.ensures.begins

pub returns-clause-told : goal.returns-clause-told
returns-clause-told g c =
    on_ok c.follow-followed.result _ (replicates-later g.N.Naming.lock.origin c.follow-followed.new.post.token.seen c.teach-2.new.other.seen
    c.args.post.now.place c.follow-followed.new.post.shard c.follow-followed.ensures.holds c.teach-2.ensures.knows)
