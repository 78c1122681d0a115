use Rattle.std.proofs.lemmas.Result.{on_ok_weaker}
use Rattle.local_world.proofs.Holding.{shard-there, held-there, held-set, risen-set, front-within, fronts-moved}
use Rattle.local_world.proofs.following.follow_at.Goals as goal

pub follow_to-requires-clause-held : goal.follow_to-requires-clause-held
follow_to-requires-clause-held c =
    held-there c.args.journal.now.commits c.args.settings.now c.args.shards.now.items c.requires.held c.args.place c.index_mut.result.now
    c.requires.there c.index_mut.ensures.value

pub returns-clause-held : goal.returns-clause-held
returns-clause-held c =
    held-set c.args.journal.now.commits c.args.settings.now c.args.shards.now.items c.requires.held c.args.place c.index_mut.result.now c.follow_to.new.shard
    (shard-there c.args.journal.now.commits c.args.settings.now c.args.shards.now.items c.requires.held c.args.place c.index_mut.result.now
    c.requires.there c.index_mut.ensures.value)
    c.follow_to.ensures.held

pub returns-clause-risen : goal.returns-clause-risen
returns-clause-risen c =
    risen-set c.args.journal.now.commits c.args.settings.now c.args.shards.now.items c.requires.held c.args.place c.index_mut.result.now c.follow_to.new.shard
    (shard-there c.args.journal.now.commits c.args.settings.now c.args.shards.now.items c.requires.held c.args.place c.index_mut.result.now
    c.requires.there c.index_mut.ensures.value)
    c.follow_to.ensures.held c.follow_to.ensures.never_back

pub returns-clause-within : goal.returns-clause-within
returns-clause-within c =
    front-within c.args.journal.now.commits c.args.settings.now c.args.shards.now.items c.requires.held c.args.place c.index_mut.result.now
    c.follow_to.new.shard
    (shard-there c.args.journal.now.commits c.args.settings.now c.args.shards.now.items c.requires.held c.args.place c.index_mut.result.now
    c.requires.there c.index_mut.ensures.value)
    c.follow_to.ensures.held c.args.to c.follow_to.ensures.within

pub returns-clause-ok : goal.returns-clause-ok
returns-clause-ok c =
    on_ok_weaker c.follow_to.result
    (fronts-moved c.args.journal.now.commits c.args.settings.now c.args.shards.now.items c.requires.held c.args.place c.index_mut.result.now
    c.follow_to.new.shard
    (shard-there c.args.journal.now.commits c.args.settings.now c.args.shards.now.items c.requires.held c.args.place c.index_mut.result.now
    c.requires.there c.index_mut.ensures.value)
    c.follow_to.ensures.held c.args.to)
    c.follow_to.ensures.ok
