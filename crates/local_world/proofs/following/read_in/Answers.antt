use Rattle.local_world.proofs.Holding.{place-below, is-in, read-base, read-moved, read-value}
use Rattle.local_world.proofs.following.read_in.Goals as goal

pub follow_at-requires-clause-there : goal.follow_at-requires-clause-there
follow_at-requires-clause-there c = place-below c.args.settings.now c.args.address.now c.shard_of-place.result c.shard_of-place.ensures

pub read-requires : goal.read-requires
read-requires c =
    is-in c.args.journal.now.commits c.args.settings.now c.args.shards.now.items c.follow_at.new.shards.items c.requires.held c.follow_at.ensures.held
    c.shard_of-place.result c.args.seen c.args.address.now c.shard_of-place.ensures
    (place-below c.args.settings.now c.args.address.now c.shard_of-place.result c.shard_of-place.ensures)
    c.in_ok-follow_at.ensures.ok c.index.result.now c.index.ensures

pub returns-clause-base : goal.returns-clause-base
returns-clause-base c =
    read-base c.args.journal.now.commits c.args.settings.now c.args.shards.now.items c.follow_at.new.shards.items c.requires.held c.follow_at.ensures.held
    c.shard_of-place.result c.args.seen c.args.address.now c.shard_of-place.ensures
    (place-below c.args.settings.now c.args.address.now c.shard_of-place.result c.shard_of-place.ensures)
    c.in_ok-follow_at.ensures.ok c.index.result.now c.index.ensures
    c.read.result c.read.ensures.base

pub returns-clause-value : goal.returns-clause-value
returns-clause-value c =
    read-value c.args.journal.now.commits c.args.settings.now c.args.shards.now.items c.follow_at.new.shards.items c.requires.held c.follow_at.ensures.held
    c.shard_of-place.result c.args.seen c.args.address.now c.shard_of-place.ensures
    (place-below c.args.settings.now c.args.address.now c.shard_of-place.result c.shard_of-place.ensures)
    c.in_ok-follow_at.ensures.ok c.index.result.now c.index.ensures
    c.read.result c.read.ensures.base c.read.ensures.value

pub returns-clause-ok : goal.returns-clause-ok
returns-clause-ok c =
    read-moved c.args.journal.now.commits c.args.settings.now c.args.shards.now.items c.follow_at.new.shards.items c.requires.held c.follow_at.ensures.held
    c.shard_of-place.result c.args.seen c.args.address.now c.shard_of-place.ensures
    (place-below c.args.settings.now c.args.address.now c.shard_of-place.result c.shard_of-place.ensures)
    c.in_ok-follow_at.ensures.ok c.index.result.now c.index.ensures
    c.read.result c.read.ensures.base
