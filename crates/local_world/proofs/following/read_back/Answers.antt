use Rattle.std.proofs.Common.{◌≡◌, IfOk, sym, subst, arith}
use Rattle.docc_prepare.specs.Calls.{value_answered}
use Rattle.local_world.specs.Answering.{back_from}
use Rattle.local_world.proofs.Holding.{on_ok, place-below, is-in, reached-top, moved-top, back-told}
use Rattle.local_world.proofs.following.read_back.Goals as goal

pub follow_at-requires-clause-there : goal.follow_at-requires-clause-there
follow_at-requires-clause-there c = place-below c.args.settings.now c.args.address.now c.shard_of-place.result c.shard_of-place.ensures

pub read_at-requires-clause-here : goal.read_at-requires-clause-here
read_at-requires-clause-here c =
    is-in c.args.journal.now.commits c.args.settings.now c.args.shards.now.items c.follow_at.new.shards.items c.requires.held c.follow_at.ensures.held
    c.shard_of-place.result c.args.number c.args.address.now c.shard_of-place.ensures
    (place-below c.args.settings.now c.args.address.now c.shard_of-place.result c.shard_of-place.ensures)
    c.in_ok-follow_at.ensures.ok c.index.result.now c.index.ensures

pub read_at-requires-clause-within : goal.read_at-requires-clause-within
read_at-requires-clause-within c =
    let reached = reached-top c.args.journal.now.commits c.args.settings.now c.args.shards.now.items c.follow_at.new.shards.items c.requires.held
    c.follow_at.ensures.held
    c.shard_of-place.result c.args.number c.args.address.now c.shard_of-place.ensures
    (place-below c.args.settings.now c.args.address.now c.shard_of-place.result c.shard_of-place.ensures)
    c.in_ok-follow_at.ensures.ok c.index.result.now c.index.ensures
    in omega arith

pub returns-clause-moved : goal.returns-clause-moved
returns-clause-moved c =
    on_ok c.value_told.result
    (moved-top c.args.journal.now.commits c.args.settings.now c.args.shards.now.items c.follow_at.new.shards.items c.requires.held c.follow_at.ensures.held
    c.shard_of-place.result c.args.number c.args.address.now c.shard_of-place.ensures
    (place-below c.args.settings.now c.args.address.now c.shard_of-place.result c.shard_of-place.ensures)
    c.in_ok-follow_at.ensures.ok c.index.result.now c.index.ensures)

pub returns-clause-answer : goal.returns-clause-answer
returns-clause-answer c =
    subst (λ t. IfOk t (λ answer. value_answered answer
    ≡ back_from c.args.journal.now.commits c.args.settings.now c.args.shards.now.items c.args.address.now c.args.number)) (sym c.value_told.ensures)
    (back-told c.args.journal.now.commits c.args.settings.now c.args.shards.now.items c.follow_at.new.shards.items c.requires.held c.follow_at.ensures.held
    c.shard_of-place.result c.args.number c.args.address.now c.shard_of-place.ensures
    (place-below c.args.settings.now c.args.address.now c.shard_of-place.result c.shard_of-place.ensures)
    c.in_ok-follow_at.ensures.ok c.index.result.now c.index.ensures c.read_at.result c.read_at.ensures)
