use Rattle.std.proofs.Common.{◌==◌}
use Rattle.rdt_types.specs.Shards.{shard_of}
use Rattle.journal_core.specs.Changes.{changes}
use Rattle.journal_core.proofs.Rising.{some-are-tail, changes-rise}
use Rattle.journal_core.proofs.tails.tail_of_shard.Goals as goal

pub as_tail-requires : goal.as_tail-requires
as_tail-requires c =
    let log = c.args.log.now in
    rw (c.in_ok-changes.ensures, c.between_in_shard.ensures.changes)
    (some-are-tail (λ change. shard_of change.address log.shards == c.args.shard) c.args.from c.args.to (changes log.commits) c.requires
    (changes-rise 0 log.commits c.between_in_shard.ensures.numbered))
