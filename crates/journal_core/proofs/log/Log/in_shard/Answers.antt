use Rattle.std.proofs.Common.{◌==◌}
use Rattle.rdt_types.specs.Shards.{shard_of}
use Rattle.journal_core.specs.Changes.{changes}
use Rattle.journal_core.proofs.Rising.{changes-rise, rises-filter}
use Rattle.journal_core.proofs.log.Log.in_shard.Goals as goal

-- some of the changes of numbered commits are in order
pub returns-clause-rises : goal.returns-clause-rises
returns-clause-rises c =
    let log = c.self.inside in
    rw c.in_shard.ensures.changes (rw c.as_slice.ensures.value (rw (c.self.invariant.theirs.theirs c.args.shard)
    (rises-filter (λ change. shard_of change.address log.shards == c.args.shard) 0 (changes log.commits.items)
    (changes-rise 0 log.commits.items c.self.invariant.numbered))))
