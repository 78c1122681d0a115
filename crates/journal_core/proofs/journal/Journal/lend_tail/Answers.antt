use Rattle.std.proofs.Common.{◌==◌}
use Rattle.rdt_types.specs.Shards.{shard_of}
use Rattle.journal_core.specs.Changes.{changes}
use Rattle.journal_core.proofs.Rising.{some-are-tail, changes-rise}
use Rattle.journal_core.proofs.journal.Journal.lend_tail.Goals as goal

-- some of the changes of numbered commits are a tail
pub invariant_of-result : goal.invariant_of-result
invariant_of-result g c =
    let log = c.self.inside.log in
    record {
      in_order = rw (c.of-changes.ensures, c.between_in_shard.ensures.changes)
          (some-are-tail (λ change. shard_of change.address log.shards == c.args.shard) c.args.from c.args.to (changes log.commits) c.requires.order
          (changes-rise 0 log.commits c.between_in_shard.ensures.numbered));
    }
