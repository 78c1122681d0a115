use Rattle.std.proofs.Common.{◌==◌}
use Rattle.rdt_types.specs.Shards.{shard_of}
use Rattle.journal_relay.proofs.Tails.{part-is-tail}
use Rattle.journal_relay.proofs.parts.part_in_shard.Goals as goal

pub invariant_of-result : goal.invariant_of-result
invariant_of-result c =
    let tail = c.args.tail.now in
    record {
      in_order = rw (c.in_ok-changes.ensures, c.lend.ensures)
          (part-is-tail (λ change. shard_of change.address c.args.shards == c.args.shard) tail.from tail.to tail.changes tail.in_order);
    }
