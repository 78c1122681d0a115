use Rattle.std.specs.BTreeMap.{is_at}
use Rattle.rdt_types.specs.Addresses.{address_cmp}
use Rattle.journal_relay.proofs.Tails.{part-is-tail}
use Rattle.journal_relay.proofs.parts.part_at.Goals as goal

pub invariant_of-result : goal.invariant_of-result
invariant_of-result c =
    let tail = c.args.tail.now in
    record {
      in_order = rw (c.in_ok-changes.ensures, c.lend.ensures)
          (part-is-tail (λ change. is_at (address_cmp c.args.address.now) change.address) tail.from tail.to tail.changes tail.in_order);
    }
