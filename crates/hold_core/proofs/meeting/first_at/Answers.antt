use Rattle.std.proofs.Common.{rules}
use Rattle.std.specs.Ordering.{is_lt}
use Rattle.std.proofs.lemmas.List.Sorted.{IsPartitionPoint-from_clause}
use Rattle.hold_core.specs.code.Index.{order_at}
use Rattle.hold_core.proofs.Found.{parted}
use Rattle.hold_core.proofs.meeting.first_at.Goals as goal

pub returns : goal.returns
returns c =
    let observations = c.args.observations.now in
    let address = c.args.address.now in
    let places = c.args.places.now in
    let point = c.partition_point in (
      point.ensures.bound,
      IsPartitionPoint-from_clause (λ place. is_lt (order_at observations address place)) places point.result point.ensures.partitioned
          (parted observations address places c.requires) (λ a r f h. search rules),
    )
