use Rattle.std.proofs.Common.{◌≡◌, ◌≤◌, ◌+◌, drop}
use Rattle.std.specs.Map.{keys_of}
use Rattle.std.specs.List.Sorted.{IsStrictlySortedBy}
use Rattle.rdt_types.specs.Addresses.{address_cmp}
use Rattle.journal_core.specs.Holds.{disturbs_some}
use Rattle.hold_core.specs.Books.{met_in}
use Rattle.hold_core.proofs.watched.is_hit_by_some.Given as goal

-- none of the deltas so far disturbs the hold, and a step is left for each observation that one of the others meets
abbrev pub invariant-loop-address : goal.invariant-loop-address
invariant-loop-address g l = record {
  rising : IsStrictlySortedBy address_cmp (keys_of (drop l.address-index l.deltas));
  same : disturbs_some (drop l.address-index l.deltas) l.hold.observations ≡ disturbs_some l.fn.deltas l.fn.hold.observations;
  steps : l.steps + met_in (drop l.address-index l.deltas) l.hold.observations ≤ l.fn.steps + met_in l.fn.deltas l.fn.hold.observations;
}
