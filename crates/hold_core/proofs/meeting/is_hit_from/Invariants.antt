use Rattle.std.proofs.Common.{◌≡◌, ◌≤◌, ◌+◌, count_by, drop}
use Rattle.std.specs.List.{list_any}
use Rattle.hold_core.specs.code.Index.{is_hit_at, is_met_at}
use Rattle.hold_core.proofs.meeting.is_hit_from.Given as goal

-- nothing so far is hit, and a step is left for each of the other places that is at the address
abbrev pub invariant-loop-place : goal.invariant-loop-place
invariant-loop-place g l = record {
  hit : list_any (is_hit_at l.observations (l.address, l.delta)) (drop l.place-index l.places)
      ≡ list_any (is_hit_at l.fn.observations (l.fn.address, l.fn.delta)) l.fn.places;
  steps : l.steps + count_by (is_met_at l.observations l.address) (drop l.place-index l.places)
      ≤ l.fn.steps + count_by (is_met_at l.fn.observations l.fn.address) l.fn.places;
}
