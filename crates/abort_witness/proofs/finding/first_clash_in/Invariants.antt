use Rattle.std.proofs.Common.{◌≡◌, ◌≤◌, ◌+◌, filter, length}
use Rattle.change_feed.specs.Lists.{listed, pieces_left}
use Rattle.abort_witness.specs.Pairs.{meets, first_clash}
use Rattle.abort_witness.proofs.finding.first_clash_in.Given as goal

-- no piece so far has a clash, and steps are left for what is left
abbrev pub invariant-loop-piece : goal.invariant-loop-piece
invariant-loop-piece g l = record {
  first : first_clash l.based (listed l.changes) ≡ first_clash l.fn.based (listed l.fn.changes);
  steps : l.steps + length (filter (meets l.based) (listed l.changes)) ≤ l.fn.steps + length (filter (meets l.fn.based) (listed l.fn.changes));
  few : l.steps + length (listed l.changes) ≤ l.fn.steps + length (listed l.fn.changes);
}

-- the pieces come to an end
abbrev pub decreases-loop-piece : goal.decreases-loop-piece
decreases-loop-piece g l = pieces_left l.changes
