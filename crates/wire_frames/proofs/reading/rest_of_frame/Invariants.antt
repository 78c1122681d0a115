use Rattle.std.proofs.Common.{◌≡◌, ◌-◌, ◌≤◌, length}
use Rattle.dio_core.specs.Sources.{with_prefix}
use Rattle.wire_frames.proofs.reading.rest_of_frame.Given as goal

-- what is kept was taken, and is no more than the frame has
abbrev pub invariant-loop-kept : goal.invariant-loop-kept
invariant-loop-kept g l = record {
  taken : g.R.Source.left l.fn.source ≡ with_prefix l.kept.items (g.R.Source.left l.source);
  within : length l.kept.items ≤ l.fn.length;
  written : g.R.Source.written l.source ≡ g.R.Source.written l.fn.source;
  counted : g.R.Source.read_faults l.source ≡ g.R.Source.read_faults l.fn.source;
}

abbrev pub decreases-loop-kept : goal.decreases-loop-kept
decreases-loop-kept g l = l.fn.length - length l.kept.items
