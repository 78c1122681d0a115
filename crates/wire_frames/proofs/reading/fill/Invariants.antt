use Rattle.std.proofs.Common.{◌≡◌, ◌-◌, length}
use Rattle.wire_frames.specs.code.Pieces.{Fronts}
use Rattle.wire_frames.proofs.reading.fill.Given as goal

-- what is filled of the buffer was taken
abbrev pub invariant-loop-count : goal.invariant-loop-count
invariant-loop-count g l = record {
  fronts : Fronts l.count l.buf (g.R.Source.left l.fn.source) (g.R.Source.left l.source);
  size : length l.buf ≡ length l.fn.buf;
  written : g.R.Source.written l.source ≡ g.R.Source.written l.fn.source;
  counted : g.R.Source.read_faults l.source ≡ g.R.Source.read_faults l.fn.source;
}

abbrev pub decreases-loop-count : goal.decreases-loop-count
decreases-loop-count g l = length l.buf - l.count
