use Rattle.std.proofs.Common.{◌≡◌, ◌-◌, ◌<◌, ◌≤◌, length, min}
use Rattle.dio_core.specs.declared.line.TheConstants.{LONGEST_LINE, LONGEST_RUN, PIECE}
use Rattle.dio_core.specs.Sources.{with_prefix}
use Rattle.dio_core.specs.code.Lines.{Reads}
use Rattle.dio_core.proofs.line.rest_of_line.Given as goal

-- a line has begun, of which as much is kept as may be answered
abbrev pub invariant-loop-taken : goal.invariant-loop-taken
invariant-loop-taken g l = record {
  reads : Reads l.taken l.kept.items (with_prefix l.fn.begun (g.S.Source.left l.fn.source)) (g.S.Source.left l.source);
  long : length l.kept.items ≡ min l.taken LONGEST_LINE;
  some : 0 < l.taken;
  most : l.taken ≤ LONGEST_RUN;
  piece : length l.piece ≡ PIECE;
  written : g.S.Source.written l.source ≡ g.S.Source.written l.fn.source;
  counted : g.S.Source.read_faults l.source ≡ g.S.Source.read_faults l.fn.source;
}

abbrev pub decreases-loop-taken : goal.decreases-loop-taken
decreases-loop-taken g l = LONGEST_RUN - l.taken
