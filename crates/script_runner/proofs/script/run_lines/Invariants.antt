use Rattle.std.proofs.Common.{◌≡◌, ◌⊎◌}
use Rattle.dio_core.specs.declared.line.TheConstants.{NEWLINE}
use Rattle.dio_core.specs.Sinks.{IsPassedOn}
use Rattle.dio_core.specs.Sources.{IsAhead}
use Rattle.script_runner.specs.Worlds.{world_of, Stands}
use Rattle.script_runner.specs.code.Turns.{moment, Plays}
use Rattle.script_runner.proofs.script.run_lines.Given as goal

-- so many lines were played, the world stands, answers are passed on unless a line is ahead, and no call has failed
abbrev pub invariant-loop : goal.invariant-loop
invariant-loop g l = record {
  stands : Stands (world_of l.script);
  plays : Plays l.fn.settings l.counter (g.S.Source.left l.fn.source) (g.W.Sink.taken l.fn.sink)
      (moment (world_of l.script) (g.S.Source.left l.source) (g.W.Sink.taken l.sink));
  passed : (l.counter ≡ 0) ⊎ (IsAhead NEWLINE (g.S.Source.left l.source) ⊎ IsPassedOn (g.W.Sink.taken l.sink) (g.W.Sink.passed l.sink));
  reads : g.S.Source.read_faults l.source ≡ g.S.Source.read_faults l.fn.source;
  writes : g.W.Sink.write_faults l.sink ≡ g.W.Sink.write_faults l.fn.sink;
}
