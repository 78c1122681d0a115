use Rattle.std.proofs.Common.{◌≡◌, ◌-◌, ◌≤◌, length, take}
use Rattle.dio_core.specs.Sinks.{with_more, PassesOn}
use Rattle.dio_core.proofs.sink.write_all.Given as goal

-- what is done of the bytes has been taken
abbrev pub invariant-loop-done : goal.invariant-loop-done
invariant-loop-done g l = record {
  within : l.done ≤ length l.bytes;
  taken : g.W.Sink.taken l.sink ≡ with_more (g.W.Sink.taken l.fn.sink) (take l.done l.bytes);
  passes : PassesOn (g.W.Sink.taken l.sink) (g.W.Sink.passed l.fn.sink) (g.W.Sink.passed l.sink);
  unread : g.W.Sink.unread l.sink ≡ g.W.Sink.unread l.fn.sink;
  counted : g.W.Sink.write_faults l.sink ≡ g.W.Sink.write_faults l.fn.sink;
}

abbrev pub decreases-loop-done : goal.decreases-loop-done
decreases-loop-done g l = length l.bytes - l.done
