use Rattle.std.proofs.Common.{◌≡◌, ◌-◌}
use Rattle.record_code.specs.Fields.{each_at}
use Rattle.record_code.proofs.Loop.{with_front}
use Rattle.remote_wire.proofs.part.take_each.Given as goal

abbrev pub invariant-loop : goal.invariant-loop
invariant-loop g l =
    with_front l.parts.items (each_at g.P.Part.read_at (l.count - l.counter) l.rest) ≡ each_at g.P.Part.read_at l.count
    l.bytes
