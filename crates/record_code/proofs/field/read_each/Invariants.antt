use Rattle.std.proofs.Common.{◌≡◌, ◌-◌}
use Rattle.record_code.specs.Fields.{each_at}
use Rattle.record_code.proofs.Loop.{with_front}
use Rattle.record_code.proofs.field.read_each.Given as goal

abbrev pub invariant-loop : goal.invariant-loop
invariant-loop g l =
    with_front l.fields.items (each_at (g.F.Field.read_at l.version) (l.count - l.counter) l.rest) ≡ each_at
    (g.F.Field.read_at l.version) l.count l.bytes
