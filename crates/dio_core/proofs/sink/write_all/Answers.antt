use Rattle.std.proofs.Common.{arith, take, drop}
use Rattle.std.proofs.lemmas.Grind.{common_steps}
use Rattle.dio_core.proofs.Sinks.{with_more-take, PassesOn-then}
use Rattle.dio_core.proofs.sink.write_all.Goals as goal

pub loop-done-preserved : goal.loop-done-preserved
loop-done-preserved g c =
    let taken = g.W.Sink.taken in
    let passed = g.W.Sink.passed in record {
      within = grind (arith, common_steps);
      taken = with_more-take c.loop-done.done c.in-Bytes.count c.args.bytes.now _ _ _ c.loop-done.invariant.taken
          (grind (arith, common_steps));
      passes = PassesOn-then (taken c.loop-done.sink) (taken c.write.new.self)
          (take c.in-Bytes.count (drop c.loop-done.done c.args.bytes.now))
          (passed c.args.sink.now) (passed c.loop-done.sink) (passed c.write.new.self)
          (grind (arith, common_steps)) c.loop-done.invariant.passes c.write.ensures.passes;
      unread = grind (arith, common_steps);
      counted = grind (arith, common_steps);
    }
