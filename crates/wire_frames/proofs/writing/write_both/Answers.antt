use Rattle.wire_frames.proofs.Written.{prefix_second}
use Rattle.wire_frames.proofs.writing.write_both.Goals as goal

-- the second is written up to a fault
pub returns-clause-prefix : goal.returns-clause-prefix
returns-clause-prefix g c =
    let taken = g.W.Sink.taken in
    prefix_second c.args.first.now c.args.second.now (taken c.args.sink.now) (taken c.write_all.new.sink) (taken c.write_all-2.new.sink)
    c.if-not-write_all.ensures.all c.write_all-2.ensures.prefix
