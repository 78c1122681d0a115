use Rattle.std.proofs.Common.{◌<◌, length, arith}
use Rattle.store_tests.proofs.Appending.{own-counted}
use Rattle.store_tests.proofs.attempts.appending.next_seq.Goals as goal

pub loop-number-preserved : goal.loop-number-preserved
loop-number-preserved g c =
    let within : c.loop-number.number < length c.args.journal.now.commits = omega (arith, c.loop-number-test.true, c.length-end.ensures) in
    let step = own-counted c.args.client c.loop-number.number c.counted-seq.result c.args.journal.now.commits _ within
    c.commit.ensures c.counted-seq.ensures.own in
    (omega (arith, step, c.loop-number.invariant.0), omega (arith, c.loop-number.invariant.1, c.counted-seq.ensures.one))
