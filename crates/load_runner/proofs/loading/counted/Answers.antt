use Rattle.std.proofs.Common.{refl}
use Rattle.load_runner.proofs.Told.{line-counted}
use Rattle.load_runner.proofs.loading.counted.Goals as goal

-- it is counted only where it has read its whole script
pub returns : goal.returns
returns c =
    let ended = (c.in_ok-commits.ensures c.in_ok-commits.commits).0 refl in
    line-counted c.args.settings.now c.args.count c.in_ok-commits.commits c.args.text.now _ _ _ _ _ c.run_counted-status.result.1 c.load_line.result
    c.in_ok-source.ensures.left c.in_ok-sink.ensures.taken c.taken.ensures (c.run_counted-status.ensures.keeps.whole ended.0) ended.1
    c.run_counted-status.ensures.commits c.load_line.ensures
