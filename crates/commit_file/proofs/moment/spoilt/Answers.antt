use Rattle.std.proofs.Common.{sym, ◌∙◌}
use Rattle.commit_file.proofs.Spoilt.{untouched-more}
use Rattle.commit_file.proofs.moment.spoilt.Goals as goal

pub loop-from-preserved : goal.loop-from-preserved
loop-from-preserved c = record {
  long = c.spoil.ensures.long ∙ c.loop-from.invariant.long;
  stays = λ at untouched.
      let both = untouched-more c.loop-from.from-index c.args.ranges.now at c.loop-from-test.true untouched in
      c.spoil.ensures.stays at both.1 ∙ c.loop-from.invariant.stays at both.0;
}
