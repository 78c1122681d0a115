use Rattle.std.proofs.Common.{refl}
use Rattle.journal_file.proofs.Chained.{AreCounted-more}
use Rattle.journal_file.proofs.counts.Counts.add.Goals as goal

pub returns : goal.returns
returns c = λ before are next. AreCounted-more before c.args.commit.now c.args.self.now _ are next c.in_ok-insert.ensures.ok refl
