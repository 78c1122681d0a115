use Rattle.journal_file.proofs.Held.{new-commits, none-doubted}
use Rattle.journal_file.proofs.keeper.CommitKeeper.new.Goals as goal

pub invariant_of-result : goal.invariant_of-result
invariant_of-result g c =
    (new-commits c.new.result c.args.end (g.D.Disk.state c.args.disk.now) c.new.ensures.state c.new.ensures.end c.new.ensures.sound
    c.requires.holds.0 c.requires.holds.1).0

pub returns-clause-keeps : goal.returns-clause-keeps
returns-clause-keeps g c = λ journal holds.
    (new-commits c.new.result c.args.end (g.D.Disk.state c.args.disk.now) c.new.ensures.state c.new.ensures.end c.new.ensures.sound
    journal holds).1

pub returns-clause-none_doubted : goal.returns-clause-none_doubted
returns-clause-none_doubted g c = none-doubted c.new.result c.new.ensures.sound
