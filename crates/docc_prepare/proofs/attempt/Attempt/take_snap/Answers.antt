use Rattle.docc_prepare.proofs.Pauses.{snaps_keep}
use Rattle.docc_prepare.proofs.attempt.Attempt.take_snap.Goals as goal

pub returns-clause-pauses : goal.returns-clause-pauses
returns-clause-pauses c = snaps_keep c.insert.result c.args.self.now c.insert.new.self c.args.address c.args.snap c.requires.next c.insert.ensures.ok
