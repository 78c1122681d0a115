use Rattle.journal_file.specs.Commits.{CommitsFollow}
use Rattle.journal_file.proofs.Held.{stands-commits}
use Rattle.journal_file.proofs.keeper.CommitKeeper.stands.Goals as goal

pub returns-clause-reads : goal.returns-clause-reads
returns-clause-reads g c = λ journal keeps.
    (stands-commits c.self.inside.file c.args.self.now c.self.view_is c.self.invariant (c.stands.ensures CommitsFollow) journal keeps).0

pub returns-clause-leaves : goal.returns-clause-leaves
returns-clause-leaves g c = λ journal keeps.
    (stands-commits c.self.inside.file c.args.self.now c.self.view_is c.self.invariant (c.stands.ensures CommitsFollow) journal keeps).1
