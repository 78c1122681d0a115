use Rattle.std.proofs.Common.{◌≡◌, subst, rules}
use Rattle.journal_core.specs.Pairs.{AreNumbered}
use Rattle.journal_core.proofs.Witnessed.{least-hits}
use Rattle.journal_core.proofs.journal.Journal.witness.Goals as goal

-- the pair that an append answers is of an observation and a commit that clash
pub witness_of-requires-clause-hit : goal.witness_of-requires-clause-hit
witness_of-requires-clause-hit g c =
    let commits : c.commits.result.now ≡ c.args.self.now.commits = search rules in
    let based : c.as_slice.result.now ≡ c.args.ready.now.based = search rules in
    let numbered : AreNumbered c.commits.result.now = rw c.commits.ensures.commits c.commits.ensures.numbered in
    rw (commits, based)
    (least-hits c.args.self.now.shards c.args.ready.now.fronts c.args.ready.now.based c.args.self.now.commits c.args.found.now
    (subst AreNumbered commits numbered) c.requires.found)
