use Rattle.journal_file.proofs.Chained.{IsChain-behind}
use Rattle.journal_file.proofs.chain.CommitChain.take_commit.Goals as goal

-- where the commit was taken, it is counted
pub invariant_of-self-2 : goal.invariant_of-self-2
invariant_of-self-2 g c =
    IsChain-behind c.self.inside.counts c.take.result c.in-Some.counts c.follow.new.counts (g.T.CommitTaker.commits c.self.inside.taker)
    (g.T.CommitTaker.commits c.follow.new.taker) c.args.commit c.in_ok-took.took
    c.self.invariant c.take.ensures.value c.in-Some.is c.requires.recorded c.in_ok-took.ensures.follows c.in_ok-took.ensures.takes
