use Rattle.journal_file.proofs.Chained.{continued-read}
use Rattle.journal_file.proofs.Legal.{continued-legal, continued-numbered, continued-kinds, continued-rising, continued-clients}
use Rattle.journal_file.proofs.chain.CommitChain.into_taker.Goals as goal

pub returns-clause-read : goal.returns-clause-read
returns-clause-read g c = continued-read (g.T.CommitTaker.commits c.self.inside.taker) c.self.invariant.continued

pub returns-clause-legal : goal.returns-clause-legal
returns-clause-legal g c = continued-legal (g.T.CommitTaker.commits c.self.inside.taker) c.self.invariant.continued

pub returns-clause-numbered : goal.returns-clause-numbered
returns-clause-numbered g c = continued-numbered (g.T.CommitTaker.commits c.self.inside.taker) c.self.invariant.continued

pub returns-clause-kinds : goal.returns-clause-kinds
returns-clause-kinds g c = continued-kinds (g.T.CommitTaker.commits c.self.inside.taker) c.self.invariant.continued

pub returns-clause-rising : goal.returns-clause-rising
returns-clause-rising g c = continued-rising (g.T.CommitTaker.commits c.self.inside.taker) c.self.invariant.continued

pub returns-clause-clients : goal.returns-clause-clients
returns-clause-clients g c = continued-clients (g.T.CommitTaker.commits c.self.inside.taker) c.self.invariant.continued
