use Rattle.std.proofs.Common.{◌≡◌, map, Some, subst}
use Rattle.txn_lang.specs.States.{Journal}
use Rattle.record_code.specs.Payloads.{payload}
use Rattle.journal_file.specs.Commits.{commits_of}
use Rattle.journal_file.proofs.Chained.{continued-read}
use Rattle.journal_file.proofs.chain.CommitChain.is_read.Goals as goal

pub returns : goal.returns
returns g c =
    subst (λ (j : Journal). commits_of (map payload j) ≡ Some j) c.self.view_is (continued-read (g.T.CommitTaker.commits c.self.inside.taker) c.self.invariant.continued)
