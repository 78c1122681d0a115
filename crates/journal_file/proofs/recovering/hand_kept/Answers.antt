use Rattle.std.proofs.Common.{map, IfSome, subst, sym}
use Rattle.txn_lang.specs.States.{Journal}
use Rattle.commit_file.specs.Kept.{KeptAs}
use Rattle.record_code.specs.Payloads.{payload}
use Rattle.journal_file.specs.Commits.{CommitsFollow}
use Rattle.journal_file.proofs.Held.{some-kept}
use Rattle.journal_file.proofs.recovering.hand_kept.Goals as goal

pub returns-clause-kept : goal.returns-clause-kept
returns-clause-kept g c =
    let commits = g.T.CommitTaker.commits c.into_taker.result in
    some-kept (map payload commits) commits (g.D.Disk.state c.args.disk.now) c.into_taker.ensures.read
    (subst (λ (j : Journal). IfSome (g.D.Disk.state c.args.disk.now) (λ s. KeptAs CommitsFollow (map payload j) s.file))
    (sym c.into_taker.ensures.commits) c.in_ok-read_kept.ensures.kept)
