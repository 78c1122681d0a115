use Rattle.std.proofs.Common.{map, IfSome, subst, sym}
use Rattle.txn_lang.specs.States.{Journal}
use Rattle.commit_file.specs.Kept.{KeptAs}
use Rattle.commit_file.specs.Recovering.{IsAtRest}
use Rattle.record_code.specs.Payloads.{payload}
use Rattle.journal_file.specs.Commits.{CommitsFollow}
use Rattle.journal_file.proofs.Held.{some-kept, at_rest-holds}
use Rattle.journal_file.proofs.recovering.recover.Goals as goal

pub returns-clause-kept : goal.returns-clause-kept
returns-clause-kept g c =
    let commits = c.into_taker.result in
    some-kept (map payload commits) commits (g.D.Disk.state c.args.disk.now) c.into_taker.ensures.read
    (subst (λ (j : Journal). IfSome (g.D.Disk.state c.args.disk.now) (λ s. KeptAs CommitsFollow (map payload j) s.file))
    (sym c.into_taker.ensures.commits) c.in_ok-end.ensures.kept)

pub returns-clause-holds : goal.returns-clause-holds
returns-clause-holds g c =
    let commits = c.into_taker.result in
    at_rest-holds (map payload commits) commits c.in_ok-end.end (g.D.Disk.state c.recover.new.disk) c.into_taker.ensures.read
    (subst (λ (j : Journal). IfSome (g.D.Disk.state c.recover.new.disk) (IsAtRest CommitsFollow (map payload j) c.in_ok-end.end))
    (sym c.into_taker.ensures.commits) c.in_ok-end.ensures.at_rest)
    c.in_ok-end.ensures.stands
