use Rattle.std.proofs.Common.{◌≡◌, ◌+◌, ◌++◌, ◌∷◌, [], subst}
use Rattle.audit_core.specs.declared.verdict.Verdict.TheVariants.{Legal, Broken}
use Rattle.audit_core.specs.Verdicts.{IsFound, IsVerdict}
use Rattle.audit_core.proofs.Behind.{place-next, legal-more, broken-here}
use Rattle.audit_core.proofs.Finding.{none-else}
use Rattle.audit_core.proofs.auditing.Auditor.next_behind.Goals as goal

-- it has a flaw, and is the first that has one
pub returns-in-Some-2 : goal.returns-in-Some-2
returns-in-Some-2 c = λ before was.
    let commit = c.args.commit.now in
    let place : c.args.count + 1 ≡ c.in-Some.place = place-next c.args.count c.in-Some.place c.checked_add.result c.in-Some.is c.checked_add.ensures in
    let flawed = subst (IsFound before commit) c.in-Some-2.is (c.in_ok-flaw.ensures.found before was.kept was.holds.0) in
    record {
      holds = subst (λ n. IsVerdict (before ++ commit ∷ []) (Broken n c.in-Some-2.flaw)) place
          (broken-here before commit c.args.count c.in-Some-2.flaw was.holds flawed);
      kept = tt;
    }

-- it may follow, and was taken
pub returns : goal.returns
returns c = λ before was.
    let commit = c.args.commit.now in
    let place : c.args.count + 1 ≡ c.in-Some.place = place-next c.args.count c.in-Some.place c.checked_add.result c.in-Some.is c.checked_add.ensures in
    let follows = subst (IsFound before commit) (none-else _ c.in_default-2.not-Some) (c.in_ok-flaw.ensures.found before was.kept was.holds.0) in
    record {
      holds = subst (λ n. IsVerdict (before ++ commit ∷ []) (Legal n)) place (legal-more before commit c.args.count was.holds follows);
      kept = c.in_ok-take.ensures before (c.in_ok-flaw.ensures.kept before was.kept) follows;
    }
