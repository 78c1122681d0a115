use Rattle.std.proofs.Common.{subst, sym, ap}
use Rattle.journal_core.specs.declared.ready.Ready.{Ready}
use Rattle.docc_prepare.specs.Calls.Call.{append}
use Rattle.docc_prepare.specs.Calls.{commit_answered}
use Rattle.docc_prepare.specs.Backends.{Goes}
use Rattle.docc_prepare.specs.declared.attempt.Next.TheVariants as next
use Rattle.session_core.proofs.Performing.{append_does}
use Rattle.session_core.proofs.event.handed.Goals as goal

pub returns-clause-plays : goal.returns-clause-plays
returns-clause-plays g c = λ s a of.
    append_does s a (next.Append of.run) of.next
    (subst (λ (r : Ready). Goes g.B.Backend.known g.B.Backend.goes c.args.backend.now (append r)
    (commit_answered c.append-answer.result) c.append-answer.new.self) of.is c.append-answer.ensures.goes)
    c.after_append.result
    (c.after_append.ensures a (record { run = of.run; next = of.next; outcome_is = sym (ap (λ (r : Ready). r.run.outcome) of.is) }))
