use Rattle.std.proofs.Common.{sym, ◌∙◌}
use Rattle.docc_prepare.specs.Calls.{Answer}
use Rattle.call_programs.specs.Programs.{Program, Leads}
use Rattle.call_programs.proofs.Programs.{one_call, fails}
use Rattle.client_watches.proofs.Parts.{failed}
use Rattle.client_watches.proofs.dropping.drop_one.Goals as goal

pub returns-then-not-is_idle-clause-plays : goal.returns-then-not-is_idle-clause-plays
returns-then-not-is_idle-clause-plays g c = let other = sym c.is_idle.ensures ∙ c.if-not-is_idle.true in rw other Leads.stays

pub returns-in_err-unsubscribe-clause-plays : goal.returns-in_err-unsubscribe-clause-plays
returns-in_err-unsubscribe-clause-plays g c =
    let idle = sym c.is_idle.ensures ∙ c.if-not-is_idle.false in
    fails _ c.from_residual.result c.from_residual.ensures.1
    (rw idle (failed c.in_err-unsubscribe.field-0.0 c.in_err-unsubscribe.ensures.goes))

pub returns-clause-plays : goal.returns-clause-plays
returns-clause-plays g c =
    let idle = sym c.is_idle.ensures ∙ c.if-not-is_idle.false in
    rw idle (one_call Answer.done c.in_ok-unsubscribe.ensures.goes tt (λ i. Program.ends (record c.args.watching.now { cache = sym c.release.ensures i })))
