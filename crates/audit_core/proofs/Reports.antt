-- A list has one report: it has one verdict.
use Rattle.std.proofs.Common.{sym, ap, ◌∙◌}
use Rattle.audit_core.specs.Reports.{report_of, OneReport}
use Rattle.audit_core.proofs.Verdicts.{one_verdict}

pub one_report : OneReport
one_report journal at t u a b =
    a.text_is ∙ ap (λ v. report_of journal v at) (one_verdict journal a.verdict b.verdict a.holds b.holds) ∙ sym b.text_is
