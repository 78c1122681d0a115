use Rattle.txn_lang.proofs.Trees.{tree_of_typed}
use Rattle.std.proofs.Common.{ap, ◌∙◌, sym}
use Rattle.std.specs.Prelude.{Some}
use Rattle.audit_core.proofs.Trees.{ill_typed, reads_only, check_answered}
use Rattle.audit_core.proofs.reading.checked.Goals as goal

pub returns-in-Ok : goal.returns-in-Ok
returns-in-Ok c =
    tree_of_typed c.args.source c.args.body c.requires c.in-Ok.ensures.typed ∙ ap Some (sym c.in-Ok.ensures.body)

pub returns-in-Err : goal.returns-in-Err
returns-in-Err c =
    check_answered c.args.source c.in-Err.error c.not_accepted.result c.not_accepted.ensures
    (λ column is. ill_typed c.args.source c.args.body column c.requires (c.in-Err.ensures.bad_type column cc))
    (λ column is. reads_only c.args.body column (c.in-Err.ensures.writes column cc))
