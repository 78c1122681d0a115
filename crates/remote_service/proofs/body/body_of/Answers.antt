use Rattle.std.proofs.Common.{◌≡◌, ℕ, true, List, Some, ap, sym, subst, ◌∙◌}
use Rattle.txn_grammar.specs.Parsed.{parsed, IsSyntaxColumn}
use Rattle.txn_lang.specs.declared.checked.Checked.{Checked}
use Rattle.txn_lang.specs.Typing.{IsTyped}
use Rattle.record_code.proofs.Bodies.{unparsed, ill_typed, reads_only}
use Rattle.remote_service.specs.Anew.{is_body_text}
use Rattle.remote_service.proofs.Texts.{no-tree, the-body, parse-told, check-told}
use Rattle.remote_service.proofs.body.body_of.Goals as goal

-- it isn't read
pub returns-in-Err-clause-body : goal.returns-in-Err-clause-body
returns-in-Err-clause-body c =
    parse-told (λ (checked : Checked). checked.body) c.args.text.now c.in-Err.error c.of_parse.result c.of_parse.ensures
    (λ column is. no-tree c.args.text.now (unparsed c.args.text.now column
    (subst (λ (z : List ℕ). IsSyntaxColumn z column) c.as_slice-2.ensures (c.in-Err.ensures.refused column (cc)))))

-- it is read and well typed
pub returns-in-Ok-check-clause-body : goal.returns-in-Ok-check-clause-body
returns-in-Ok-check-clause-body c = the-body c.args.text.now c.in-Ok-check.checked.body
    (subst (λ (z : List ℕ). is_body_text z ≡ true) c.as_slice.ensures (sym c.if-not-is_body_text.ensures))
    (ap parsed (sym c.as_slice-2.ensures) ∙ (c.in-Ok.ensures.tree ∙ ap (λ b. Some b) (sym c.in-Ok-check.ensures.body)))
    (subst IsTyped (sym c.in-Ok-check.ensures.body) c.in-Ok-check.ensures.typed)

-- it is read, and isn't accepted
pub returns-in-Err-check-clause-body : goal.returns-in-Err-check-clause-body
returns-in-Err-check-clause-body c =
    check-told (λ (checked : Checked). checked.body) c.args.text.now c.in-Err-check.error c.of_check.result c.of_check.ensures
    (λ column is. no-tree c.args.text.now (ill_typed c.args.text.now c.in-Ok.body column
    (ap parsed (sym c.as_slice-2.ensures) ∙ c.in-Ok.ensures.tree) (c.in-Err-check.ensures.bad_type column (cc))))
    (λ column is. reads_only c.in-Ok.body column (c.in-Err-check.ensures.writes column (cc)))
