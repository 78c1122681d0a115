use Rattle.std.proofs.Common.{List, ℕ, Some, ap, sym, subst, ◌∙◌}
use Rattle.txn_grammar.specs.Parsed.{parsed, IsSyntaxColumn}
use Rattle.txn_lang.specs.declared.checked.Checked.{Checked}
use Rattle.txn_lang.specs.Tree.{tree}
use Rattle.txn_lang.proofs.Trees.{tree_of_typed}
use Rattle.record_code.proofs.Bodies.{unparsed, ill_typed, well_typed, reads_only, parse_told, check_told}
use Rattle.record_code.proofs.body.with_tree.Goals as goal

pub returns-in-Err-clause-text : goal.returns-in-Err-clause-text
returns-in-Err-clause-text c =
    parse_told (λ (body : Checked). body.source) c.args.text _ c.in-Err.error c.of_parse.result c.of_parse.ensures
    (λ column is. unparsed c.args.text column
    (subst (λ (z : List ℕ). IsSyntaxColumn z column) c.as_slice.ensures (c.in-Err.ensures.refused column cc)))

pub check-requires : goal.check-requires
check-requires c = ap parsed (sym c.as_slice.ensures) ∙ c.in-Ok.ensures.tree

pub returns-in-Ok-check-clause-text : goal.returns-in-Ok-check-clause-text
returns-in-Ok-check-clause-text c = (
  c.in-Ok-check.ensures.source,
  well_typed c.args.text c.in-Ok.body (ap parsed (sym c.as_slice.ensures)
      ∙ c.in-Ok.ensures.tree) c.in-Ok-check.ensures.typed,
)

-- the text is the same, and its tree is the body that was checked
pub returns-in-Ok-check-clause-tree : goal.returns-in-Ok-check-clause-tree
returns-in-Ok-check-clause-tree c =
    ap tree c.in-Ok-check.ensures.source
    ∙ tree_of_typed c.args.text c.in-Ok.body (ap parsed (sym c.as_slice.ensures) ∙ c.in-Ok.ensures.tree) c.in-Ok-check.ensures.typed
    ∙ ap (λ b. Some b) (sym c.in-Ok-check.ensures.body)

pub returns-in-Err-check-clause-text : goal.returns-in-Err-check-clause-text
returns-in-Err-check-clause-text c =
    check_told (λ (body : Checked). body.source) c.args.text _ c.in-Err-check.error c.of_check.result c.of_check.ensures
    (λ column is. ill_typed c.args.text c.in-Ok.body column
    (ap parsed (sym c.as_slice.ensures) ∙ c.in-Ok.ensures.tree) (c.in-Err-check.ensures.bad_type column cc))
    (λ column is. reads_only c.in-Ok.body column (c.in-Err-check.ensures.writes column cc))
