use Rattle.std.proofs.Common.{ℕ, List, subst}
use Rattle.txn_grammar.specs.Parsed.{IsSyntaxColumn}
use Rattle.audit_core.proofs.Trees.{unparsed, parse_answered}
use Rattle.audit_core.proofs.reading.read.Goals as goal

pub returns-in-Err : goal.returns-in-Err
returns-in-Err c =
    parse_answered c.args.text.now c.in-Err.error c.not_parsed.result c.not_parsed.ensures
    (λ column is. unparsed c.args.text.now column
    (subst (λ (z : List ℕ). IsSyntaxColumn z column) c.as_slice.ensures (c.in-Err.ensures.refused column cc)))
