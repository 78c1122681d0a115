use Rattle.std.proofs.Common.{◌≡◌, length, ap, sym, subst, ◌∙◌, arith}
use Rattle.txn_grammar.specs.Characters.{Text}
use Rattle.txn_grammar.specs.Parsed.{parsed, IsSyntaxColumn}
use Rattle.session_core.proofs.Bodies.{kept_reads, parse-reads, check-reads, reads-checked, is-ready}
use Rattle.session_core.proofs.reading.read_body.Goals as goal

pub returns-in-Err-clause-reads : goal.returns-in-Err-clause-reads
returns-in-Err-clause-reads c =
    parse-reads c.args.read_only c.args.text c.in-Err.error _ c.of_parse.ensures
    (λ column e. subst (λ (z : Text). IsSyntaxColumn z column) c.as_slice.ensures (c.in-Err.ensures.refused column (let is = e in cc)))

pub check-requires : goal.check-requires
check-requires c =
    kept_reads c.args.text c.trim_end.new.text c.in-Ok.body c.trim_end.ensures.value (ap parsed (sym c.as_slice.ensures) ∙ c.in-Ok.ensures.tree)

pub returns-in-Ok-check-clause-reads : goal.returns-in-Ok-check-clause-reads
returns-in-Ok-check-clause-reads c =
    reads-checked c.args.read_only c.args.text c.in-Ok.body c.in-Ok-check.checked c.in-Ok-check.ensures.body
    (c.in-Ok-check.ensures.source ∙ c.trim_end.ensures.value) (ap parsed (sym c.as_slice.ensures) ∙ c.in-Ok.ensures.tree) c.in-Ok-check.ensures.typed
    c.in-Ok-check.ensures.read_only c.in-Ok-check.ensures.writes_none

pub returns-in-Ok-check-clause-ready : goal.returns-in-Ok-check-clause-ready
returns-in-Ok-check-clause-ready c =
    is-ready c.args.read_only c.args.text c.in-Ok.body c.in-Ok-check.checked c.in-Ok-check.ensures.body
    (c.in-Ok-check.ensures.source ∙ c.trim_end.ensures.value) (ap parsed (sym c.as_slice.ensures) ∙ c.in-Ok.ensures.tree) c.in-Ok-check.ensures.typed
    (let e : length c.in-Ok-check.checked.source ≡ length c.trim_end.new.text = ap length c.in-Ok-check.ensures.source in
    let h = c.trim_end.ensures.shorter in let r = c.requires in omega arith)

pub returns-in-Err-check-clause-reads : goal.returns-in-Err-check-clause-reads
returns-in-Err-check-clause-reads c =
    check-reads c.args.read_only c.args.text c.in-Ok.body c.in-Err-check.error _ c.of_check.ensures (ap parsed (sym c.as_slice.ensures) ∙ c.in-Ok.ensures.tree)
    (λ column e. c.in-Err-check.ensures.bad_type column (let is = e in cc))
    (λ column e. c.in-Err-check.ensures.writes column (let is = e in cc))
