use Rattle.std.proofs.Common.{[], ◌∷◌, ◌++◌, take, sym, ap, subst, ◌∙◌}
use Rattle.std.specs.List.{AllByRecursion}
use Rattle.std.proofs.lemmas.List.{take_more}
use Rattle.record_code.specs.Forms.{IsFiled}
use Rattle.docc_prepare.proofs.Each.{each-push}
use Rattle.remote_service.proofs.forms.are_filed.Goals as goal

-- one more
pub loop-pair-preserved : goal.loop-pair-preserved
loop-pair-preserved c =
    let changes = c.args.changes.now in
    let i = c.loop-pair.pair-index in
    subst (AllByRecursion IsFiled)
    (sym (take_more changes i c.pair-item.result c.loop-pair-test.true ∙ ap (λ x. take i changes ++ x ∷ []) (sym c.pair-item.is)))
    (each-push IsFiled (take i changes) c.pair-item.result c.loop-pair.invariant c.if-not-is_filed.ensures)
