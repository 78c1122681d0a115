use Rattle.std.proofs.Common.{◌∙◌}
use Rattle.reactive_registry.specs.Registered.{kept_in}
use Rattle.reactive_registry.proofs.Links.{on_err}
use Rattle.reactive_registry.proofs.Undone.{kept_up_to, undone}
use Rattle.reactive_registry.proofs.telling.tell_or_undo.Goals as goal

-- what was told is taken back
pub returns-then-is_err-clause-err : goal.returns-then-is_err-clause-err
returns-then-is_err-clause-err c =
    let old = c.args.subscribers.now.entries in
    let mid = c.tell_all-told.new.subscribers.entries in
    let front = c.args.front in
    on_err c.tell_all-told.result _
    (λ q.
    let up_to = kept_up_to front (kept_in old q) (c.requires.followed q) in
    c.cut_all.ensures q
    ∙ undone c.args.places.now q front c.args.changes.now (kept_in mid q) (kept_in old q)
    (c.tell_all-told.ensures.behind front c.requires.past q ∙ up_to) up_to (c.tell_all-told.ensures.elsewhere q))
