use Rattle.std.proofs.Common.{T, false, [], sym, ap, ◌∙◌, subst}
use Rattle.std.specs.FinMap as map
use Rattle.plain_data.specs.Texts.{SetOfTexts}
use Rattle.rdt_types.specs.Listed.{has_form}
use Rattle.rdt_types.proofs.Listed.{form-removing}
use Rattle.rdt_types.proofs.list_delta.ListDelta.removing.Goals as goal

pub invariant_of-result : goal.invariant_of-result
invariant_of-result c =
    rw c.new.ensures
    (subst (λ (texts : SetOfTexts). T (has_form (record { cleared = false; removed = texts; pushed = [] })))
    (sym (c.in_ok-insert.ensures.ok ∙ ap (λ m. map.insert m c.in_ok-clone.field-0 tt) c.new-removed.ensures))
    (form-removing c.in_ok-clone.field-0))
