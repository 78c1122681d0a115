use Rattle.std.proofs.Common.{T, true, sym, subst}
use Rattle.plain_data.specs.Texts.{SetOfTexts}
use Rattle.rdt_types.specs.Listed.{has_form}
use Rattle.rdt_types.proofs.Listed.{form-clearing}
use Rattle.rdt_types.proofs.list_delta.ListDelta.clearing.Goals as goal

pub invariant_of-result : goal.invariant_of-result
invariant_of-result c = subst (λ (texts : SetOfTexts). T (has_form (record { cleared = true; removed = texts; pushed = c.new-2.result })))
    (sym c.new.ensures) form-clearing
