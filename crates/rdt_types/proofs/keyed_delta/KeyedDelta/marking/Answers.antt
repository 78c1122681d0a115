use Rattle.std.proofs.Common.{T, false, sym, ap, ◌∙◌, subst}
use Rattle.std.specs.FinMap as map
use Rattle.plain_data.specs.Texts.{MapOf}
use Rattle.rdt_types.specs.Keyed.{has_form}
use Rattle.rdt_types.proofs.Keyed.{form-marking}
use Rattle.rdt_types.proofs.keyed_delta.KeyedDelta.marking.Goals as goal

pub invariant_of-result : goal.invariant_of-result
invariant_of-result g c =
    let left = g.M.Leaves.left in
    subst (λ (m : MapOf g.row.M.Denot). T (has_form left (record { cleared = false; marks = m })))
    (sym (c.in_ok-insert.ensures.ok ∙ ap (λ m. map.insert m c.in_ok-clone.field-0 c.args.mark) c.new-marks.ensures))
    (form-marking left c.in_ok-clone.field-0 c.args.mark)
