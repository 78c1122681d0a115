use Rattle.std.proofs.Common.{T, true, sym, subst}
use Rattle.plain_data.specs.Texts.{MapOf}
use Rattle.rdt_types.specs.Keyed.{has_form}
use Rattle.rdt_types.proofs.Keyed.{form-clearing}
use Rattle.rdt_types.proofs.keyed_delta.KeyedDelta.clearing.Goals as goal

pub invariant_of-result : goal.invariant_of-result
invariant_of-result g c =
    let left = g.M.Leaves.left in
    subst (λ (m : MapOf g.row.M.Denot). T (has_form left (record { cleared = true; marks = m }))) (sym c.new.ensures) (form-clearing left)
