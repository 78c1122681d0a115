use Rattle.std.proofs.Common.{T, sym, subst}
use Rattle.plain_data.specs.Texts.{MapOf}
use Rattle.rdt_types.specs.Keyed.{has_form}
use Rattle.rdt_types.proofs.Keyed.{form-composed}
use Rattle.rdt_types.proofs.keyed_delta.KeyedDelta.composed.Goals as goal

pub invariant_of-result : goal.invariant_of-result
invariant_of-result g c =
    let left = g.M.Leaves.left in
    subst (λ (m : MapOf g.row.M.Denot). T (has_form left (record { cleared = c.self.inside.cleared; marks = m }))) (sym c.in_ok-marks.ensures)
    (form-composed left (record { cleared = c.self.inside.cleared; marks = c.self.inside.marks })
    (record { cleared = c.second.inside.cleared; marks = c.second.inside.marks }) c.if-second.false c.self.invariant c.second.invariant)
