use Rattle.std.proofs.Common.{◌++◌, ap, ◌∙◌}
use Rattle.rdt_types.specs.Listed.{Listed}
use Rattle.rdt_types.proofs.Listed.{form-made}
use Rattle.rdt_types.proofs.list_delta.ListDelta.composed.Goals as goal

pub invariant_of-result : goal.invariant_of-result
invariant_of-result c =
    let d : Listed = record { cleared = c.self.inside.cleared; removed = c.self.inside.removed; pushed = c.self.inside.pushed } in
    let e : Listed = record { cleared = c.second.inside.cleared; removed = c.second.inside.removed; pushed = c.second.inside.pushed } in
    form-made d e _ _ _ c.if-second.false c.second.invariant c.in_ok-removed.ensures c.in_ok-pushed.ensures
    (c.in_ok-extend_cloned.ensures.ok ∙ ap (λ xs. c.in_ok-pushed.pushed ++ xs) c.as_slice.ensures)
