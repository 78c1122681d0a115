use Rattle.std.proofs.Common.{[], ◌∷◌, sym, ap, ◌∙◌}
use Rattle.rdt_types.specs.declared.address.Address.{Address}
use Rattle.rdt_types.specs.declared.delta.Delta.{Delta}
use Rattle.hold_core.proofs.Marked.{disturbs-unmarked}
use Rattle.journal_core.specs.declared.hold.Hold.{Hold}
use Rattle.journal_core.specs.Holds.{disturbs_some}
use Rattle.hold_core.proofs.watched.Watched.is_hit.Goals as goal

-- nothing was observed at an address that isn't marked
pub returns-else-is_marked-clause-disturbs : goal.returns-else-is_marked-clause-disturbs
returns-else-is_marked-clause-disturbs g c =
    let own = c.self.inside in
    let pair : Address × Delta = (c.args.address.now, c.args.delta.now) in
    c.if-is_marked.false
    ∙ sym (disturbs-unmarked own.marks pair own.seen c.self.invariant (sym c.is_marked.ensures ∙ c.if-is_marked.false))
    ∙ ap (λ (h : Hold). disturbs_some (pair ∷ []) h.observations) c.self.view_is
