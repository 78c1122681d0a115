use Rattle.std.proofs.Common.{ap, sym, ◌∙◌}
use Rattle.audit_core.specs.Dumps.{with_change}
use Rattle.audit_core.proofs.Finding.{ok-map}
use Rattle.audit_core.proofs.Lending.{changed_there}
use Rattle.audit_core.proofs.state.State.change.Goals as goal

-- what is written in the place of the value is inserted
pub returns-in-Some : goal.returns-in-Some
returns-in-Some c =
    ok-map c.change_value.result _ _ (λ nothing changed.
    (c.get_mut.follows.holds c.change_value.new.value).0
    ∙ changed_there c.args.address.now c.self.inside.values.entries c.args.delta.now c.in-Some.value.now c.change_value.new.value
    c.in-Some.ensures.ordered (sym c.in-Some.ensures.value) changed
    ∙ ap (λ values. with_change values (c.args.address.now, c.args.delta.now)) c.self.view_is)
    c.change_value.ensures.changed
