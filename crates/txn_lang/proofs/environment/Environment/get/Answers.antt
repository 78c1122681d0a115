use Rattle.std.proofs.Common.{ap, ◌∙◌}
use Rattle.std.specs.Option.{option_map}
use Rattle.txn_lang.proofs.PlacesKept.{placed_is, not_placed}
use Rattle.txn_lang.proofs.environment.Environment.get.Goals as goal

pub returns-in-Some-get : goal.returns-in-Some-get
returns-in-Some-get g c =
    ap (option_map (λ b. b.value)) c.in-Some-get.ensures
    ∙ placed_is c.self.inside.bindings _ _ c.in-Some.place c.self.view_is c.in-Some.ensures

pub returns-in-None-get : goal.returns-in-None-get
returns-in-None-get g c =
    ap (option_map (λ b. b.value)) c.in-None-get.ensures
    ∙ placed_is c.self.inside.bindings _ _ c.in-Some.place c.self.view_is c.in-Some.ensures

pub returns-in-None : goal.returns-in-None
returns-in-None g c = not_placed c.self.inside.bindings _ _ c.self.view_is c.in-None.ensures
