use Rattle.std.proofs.Common.{◌++◌, ◌∷◌, [], ap, sym, ◌∙◌}
use Rattle.hold_core.proofs.Found.{places-more}
use Rattle.hold_core.proofs.placing.first_places.Goals as goal

pub loop-place-preserved : goal.loop-place-preserved
loop-place-preserved c =
    c.in_ok-push.ensures.items ∙ ap (λ l. l ++ c.loop-place.place ∷ []) c.loop-place.invariant ∙ sym (places-more c.loop-place.place)
