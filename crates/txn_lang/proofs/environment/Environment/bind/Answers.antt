use Rattle.std.proofs.Common.{◌≡◌, Some, refl}
use Rattle.std.specs.FinMap as fin
use Rattle.txn_lang.proofs.PlacesKept.{keeps-bound}
use Rattle.txn_lang.proofs.environment.Environment.bind.Goals as goal

pub invariant_of-self-in-Ok : goal.invariant_of-self-in-Ok
invariant_of-self-in-Ok g c =
    let put : c.keep.new.places ≡ fin.insert c.self.inside.places c.args.name.now (Some c.len-place.result) = c.in-Ok.ensures.ok in
    rw (put, c.in_ok-push.ensures.ok)
    (keeps-bound _ _ _ _ _ _ _ _ _ c.self.invariant c.self.view_is c.place_of-hidden.ensures
    refl c.in_ok-own.ensures.cases c.len-place.ensures)
