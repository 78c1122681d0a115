use Rattle.std.proofs.Common.{sym, subst, arith}
use Rattle.reactive_registry.specs.Registered.{Registered}
use Rattle.diamond_store.specs.Feeders.{Tells}
use Rattle.diamond_store.proofs.Told.{tells-empty}
use Rattle.diamond_store.proofs.feeder.Feeder.new.Goals as goal

pub invariant_of-result : goal.invariant_of-result
invariant_of-result g c =
    let here = c.entries.ensures in
    subst (λ (r : Registered). Tells c.args.token.seen r) (sym c.new-registry.ensures) (tells-empty c.args.token.seen c.entries.result (omega arith))
