use Rattle.std.proofs.Common.{sym, subst}
use Rattle.reactive_registry.specs.Registered.{Registered}
use Rattle.diamond_store.specs.Feeders.{Tells, HasNobody}
use Rattle.diamond_store.proofs.Told.{tells-empty, nobody-in-empty}
use Rattle.diamond_store.proofs.feeder.begin_anew.Goals as goal

pub returns-clause-nobody : goal.returns-clause-nobody
returns-clause-nobody c = subst (λ (r : Registered). HasNobody r) (sym c.new.ensures) (nobody-in-empty c.args.at)

pub returns-clause-tells : goal.returns-clause-tells
returns-clause-tells c = λ journal within. subst (λ (r : Registered). Tells journal r) (sym c.new.ensures) (tells-empty journal c.args.at within)
