use Rattle.local_world.specs.Making.{IsEntered}
use Rattle.local_world.proofs.making.all_entered.Given as goal

abbrev pub invariant-loop-client : goal.invariant-loop-client
invariant-loop-client l = IsEntered l.client l.registry
