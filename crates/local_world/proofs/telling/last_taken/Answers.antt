use Rattle.reactive_registry.specs.Registered.{kept_of}
use Rattle.local_world.proofs.Registries.{last-taken, last-within, nothing-taken}
use Rattle.local_world.proofs.telling.last_taken.Goals as goal

pub returns-in-Some-clause-within : goal.returns-in-Some-clause-within
returns-in-Some-clause-within c = last-within (kept_of c.args.registry.now c.args.client) c.in-Some.taken c.args.registry.now.front c.in-Some.ensures c.requires

pub returns-in-Some-clause-taken : goal.returns-in-Some-clause-taken
returns-in-Some-clause-taken c = last-taken (kept_of c.args.registry.now c.args.client) c.in-Some.taken c.in-Some.ensures

pub returns-in-None-clause-taken : goal.returns-in-None-clause-taken
returns-in-None-clause-taken c = nothing-taken (kept_of c.args.registry.now c.args.client) c.front.result c.in-None.ensures
