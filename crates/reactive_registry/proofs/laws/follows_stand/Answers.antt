use Rattle.reactive_registry.proofs.Standing.{follows_stand}
use Rattle.reactive_registry.proofs.laws.follows_stand.Goals as goal

pub returns : goal.returns
returns c = follows_stand
