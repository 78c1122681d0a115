use Rattle.remote_link.proofs.Talked.{talks-go_on}
use Rattle.remote_link.proofs.laws.talks_go_on.Goals as goal

pub returns : goal.returns
returns c = talks-go_on
