use Rattle.session_core.proofs.Stays.{explains_stays}
use Rattle.session_core.proofs.laws.explained_stays.Goals as goal

pub returns : goal.returns
returns c = explains_stays
