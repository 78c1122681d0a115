use Rattle.session_core.proofs.GoingOn.{sessions_go_on as lemma}
use Rattle.session_core.proofs.laws.sessions_go_on.Goals as goal

pub returns : goal.returns
returns c = lemma
