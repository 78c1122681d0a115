use Rattle.session_core.proofs.Tries.{tries_are_few as lemma}
use Rattle.session_core.proofs.laws.tries_are_few.Goals as goal

pub returns : goal.returns
returns c = lemma
