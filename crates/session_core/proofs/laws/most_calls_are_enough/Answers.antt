use Rattle.session_core.proofs.AskingFew.{most_calls_are_enough as lemma}
use Rattle.session_core.proofs.laws.most_calls_are_enough.Goals as goal

pub returns : goal.returns
returns c = lemma
