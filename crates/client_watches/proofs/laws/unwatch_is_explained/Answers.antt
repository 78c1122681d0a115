use Rattle.client_watches.proofs.Forgotten.{unwatch_is_explained as lemma}
use Rattle.client_watches.proofs.laws.unwatch_is_explained.Goals as goal

pub returns : goal.returns
returns c = lemma
