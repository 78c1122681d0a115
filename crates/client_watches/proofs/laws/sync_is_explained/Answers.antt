use Rattle.client_watches.proofs.Explaining.{sync_is_explained as lemma}
use Rattle.client_watches.proofs.laws.sync_is_explained.Goals as goal

pub returns : goal.returns
returns c = lemma
