use Rattle.client_watches.proofs.Making.{watch_is_explained as lemma}
use Rattle.client_watches.proofs.laws.watch_is_explained.Goals as goal

pub returns : goal.returns
returns c = lemma
