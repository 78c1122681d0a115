use Rattle.client_watches.proofs.Lined.{beginnings_attend as lemma}
use Rattle.client_watches.proofs.laws.beginnings_attend.Goals as goal

pub returns : goal.returns
returns c = lemma
