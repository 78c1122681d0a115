use Rattle.client_watches.proofs.Lined.{passing_stays as lemma}
use Rattle.client_watches.proofs.laws.passing_stays.Goals as goal

pub returns : goal.returns
returns c = lemma
