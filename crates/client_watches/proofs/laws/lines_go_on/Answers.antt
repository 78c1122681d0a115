use Rattle.client_watches.proofs.Lined.{lines_go_on as lemma}
use Rattle.client_watches.proofs.laws.lines_go_on.Goals as goal

pub returns : goal.returns
returns c = lemma
