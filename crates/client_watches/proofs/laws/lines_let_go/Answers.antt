use Rattle.client_watches.proofs.InUse.{lines_let_go as lemma}
use Rattle.client_watches.proofs.laws.lines_let_go.Goals as goal

pub returns : goal.returns
returns c = lemma
