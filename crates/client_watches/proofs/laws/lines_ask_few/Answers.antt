use Rattle.client_watches.proofs.Within.{lines_ask_few as lemma}
use Rattle.client_watches.proofs.laws.lines_ask_few.Goals as goal

pub returns : goal.returns
returns c = lemma
