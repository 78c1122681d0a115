use Rattle.client_watches.proofs.Safe.{lines_are_safe as lemma}
use Rattle.client_watches.proofs.laws.lines_are_safe.Goals as goal

pub returns : goal.returns
returns c = lemma
