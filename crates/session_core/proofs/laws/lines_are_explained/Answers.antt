use Rattle.session_core.proofs.LinesExplained.{lines_are_explained as lemma}
use Rattle.session_core.proofs.laws.lines_are_explained.Goals as goal

pub returns : goal.returns
returns c = lemma
