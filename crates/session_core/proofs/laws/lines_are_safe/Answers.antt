use Rattle.session_core.proofs.LinesSafe.{lines_are_safe as lemma}
use Rattle.session_core.proofs.laws.lines_are_safe.Goals as goal

pub returns : goal.returns
returns c = lemma
