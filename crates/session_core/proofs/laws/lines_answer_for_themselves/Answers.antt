use Rattle.session_core.proofs.LinesTell.{lines_answer_for_themselves as lemma}
use Rattle.session_core.proofs.laws.lines_answer_for_themselves.Goals as goal

pub returns : goal.returns
returns c = lemma
