use Rattle.session_core.proofs.AllDone.{done_lines_are_explained as lemma}
use Rattle.session_core.proofs.laws.done_lines_are_explained.Goals as goal

pub returns : goal.returns
returns c = lemma
