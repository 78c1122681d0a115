use Rattle.session_core.proofs.AskingFew.{lines_ask_few as lemma}
use Rattle.session_core.proofs.laws.lines_ask_few.Goals as goal

pub returns : goal.returns
returns c = lemma
