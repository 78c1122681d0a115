use Rattle.script_runner.proofs.Stood.{lines_are_over as lemma}
use Rattle.script_runner.proofs.laws.lines_are_over.Goals as goal

pub returns : goal.returns
returns c = lemma
