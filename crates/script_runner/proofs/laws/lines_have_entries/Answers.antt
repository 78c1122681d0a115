use Rattle.script_runner.proofs.Telling.{lines_have_entries as lemma}
use Rattle.script_runner.proofs.laws.lines_have_entries.Goals as goal

pub returns : goal.returns
returns c = lemma
