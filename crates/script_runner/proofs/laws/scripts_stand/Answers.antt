use Rattle.script_runner.proofs.Standing.{scripts_stand as lemma}
use Rattle.script_runner.proofs.laws.scripts_stand.Goals as goal

pub returns : goal.returns
returns c = lemma
