use Rattle.call_programs.proofs.Counted.{faults_are_counted as lemma}
use Rattle.call_programs.proofs.laws.faults_are_counted.Goals as goal

pub returns : goal.returns
returns g c = lemma
