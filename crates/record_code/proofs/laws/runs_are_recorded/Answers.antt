use Rattle.record_code.proofs.Commits.{runs_are_recorded as lemma}
use Rattle.record_code.proofs.laws.runs_are_recorded.Goals as goal

pub returns : goal.returns
returns c = lemma
