use Rattle.call_programs.proofs.Played.{safe_programs_end as lemma}
use Rattle.call_programs.proofs.laws.safe_programs_end.Goals as goal

pub returns : goal.returns
returns g c = lemma
