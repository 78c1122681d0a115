use Rattle.call_programs.proofs.Played.{programs_are_played as lemma}
use Rattle.call_programs.proofs.laws.programs_are_played.Goals as goal

pub returns : goal.returns
returns g c = lemma
