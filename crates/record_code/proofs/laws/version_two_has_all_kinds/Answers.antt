use Rattle.record_code.proofs.KindsTold.{two_has_all_kinds as lemma}
use Rattle.record_code.proofs.laws.version_two_has_all_kinds.Goals as goal

pub returns : goal.returns
returns c = lemma
