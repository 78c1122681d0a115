use Rattle.record_code.proofs.Commits.{what_is_read_is_a_payload as lemma}
use Rattle.record_code.proofs.laws.what_is_read_is_a_payload.Goals as goal

pub returns : goal.returns
returns c = lemma
