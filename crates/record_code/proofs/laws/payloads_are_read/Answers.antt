use Rattle.record_code.proofs.Commits.{payloads_are_read as lemma}
use Rattle.record_code.proofs.laws.payloads_are_read.Goals as goal

pub returns : goal.returns
returns c = lemma
