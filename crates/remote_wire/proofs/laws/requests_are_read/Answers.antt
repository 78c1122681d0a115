use Rattle.remote_wire.proofs.RequestCodes.{requests_are_read as lemma}
use Rattle.remote_wire.proofs.laws.requests_are_read.Goals as goal

pub returns : goal.returns
returns c = lemma
