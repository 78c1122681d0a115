use Rattle.remote_wire.proofs.RequestCodes.{what_is_read_is_a_request as lemma}
use Rattle.remote_wire.proofs.laws.what_is_read_is_a_request.Goals as goal

pub returns : goal.returns
returns c = lemma
