use Rattle.remote_direct.proofs.Meaning.{what-may-be-asked-is-meant}
use Rattle.remote_direct.proofs.laws.what_may_be_asked_is_meant.Goals as goal

-- request by request
pub returns : goal.returns
returns c = what-may-be-asked-is-meant
