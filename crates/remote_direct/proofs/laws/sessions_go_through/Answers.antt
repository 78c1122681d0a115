use Rattle.remote_direct.proofs.Through.{sessions-go-through}
use Rattle.remote_direct.proofs.laws.sessions_go_through.Goals as goal

-- call by call
pub returns : goal.returns
returns g c = sessions-go-through g.B.Backend.known g.B.Backend.goes _ _ _
