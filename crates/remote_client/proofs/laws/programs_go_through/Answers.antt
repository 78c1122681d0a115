use Rattle.remote_client.proofs.Through.{programs-go-through}
use Rattle.remote_client.proofs.laws.programs_go_through.Goals as goal

-- call by call
pub returns : goal.returns
returns g c = programs-go-through g.C.Caller.known g.C.Caller.goes g.C.Caller.does _ _ _
