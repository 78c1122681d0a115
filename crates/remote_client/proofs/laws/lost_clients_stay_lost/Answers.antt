use Rattle.remote_client.proofs.Through.{lost-clients-stay-lost}
use Rattle.remote_client.proofs.laws.lost_clients_stay_lost.Goals as goal

-- by cases on the answer
pub returns : goal.returns
returns g c = lost-clients-stay-lost g.C.Caller.goes g.C.Caller.does
