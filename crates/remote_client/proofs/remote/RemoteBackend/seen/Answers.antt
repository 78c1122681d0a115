use Rattle.remote_client.proofs.Asking.{still-reads}
use Rattle.remote_client.proofs.remote.RemoteBackend.seen.Goals as goal

-- what it stands for can be read
pub returns-clause-readable : goal.returns-clause-readable
returns-clause-readable g c =
    rw (← c.self.view_is) (still-reads g.C.Caller.known g.C.Caller.goes g.C.Caller.does
    (record { caller = c.self.inside.caller; stood = c.self.inside.stood.value; lost = c.self.inside.lost }) c.self.invariant.whole)
