use Rattle.docc_prepare.specs.Calls.{Call}
use Rattle.remote_client.proofs.Asking.{goes-by, spells-of}
use Rattle.remote_client.proofs.remote.RemoteBackend.read.Goals as goal

-- it is the call that its request spells
pub ask-requires : goal.ask-requires
ask-requires g c = spells-of _ (Call.read c.args.address.now) c.requires c.read_request.result c.read_request.ensures

-- by the request
pub returns-clause-goes : goal.returns-clause-goes
returns-clause-goes g c =
    goes-by g.C.Caller.known g.C.Caller.goes g.C.Caller.does c.args.self.now c.ask.new.self (Call.read c.args.address.now) c.read_request.result c.ask.result _ c.ask.ensures.goes c.requires c.read_request.ensures
    (c.snap_of.ensures c.args.address.now)
