use Rattle.docc_prepare.specs.Calls.{Call}
use Rattle.remote_client.proofs.Asking.{goes-by, spells-of}
use Rattle.remote_client.proofs.remote.RemoteBackend.prepare.Goals as goal

-- it is the call that its request spells
pub ask-requires : goal.ask-requires
ask-requires g c = spells-of _ (Call.prepare c.args.shard c.args.based.now) c.requires c.prepare_request.result c.prepare_request.ensures

-- by the request
pub returns-clause-goes : goal.returns-clause-goes
returns-clause-goes g c =
    goes-by g.C.Caller.known g.C.Caller.goes g.C.Caller.does c.args.self.now c.ask.new.self (Call.prepare c.args.shard c.args.based.now) c.prepare_request.result c.ask.result _ c.ask.ensures.goes c.requires c.prepare_request.ensures
    (c.front_of.ensures c.args.based.now)
