use Rattle.docc_prepare.specs.Calls.{Call}
use Rattle.remote_calls.specs.Spelled.{bases_of}
use Rattle.remote_client.proofs.Asking.{goes-by, spells-of}
use Rattle.remote_client.proofs.remote.RemoteBackend.append.Goals as goal

-- it is the call that its request spells
pub ask-requires : goal.ask-requires
ask-requires g c = spells-of _ (Call.append c.args.ready.now) c.requires c.append_request.result c.append_request.ensures

-- by the request
pub returns-clause-goes : goal.returns-clause-goes
returns-clause-goes g c =
    goes-by g.C.Caller.known g.C.Caller.goes g.C.Caller.does c.args.self.now c.ask-2.new.self (Call.append c.args.ready.now) c.append_request.result c.ask-2.result _
    c.ask-2.ensures.goes c.requires c.append_request.ensures (c.commit_of.ensures c.args.ready.now.seq c.args.ready.now.body (bases_of c.args.ready.now.based))
