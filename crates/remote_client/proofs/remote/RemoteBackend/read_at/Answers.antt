use Rattle.docc_prepare.specs.Calls.{Call}
use Rattle.remote_client.proofs.Asking.{goes-by, spells-of}
use Rattle.remote_client.proofs.remote.RemoteBackend.read_at.Goals as goal

-- it is the call that its request spells
pub ask-requires : goal.ask-requires
ask-requires g c = spells-of _ (Call.read_at c.args.address.now c.args.number) (c.requires.short, c.requires.seen) c.read_at_request.result c.read_at_request.ensures

-- by the request
pub returns-clause-goes : goal.returns-clause-goes
returns-clause-goes g c =
    goes-by g.C.Caller.known g.C.Caller.goes g.C.Caller.does c.args.self.now c.ask.new.self (Call.read_at c.args.address.now c.args.number) c.read_at_request.result c.ask.result _ c.ask.ensures.goes (c.requires.short, c.requires.seen) c.read_at_request.ensures
    (c.value_of.ensures c.args.address.now c.args.number)
