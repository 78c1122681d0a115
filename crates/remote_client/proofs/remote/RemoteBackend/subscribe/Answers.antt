use Rattle.std.proofs.Common.{◌∙◌}
use Rattle.docc_prepare.specs.Calls.{Call}
use Rattle.remote_client.proofs.Asking.{goes-by, spells-of, subscribe-done}
use Rattle.remote_client.proofs.remote.RemoteBackend.subscribe.Goals as goal

-- it is the call that its request spells
pub ask-requires : goal.ask-requires
ask-requires g c = spells-of _ (Call.subscribe c.args.address.now) c.requires c.subscribe_request.result c.subscribe_request.ensures

-- by the request
pub returns-clause-goes : goal.returns-clause-goes
returns-clause-goes g c =
    goes-by g.C.Caller.known g.C.Caller.goes g.C.Caller.does c.args.self.now c.ask.new.self (Call.subscribe c.args.address.now) c.subscribe_request.result c.ask.result _ c.ask.ensures.goes c.requires c.subscribe_request.ensures
    (c.done_of.ensures ∙ subscribe-done c.args.address.now c.ask.result)
