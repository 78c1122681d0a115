use Rattle.std.proofs.Common.{◌∙◌}
use Rattle.docc_prepare.specs.Calls.{Call}
use Rattle.remote_client.proofs.Asking.{goes-by, spells-of, unsubscribe-done}
use Rattle.remote_client.proofs.remote.RemoteBackend.unsubscribe.Goals as goal

-- it is the call that its request spells
pub ask-requires : goal.ask-requires
ask-requires g c = spells-of _ (Call.unsubscribe c.args.address.now) c.requires c.unsubscribe_request.result c.unsubscribe_request.ensures

-- by the request
pub returns-clause-goes : goal.returns-clause-goes
returns-clause-goes g c =
    goes-by g.C.Caller.known g.C.Caller.goes g.C.Caller.does c.args.self.now c.ask.new.self (Call.unsubscribe c.args.address.now) c.unsubscribe_request.result c.ask.result _ c.ask.ensures.goes c.requires c.unsubscribe_request.ensures
    (c.done_of.ensures ∙ unsubscribe-done c.args.address.now c.ask.result)
