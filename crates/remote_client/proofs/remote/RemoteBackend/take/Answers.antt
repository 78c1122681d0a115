use Rattle.std.proofs.Common.{refl, Ok}
use Rattle.docc_prepare.specs.Calls.{Call}
use Rattle.remote_wire.specs.declared.request.Request.TheVariants as request
use Rattle.remote_client.proofs.Asking.{goes-by}
use Rattle.remote_client.proofs.remote.RemoteBackend.take.Goals as goal

-- it is the call that its request spells
pub ask-requires : goal.ask-requires
ask-requires g c = record { call = Call.take; can = tt; spelled = refl }

-- by the request
pub returns-clause-goes : goal.returns-clause-goes
returns-clause-goes g c =
    goes-by g.C.Caller.known g.C.Caller.goes g.C.Caller.does c.args.self.now c.ask.new.self Call.take (Ok request.Take) c.ask.result _ c.ask.ensures.goes tt refl
    (c.feed_of.ensures)
