use Rattle.remote_client.proofs.Asking.{asked-answered, asked-without, asked-lost, asked-failing, stands-on}
use Rattle.remote_client.proofs.remote.Remote.ask.Goals as goal

-- there was no memory for the request
pub returns-in_default-clause-goes : goal.returns-in_default-clause-goes
returns-in_default-clause-goes g c = rw (← c.self.view_is) (asked-without g.C.Caller.known g.C.Caller.goes g.C.Caller.does c.self.inside.caller
    c.self.inside.stood.value c.self.inside.lost c.args.request c.self.invariant.whole)

-- a call had failed before
pub returns-then-self-clause-goes : goal.returns-then-self-clause-goes
returns-then-self-clause-goes g c = rw (← c.self.view_is) (asked-lost g.C.Caller.known g.C.Caller.goes g.C.Caller.does c.self.inside.caller
    c.self.inside.stood.value c.self.inside.lost c.args.request c.if-self.true c.self.invariant.whole)

-- it is answered
pub returns-in-Ok-call-clause-goes : goal.returns-in-Ok-call-clause-goes
returns-in-Ok-call-clause-goes g c = rw (← c.self.view_is) (asked-answered g.C.Caller.known g.C.Caller.goes g.C.Caller.does c.self.inside.caller c.call.new.self
    c.self.inside.stood.value c.of.result.value c.self.inside.lost c.args.self.now c.args.request c.in-Ok.request c.in-Ok-call.answer
    (c.self.invariant.same c.if-self.false) c.of.ensures c.if-self.false c.in-Ok.is c.self.view_is c.requires c.in-Ok-call.ensures.replied)

-- and the client stands for what its caller does then
pub invariant_of-self-in-Ok-call : goal.invariant_of-self-in-Ok-call
invariant_of-self-in-Ok-call g c = rw c.seen_behind-self-inside.ensures (stands-on g.C.Caller.known g.C.Caller.goes g.C.Caller.does g.C.Caller.home c.self.inside.caller c.call.new.self
    c.self.inside.stood.value c.of.result.value c.self.inside.lost c.args.self.now c.args.request c.in-Ok.request c.in-Ok-call.answer
    c.self.inside.client c.self.inside.shards c.self.inside.seen (c.self.invariant.same c.if-self.false) c.of.ensures c.in-Ok.is c.self.view_is
    c.requires c.self.invariant c.in-Ok-call.ensures.replied)

-- it isn't
pub returns-clause-goes : goal.returns-clause-goes
returns-clause-goes g c = rw (← c.self.view_is) (asked-failing g.C.Caller.known g.C.Caller.goes g.C.Caller.does c.self.inside.caller c.call.new.self
    c.self.inside.stood.value c.self.inside.lost c.args.request c.in-Ok.request c.in-Err.e c.if-self.false c.in-Ok.is c.self.invariant.whole
    c.in-Err.ensures.replied c.in-Err.ensures.asked)
