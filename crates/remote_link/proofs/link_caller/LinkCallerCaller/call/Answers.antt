use Rattle.remote_link.specs.Exchanging.{sides}
use Rattle.remote_link.specs.Ends.{LinkEnd}
use Rattle.remote_link.proofs.Ended.{asks_handed, asked_replied}
use Rattle.remote_link.proofs.link_caller.LinkCallerCaller.call.Goals as goal

-- an answer came
pub returns-in-Ok-clause-replied : goal.returns-in-Ok-clause-replied
returns-in-Ok-clause-replied g c =
    let side = sides g.K.Source g.K.Sink in
    let k = c.self.inside in
    let old : LinkEnd g.row.K.Denot = record { link = k.link; kept = k.kept; last = k.last; lost = k.lost; broken = k.broken } in
    rw (← c.self.view_is) (asked_replied side c.args.request.now c.handed.result old c.keep-kept.new.self c.self.invariant
    (asks_handed side c.args.request.now c.in-Ok.answer c.exchange.new.link c.keep-kept.result c.handed.result old c.keep-kept.new.self
    c.if-self.false c.if-self-2.false c.in-Ok.ensures c.keep-kept.ensures c.handed.ensures))

pub returns-in-Ok-clause-asked : goal.returns-in-Ok-clause-asked
returns-in-Ok-clause-asked g c =
    let side = sides g.K.Source g.K.Sink in
    let k = c.self.inside in
    let old : LinkEnd g.row.K.Denot = record { link = k.link; kept = k.kept; last = k.last; lost = k.lost; broken = k.broken } in
    rw (← c.self.view_is) (asks_handed side c.args.request.now c.in-Ok.answer c.exchange.new.link c.keep-kept.result c.handed.result old
    c.keep-kept.new.self c.if-self.false c.if-self-2.false c.in-Ok.ensures c.keep-kept.ensures c.handed.ensures)
