use Rattle.std.proofs.Common.{rules}
use Rattle.diamond_server.specs.Promises.{sides}
use Rattle.diamond_server.proofs.Listing.{served-since}
use Rattle.diamond_server.proofs.serving_all.serve_links.Goals as goal

-- all that were accepted were given back
pub returns-clause-served : goal.returns-clause-served
returns-clause-served g c =
    served-since g.Li.Listener g.S.Serves.promised (sides g.Li.Link.Source g.Li.Link.Sink) g.N.Naming.lock.first c.args.pass.now c.run_scoped-ran.new.pass
    c.give_all.new.pass c.args.serving.now.sessions c.args.listener.now c.run_scoped-ran.new.listener c.give_all.new.listener c.in_ok-ended.ended.items
    c.in_ok-faulted.faulted c.len-accepted.result c.in_ok-ended.failed c.tells_faults.ensures c.give_all.ensures.same c.give_all.ensures.links
    c.give_all.ensures.count c.run_scoped-ran.ensures.given c.in_ok-ended.ensures.accepted c.in_ok-faulted.ensures.settled (search rules)
