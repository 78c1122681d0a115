use Rattle.std.proofs.Common.{arith}
use Rattle.diamond_server.proofs.Listing.{accepting-more, accepting-same}
use Rattle.diamond_server.proofs.serving_all.run_all.Goals as goal

-- the listener was closed behind what was accepted, and tells the same
pub returns-clause-accepted : goal.returns-clause-accepted
returns-clause-accepted g c =
    let draws = c.join_all.ensures.learns.draws in
    accepting-same g.Li.Listener _ _ _ _ _ c.accept_all-accepted.new.listener c.close.new.self _ _ c.close.ensures.links c.close.ensures.count
    (accepting-more _ _ _ _ _ _ _ _ _ _ c.in_ok-begun.ensures.accepted c.join_all.ensures.learns (omega arith) c.in_ok-join_all.ensures.seats)
