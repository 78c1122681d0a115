use Rattle.std.proofs.Common.{arith, ◌∙◌, ap, length}
use Rattle.diamond_server.specs.Accounts.{seat_of}
use Rattle.diamond_store.proofs.Waited.{learns-trans}
use Rattle.diamond_server.proofs.Listing.{seats-next, seats-end, near-next}
use Rattle.diamond_server.proofs.serving_all.join_all.Goals as goal

pub returns-in_err-push-clause-learns : goal.returns-in_err-push-clause-learns
returns-in_err-push-clause-learns g c = learns-trans _ _ _ c.loop-session.invariant.learns c.lend.ensures.learns

pub loop-session-preserved : goal.loop-session-preserved
loop-session-preserved g c =
    let was = c.loop-session.invariant in
    let step = c.in-Some.ensures.steps in
    let lent = c.lend.ensures in
    let pushed = c.in_ok-push.ensures.items in record {
      learns = learns-trans _ _ _ was.learns lent.learns;
      len = omega (arith, step.1, was.len, ap length step.0);
      seats = seats-next _ _ _ _ _ _ _ pushed step.0 (ap seat_of lent.same ∙ c.join-ended.ensures) was.seats;
      near = near-next _ _ _ _ _ lent.learns was.near pushed lent.near;
    }

pub returns-clause-seats : goal.returns-clause-seats
returns-clause-seats g c = seats-end _ _ _ _ c.in-None.ensures.steps.0 c.loop-session.invariant.len c.loop-session.invariant.seats
