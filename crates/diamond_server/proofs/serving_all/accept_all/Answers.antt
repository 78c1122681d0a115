use Rattle.std.proofs.Common.{arith, ◌∷◌, [], ◌++◌, ap, ◌∙◌}
use Rattle.diamond_store.proofs.Waited.{learns-trans}
use Rattle.diamond_server.proofs.Listing.{turns-next, turns-failed, turns-none, turns-end}
use Rattle.diamond_server.proofs.serving_all.accept_all.Goals as goal

pub returns-in-Failed-clause-accepted : goal.returns-in-Failed-clause-accepted
returns-in-Failed-clause-accepted g c =
    let le = c.loop-turn-test.true in
    turns-failed _ _ _ _ _ _ _ _ _ _ _ _ _ _ _ c.loop-turn.invariant.turns (omega arith) c.in-Failed.ensures.accepts c.reserve.ensures.items
    c.in-Failed.ensures.counted

pub returns-in-NoMore-clause-accepted : goal.returns-in-NoMore-clause-accepted
returns-in-NoMore-clause-accepted g c =
    let le = c.loop-turn-test.true in
    turns-none _ _ _ _ _ _ _ _ _ _ _ _ _ _ _ c.loop-turn.invariant.turns (omega arith) c.in-NoMore.ensures.accepts.0 c.in-NoMore.ensures.accepts.1
    c.reserve.ensures.items c.in-NoMore.ensures.counted

pub loop-turn-preserved : goal.loop-turn-preserved
loop-turn-preserved g c =
    let next = c.begin_next.ensures in
    let draws = next.learns.draws in record {
      learns = learns-trans _ _ _ c.loop-turn.invariant.learns next.learns;
      given = c.accept.ensures.same ∙ c.loop-turn.invariant.given;
      turns = turns-next _ _ _ _ _ _ _ _ _ _ _ _ _ _ _ _ c.loop-turn.invariant.turns c.in-Link.ensures.accepts next.link next.learns (omega arith) next.joined
          c.in-Link.ensures.counted (c.push_reserved.ensures.items ∙ ap (λ w. w ++ c.begin_next.result ∷ []) c.reserve.ensures.items);
    }

pub returns-clause-accepted : goal.returns-clause-accepted
returns-clause-accepted g c =
    let le = c.loop-turn-test.false in
    turns-end _ _ _ _ _ _ _ _ _ _ _ _ c.loop-turn.invariant.turns c.loop-turn.auto._turn-end (omega arith)
