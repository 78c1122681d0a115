use Rattle.std.proofs.Common.{◌∙◌}
use Rattle.change_feed.specs.Lists.{listed}
use Rattle.reactive_registry.specs.Registered.{kept_in}
use Rattle.reactive_registry.proofs.Pieces.{told-pieces, past-both, linked-neither}
use Rattle.reactive_registry.proofs.telling.tell_all.Goals as goal

-- what was told before the piece is past the front, and so is what was told of it
pub returns-in_err-tell_piece-clause-behind : goal.returns-in_err-tell_piece-clause-behind
returns-in_err-tell_piece-clause-behind c front past =
    let left = c.loop-piece.invariant.behind front past in
    let both = past-both (listed c.loop-piece.rest) c.in-Some.piece.now (listed c.next_piece.new.self) c.in-Some.ensures.piece front left.0 in
    λ q. c.tell_piece.ensures.behind front both.0 q ∙ left.1 q

pub returns-clause-behind : goal.returns-clause-behind
returns-clause-behind c front past = (c.loop-piece.invariant.behind front past).1

-- each piece is told after those before it
pub loop-piece-preserved : goal.loop-piece-preserved
loop-piece-preserved c =
    let places = c.args.places.now in
    let before = c.loop-piece.subscribers.entries in
    let after = c.tell_piece.new.subscribers.entries in
    let all = listed c.loop-piece.rest in
    let piece = c.in-Some.piece.now in
    let rest = listed c.next_piece.new.self in
    let split = c.in-Some.ensures.piece in
    let kept = c.loop-piece.invariant in
    record {
      ok = λ q. told-pieces all piece rest split places q (kept_in before q) (kept_in after q) (c.in_ok-tell_piece.ensures.ok q) ∙ kept.ok q;
      behind = λ front past.
          let left = kept.behind front past in
          let both = past-both all piece rest split front left.0 in
          (both.1, λ q. c.tell_piece.ensures.behind front both.0 q ∙ left.1 q);
      elsewhere = λ q none.
          let left = kept.elsewhere q none in
          let both = linked-neither all piece rest split places q left.0 in
          (both.1, c.tell_piece.ensures.elsewhere q both.0 ∙ left.1);
    }
