use Rattle.std.proofs.Common.{◌≡◌, ◌∙◌, true, false, is_some, sym, ap, arith}
use Rattle.change_feed.specs.Lists.{listed}
use Rattle.abort_witness.specs.Pairs.{meets, first_clash}
use Rattle.abort_witness.proofs.Pieces.{clash-found, clash-behind, length-filtered, length-split}
use Rattle.abort_witness.proofs.finding.first_clash_in.Goals as goal

-- a piece that answers has the first clash of all
pub returns-then-is_some-clause-first : goal.returns-then-is_some-clause-first
returns-then-is_some-clause-first g c =
    let found : is_some (first_clash c.args.based.now c.in-Some.piece.now) ≡ true =
    ap is_some (sym c.first_clash-number.ensures.first) ∙ sym c.is_some.ensures ∙ c.if-is_some.true in
    c.first_clash-number.ensures.first
    ∙ clash-found c.args.based.now (listed c.loop-piece.changes) c.in-Some.piece.now (listed c.next_piece.new.self) c.in-Some.ensures.piece found
    ∙ c.loop-piece.invariant.first

-- one that doesn't leaves it to the rest
pub loop-piece-preserved : goal.loop-piece-preserved
loop-piece-preserved g c =
    let based = c.args.based.now in
    let all = listed c.loop-piece.changes in
    let piece = c.in-Some.piece.now in
    let rest = listed c.next_piece.new.self in
    let split = c.in-Some.ensures.piece in
    let made = c.first_clash-number.ensures in
    let kept = c.loop-piece.invariant in
    let none : is_some (first_clash based piece) ≡ false = ap is_some (sym made.first) ∙ sym c.is_some.ensures ∙ c.if-is_some.false in
    let meeting = length-filtered (meets based) all piece rest split in
    let count = length-split all piece rest split in
    record {
      first = clash-behind based all piece rest split none ∙ kept.first;
      steps =
          (let a = made.steps in
          let b = kept.steps in
          omega (arith, a, b, meeting));
      few =
          (let a = made.few in
          let b = kept.few in
          omega (arith, a, b, count));
    }
