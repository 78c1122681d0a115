use Rattle.std.proofs.Common.{◌≡◌, length, arith, inl, inr}
use Rattle.std.proofs.lemmas.Bool.Decides.{nat_tests}
use Rattle.predictive_parsing.proofs.Choices.{shared_on, shared_stop, shared_end}
use Rattle.predictive_parsing.proofs.choice.shared.Goals as goal

pub loop-at-init : goal.loop-at-init
loop-at-init c = omega arith

pub returns-then-at-bytes : goal.returns-then-at-bytes
returns-then-at-bytes c = shared_end c.args.word.now c.args.bytes.now c.loop-at.at c.loop-at.invariant (inr c.if-at-bytes.true)

pub returns-then-bytes-at : goal.returns-then-bytes-at
returns-then-bytes-at c =
    let different = c.if-bytes-at.true in
    shared_stop c.args.word.now c.args.bytes.now c.loop-at.at c.loop-at.invariant c.loop-at-test.true (omega arith) (grind (arith, nat_tests, different))

pub loop-at-preserved : goal.loop-at-preserved
loop-at-preserved c = shared_on c.args.word.now c.args.bytes.now c.loop-at.at c.loop-at.invariant c.loop-at-test.true (omega arith) (omega arith)

pub returns : goal.returns
returns c =
    let k : c.loop-at.at ≡ length c.args.word.now = omega arith in
    let e = shared_end c.args.word.now c.args.bytes.now c.loop-at.at c.loop-at.invariant (inl (omega arith)) in
    omega arith
