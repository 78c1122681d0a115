use Rattle.std.proofs.Common.{◌∙◌, ap, drop, arith, ◌+◌}
use Rattle.predictive_parsing.specs.Choices.{closer, closest}
use Rattle.predictive_parsing.proofs.Choices.{closest_on, closest_end}
use Rattle.predictive_parsing.proofs.choice.closest.Goals as goal

pub loop-word-preserved : goal.loop-word-preserved
loop-word-preserved g c =
    let spelled = g.W.Spelled.spelled in
    let ts = c.args.bytes.now in
    let words = c.args.others.now in (
      ap (λ x. closest spelled ts x (drop (c.loop-word.word-index + 1) words)) {y = closer spelled ts c.loop-word.best.0 c.word-item.result}
          c.closer-best.ensures.word
          ∙ closest_on spelled ts c.loop-word.best.0 (closest spelled ts c.args.first words) words c.loop-word.word-index
          c.loop-word.invariant.0 c.word-item.result c.loop-word-test.true c.word-item.is,
      c.closer-best.ensures.count,
    )

pub returns : goal.returns
returns g c =
    let spelled = g.W.Spelled.spelled in
    closest_end spelled c.args.bytes.now c.loop-word.best.0 (closest spelled c.args.bytes.now c.args.first c.args.others.now)
    c.args.others.now c.loop-word.word-index c.loop-word.invariant.0 (omega arith)
