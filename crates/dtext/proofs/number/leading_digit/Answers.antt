use Rattle.std.proofs.Common.{rules, ◌≤◌}
use Rattle.predictive_parsing.proofs.Cursors.{made_as}
use Rattle.dtext.specs.code.Reading.{leading}
use Rattle.dtext.proofs.NumberFits.{leading_small}
use Rattle.dtext.proofs.number.leading_digit.Goals as goal

pub returns-clause-below : goal.returns-clause-below
returns-clause-below c =
    made_as leading (λ n. n ≤ 9) leading_small c.args.cursor.now c.take.new.self c.take.result
    (c.take.ensures.reads leading (λ item made r. search rules))
