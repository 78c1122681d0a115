use Rattle.std.proofs.Common.{rules, ◌<◌}
use Rattle.predictive_parsing.proofs.Cursors.{made_as}
use Rattle.dtext.specs.Spellings.{hex_value}
use Rattle.dtext.proofs.TextFits.{hex_small}
use Rattle.dtext.proofs.text.hex_digit.Goals as goal

pub returns-clause-below : goal.returns-clause-below
returns-clause-below c =
    made_as hex_value (λ n. n < 16) hex_small c.args.cursor.now c.take.new.self c.take.result
    (c.take.ensures.reads hex_value (λ item made r. search rules))
