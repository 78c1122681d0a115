use Rattle.std.proofs.Common.{rules, arith, sym, ◌∙◌}
use Rattle.std.proofs.lemmas.Grind.{common_steps}
use Rattle.predictive_parsing.specs.Bytes.{word}
use Rattle.predictive_parsing.proofs.Cursors.{word_more, word_refused, word_done}
use Rattle.predictive_parsing.proofs.bytes.Cursor+u8.word.Goals as goal

pub returns-in_err-byte-clause-reads : goal.returns-in_err-byte-clause-reads
returns-in_err-byte-clause-reads c =
    let k =
    word_refused c.args.word.now c.loop-byte.self c.loop-byte.byte-index c.byte.new.self
    (word c.args.word.now c.args.self.now) c.loop-byte.invariant (search rules) in
    first_of (search (rules, k), grind (arith, common_steps, k))

pub loop-byte-preserved : goal.loop-byte-preserved
loop-byte-preserved c =
    sym (word_more c.args.word.now c.loop-byte.self c.loop-byte.byte-index c.byte.new.self (search rules) (search rules))
    ∙ c.loop-byte.invariant

pub returns-clause-reads : goal.returns-clause-reads
returns-clause-reads c = sym c.loop-byte.invariant ∙ word_done c.args.word.now c.loop-byte.self c.loop-byte.byte-index (search rules)
