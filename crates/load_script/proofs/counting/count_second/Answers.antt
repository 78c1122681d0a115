use Rattle.std.proofs.Common.{rules, ◌==◌, ◌∙◌}
use Rattle.std.proofs.lemmas.Iterator.Consumers.{count_from_yields_List, YieldsList-from_filter, YieldsList-at}
use Rattle.std.proofs.lemmas.Iterator.Splits.{YieldsList-from_slice_split}
use Rattle.std.proofs.lemmas.List.Sums.{length-filter}
use Rattle.std.specs.List.{slice_split}
use Rattle.dio_core.specs.declared.line.TheConstants.{NEWLINE}
use Rattle.load_script.specs.Counting.{is_second}
use Rattle.load_script.proofs.counting.count_second.Goals as goal
use borrow.Author.Tests.{tests}

-- the lines are the parts between newlines, of which those are counted that pass
pub returns : goal.returns
returns c =
    count_from_yields_List c.filter.result _ c.count.ensures.ran
    (YieldsList-from_filter _ (is_second c.args.word.now)
    (YieldsList-at c.filter.ensures.source (YieldsList-from_slice_split _ (λ b. b == NEWLINE) c.args.output.now c.split.ensures.rest
    c.split.ensures.done c.split.ensures.closure (λ x b q k. search (rules, tests))))
    c.filter.ensures.closure (λ x b q k. search (rules, tests)))
    ∙ length-filter (is_second c.args.word.now) (slice_split (λ b. b == NEWLINE) c.args.output.now)
