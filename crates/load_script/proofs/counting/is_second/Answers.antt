use Rattle.std.proofs.Common.{rules, ◌==◌, ap, sym, ◌∙◌}
use Rattle.std.specs.Option.{option_map}
use Rattle.std.proofs.lemmas.Iterator.Consumers.{nth_from_yields_List}
use Rattle.std.proofs.lemmas.Iterator.Splits.{YieldsList-from_slice_split}
use Rattle.load_script.specs.Counting.{SPACE, is_word}
use Rattle.load_script.proofs.counting.is_second.Goals as goal
use borrow.Author.Tests.{tests}

-- the line has a second word, and it is compared
pub returns-in-Some : goal.returns-in-Some
returns-in-Some c =
    let second = nth_from_yields_List _ _ 1 c.nth.ensures.ran
    (YieldsList-from_slice_split _ (λ b. b == SPACE) c.args.line.now c.split.ensures.rest c.split.ensures.done c.split.ensures.closure
    (λ x b q k. search (rules, tests))) in
    c.eq.ensures ∙ ap (λ r. is_word c.args.word.now (option_map (λ w. w.now) r)) (sym c.in-Some.is) ∙ ap (is_word c.args.word.now) second

-- or it has none
pub returns-in-None : goal.returns-in-None
returns-in-None c =
    let second = nth_from_yields_List _ _ 1 c.nth.ensures.ran
    (YieldsList-from_slice_split _ (λ b. b == SPACE) c.args.line.now c.split.ensures.rest c.split.ensures.done c.split.ensures.closure
    (λ x b q k. search (rules, tests))) in
    ap (λ r. is_word c.args.word.now (option_map (λ w. w.now) r)) (sym c.in-None.is) ∙ ap (is_word c.args.word.now) second
