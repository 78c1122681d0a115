use Rattle.std.proofs.Common.{◌≡◌, drop}
use Rattle.predictive_parsing.specs.Choices.{shared, closest}
use Rattle.predictive_parsing.proofs.choice.closest.Given as goal

-- the best so far, and the words that are left; and how much the best has in common
abbrev pub invariant-loop-word : goal.invariant-loop-word
invariant-loop-word g l =
    (closest g.W.Spelled.spelled l.bytes l.best.0 (drop l.word-index l.others) ≡ closest g.W.Spelled.spelled l.bytes l.fn.first l.others)
    × (l.best.1 ≡ shared (g.W.Spelled.spelled l.best.0) l.bytes)
