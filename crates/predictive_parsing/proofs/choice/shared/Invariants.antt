use Rattle.std.proofs.Common.{◌≡◌, ◌+◌, drop}
use Rattle.predictive_parsing.specs.Choices.{shared}
use Rattle.predictive_parsing.proofs.choice.shared.Given as goal

-- so many are in common, and what the rest of both has in common comes to that
abbrev pub invariant-loop-at : goal.invariant-loop-at
invariant-loop-at l = l.at + shared (drop l.at l.word) (drop l.at l.bytes) ≡ shared l.word l.bytes
