use Rattle.std.proofs.Common.{◌≡◌, ◌++◌, length}
use Rattle.plain_data.specs.code.Merging.{before, after}
use Rattle.plain_data.proofs.overlay.copy_before.Given as goal

-- what is copied and what is below the key in the rest is what was there and what is below it in all
abbrev pub invariant-loop-pair : goal.invariant-loop-pair
invariant-loop-pair g l = (l.pairs.items ++ before l.key l.rest ≡ l.fn.pairs.items ++ before l.key l.under) × (after l.key l.rest ≡ after l.key l.under)

abbrev pub decreases-loop-pair : goal.decreases-loop-pair
decreases-loop-pair g l = length l.rest
