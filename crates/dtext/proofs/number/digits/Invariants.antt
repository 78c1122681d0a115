use Rattle.std.proofs.Common.{◌≡◌, ◌≤◌, length}
use Rattle.dtext.specs.code.Reading as spec
use Rattle.dtext.proofs.number.digits.Given as goal

-- the digits that are still to come
abbrev pub invariant-loop-more : goal.invariant-loop-more
invariant-loop-more l = (spec.digits l.limit l.value l.cursor ≡ spec.digits l.limit l.first l.fn.cursor) × (l.value ≤ l.limit)

abbrev pub decreases-loop-more : goal.decreases-loop-more
decreases-loop-more l = length l.cursor
