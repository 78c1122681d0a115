use Rattle.std.proofs.Common.{◌≡◌, ◌≤◌, ◌+◌, drop}
use Rattle.journal_core.specs.Holds.{bars_of}
use Rattle.hold_core.specs.Books.{most_hits}
use Rattle.hold_core.proofs.book.first_bar.Given as goal

-- none of the holds so far bars, none is the client's, and a step is left for each observation of the others that is met
abbrev pub invariant-loop-hold : goal.invariant-loop-hold
invariant-loop-hold g l =
    (bars_of (drop l.hold-index l.holds) l.client l.deltas ≡ bars_of l.fn.holds l.fn.client l.fn.deltas)
    × (l.steps + most_hits (drop l.hold-index l.holds) l.deltas ≤ l.fn.steps + most_hits l.fn.holds l.fn.deltas)
