use Rattle.std.proofs.Common.{◌≡◌, ◌≤◌, ◌++◌, length}
use Rattle.journal_relay.proofs.relay.push_all.Given as goal

-- the changes added so far, and those that are left, are all; there is memory for these
abbrev pub invariant-loop-change : goal.invariant-loop-change
invariant-loop-change l =
    (length l.change-iterator.rest.items ≤ l.all.1) × (l.all.0 ++ l.change-iterator.rest.items ≡ l.fn.all.0 ++ l.fn.changes.items)
