use Rattle.std.proofs.Common.{◌≡◌, ◌+◌, ◌≤◌, length, take}
use Rattle.txn_lang.specs.Journals.{own}
use Rattle.store_tests.proofs.attempts.appending.next_seq.Given as goal

-- the client's commits so far are counted
abbrev pub invariant-loop-number : goal.invariant-loop-number
invariant-loop-number g l = (l.seq ≡ length (own l.fn.client (take l.number l.fn.journal.commits)) + 1) × (l.seq ≤ l.number + 1)
