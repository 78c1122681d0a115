use Rattle.std.proofs.Common.{◌≡◌, ℕ, ◌<◌, true, length, slice_index_or}
use Rattle.txn_lang.specs.declared.run.Seen.{Seen}
use Rattle.hold_core.specs.code.Marks.{is_marked}
use Rattle.hold_core.proofs.marks.marks_of.Given as goal

-- those so far are marked
abbrev pub invariant-loop-seen : goal.invariant-loop-seen
invariant-loop-seen l =
    (length l.marks ≡ 256)
    × ((k : ℕ) (d : Seen) → k < l.seen-index → is_marked l.marks (slice_index_or l.observations k d).address ≡ true)
