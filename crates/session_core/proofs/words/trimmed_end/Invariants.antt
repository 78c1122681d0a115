use Rattle.std.proofs.Common.{◌≡◌, ◌≤◌, length, take}
use Rattle.session_core.specs.Words.{trimmed_end}
use Rattle.session_core.proofs.words.trimmed_end.Given as goal

-- what lies behind the end is blank
abbrev pub invariant-loop-end : goal.invariant-loop-end
invariant-loop-end l = (trimmed_end (take l.end l.text) ≡ trimmed_end l.text) × (l.end ≤ length l.text)

abbrev pub decreases-loop-end : goal.decreases-loop-end
decreases-loop-end l = l.end
