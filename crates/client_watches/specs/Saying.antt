-- Which replies a line of watches says.
use Rattle.std.specs.Prelude.{ℕ, ◌≤◌}
use Rattle.session_text.specs.declared.reply.Reply.{Reply}
use Rattle.session_text.specs.declared.reply.Reply.TheVariants as reply

-- a report, that all hold, that a value was late, that a watch was forgotten, or a refusal; at no number above one
abbrev pub IsOfWatches : ℕ → Reply → Type 0
IsOfWatches most (reply.Ran name n outcome) = n ≤ most
IsOfWatches most (reply.Current n) = n ≤ most
IsOfWatches most (reply.Late n horizon) = Unit {0}
IsOfWatches most (reply.Refused reason) = Unit {0}
IsOfWatches most reply.Dropped = Unit {0}
IsOfWatches most r = ⊥

-- ---- worked lines

-- that a watch was forgotten has no number
of-watches-dropped : (most : ℕ) → IsOfWatches most reply.Dropped
of-watches-dropped most = tt

-- that nothing is open is said by no line of watches
of-watches-idle : (most : ℕ) → IsOfWatches most reply.Idle → ⊥
of-watches-idle most said = said
