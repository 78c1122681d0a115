-- How many calls a line of watches makes at most, whatever it is answered.
use Rattle.std.specs.Prelude.{◌≡◌, ℕ, ◌+◌, ◌*◌, [], ◌∷◌, length, codes, refl}
use Rattle.txn_lang.specs.declared.limits.TheConstants.{TICK_LIMIT}
use Rattle.rerun_driver.specs.Watches.{Watches}
use Rattle.client_watches.specs.declared.watching.Watching.{Watching}
use Rattle.client_watches.specs.Watching.{none_yet}
use Rattle.client_watches.specs.GoingOn.{WatchLine}

-- A run reads a value for each tick that it has, at most. With each read changes are asked for; and the value may be let go when
-- the line ends.
abbrev pub run_calls : ℕ
run_calls = 3 * TICK_LIMIT

-- how many observations the last runs made
abbrev pub all_observed : Watches → ℕ
all_observed [] = 0
all_observed (entry ∷ watches) = length entry.1.observations + all_observed watches

-- what may be let go of all that is held when a line begins
abbrev pub most_dropped : Watching → ℕ
most_dropped w = length w.loose + all_observed w.watches

-- THE CALLS OF A LINE, AT MOST, a row a line: `sync` takes what changed, and runs each watch once; `watch` runs one more.
abbrev pub most_calls : WatchLine → Watching → ℕ
most_calls WatchLine.sync w = 1 + length w.watches * run_calls + most_dropped w
most_calls (WatchLine.watch name body) w = 1 + (length w.watches + 1) * run_calls + most_dropped w
most_calls (WatchLine.unwatch name) w = most_dropped w

-- ---- worked lines

-- a run makes 10,000 reads at most
one-run : run_calls ≡ 30000
one-run = refl

-- where there is no watch, one call takes what changed, and that is all
sync-of-none : (at : ℕ) → most_calls WatchLine.sync (none_yet at) ≡ 1
sync-of-none at = refl

-- of a watch that isn't there nothing may be let go
unwatch-of-none : (at : ℕ) → most_calls (WatchLine.unwatch (codes "w")) (none_yet at) ≡ 0
unwatch-of-none at = refl
