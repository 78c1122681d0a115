use Rattle.std.proofs.Common.{◌≡◌, ℕ, ◌≤◌, ◌<◌, length}
use Rattle.journal_core.specs.code.ByShard.{HasGrown, room_at}
use Rattle.journal_core.proofs.log.reserve_each.Given as goal

-- the lists up to a place have memory
abbrev pub invariant-loop-place : goal.invariant-loop-place
invariant-loop-place l =
    HasGrown l.fn.lists.items l.lists.items × (l.place-end ≡ length l.fn.lists.items) × ((place : ℕ) → place < l.place → l.room ≤ room_at l.lists.items place)
