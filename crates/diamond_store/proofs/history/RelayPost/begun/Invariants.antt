use Rattle.std.proofs.Common.{◌≤◌, ◌-◌, length}
use Rattle.journal_relay.specs.Relays.{Relays}
use Rattle.diamond_store.proofs.history.RelayPost.begun.Given as goal

-- the relay stands for what the token knows, which has what it knew at first
abbrev pub invariant-loop-relay : goal.invariant-loop-relay
invariant-loop-relay g l = Relays l.token.seen l.relay × (l.end ≤ length l.token.seen)

-- what is left to be followed
abbrev pub decreases-loop-relay : goal.decreases-loop-relay
decreases-loop-relay g l = l.end - l.relay.to
