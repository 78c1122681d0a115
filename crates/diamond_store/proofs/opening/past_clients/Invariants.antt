use Rattle.std.proofs.Common.{◌≡◌, ◌≤◌, take}
use Rattle.history_lock.specs.declared.limits.TheConstants.{LAST_FIRST}
use Rattle.history_lock.specs.Entries.{NamesBelow}
use Rattle.diamond_store.specs.Appending.{client_of}
use Rattle.diamond_store.specs.Opening as opening
use Rattle.diamond_store.specs.Opening.{AreClients}
use Rattle.diamond_store.proofs.opening.past_clients.Given as goal

-- the number is past the clients so far, and the clients of the rest leave room
abbrev pub invariant-loop-commit : goal.invariant-loop-commit
invariant-loop-commit l = record {
  greatest : l.past ≡ opening.past_clients (take l.commit-index l.kept);
  below : NamesBelow client_of l.past (take l.commit-index l.kept);
  small : l.past ≤ LAST_FIRST;
  all : AreClients l.fn.kept;
}
