-- What `remote` promises: it takes the one link of its listener, and runs a session over it.
use Rattle.std.specs.Prelude.{◌≡◌, ◌⊎◌, ℕ, List, [], ◌∷◌, Option, Some, IfSome, refl}
use Rattle.dio_core.specs.Counts.{Rose}
use Rattle.dio_core.specs.Links.{Both}
use Rattle.dio_core.specs.Sources.{with_prefix}
use Rattle.dio_core.specs.Sinks.{with_more}
use Rattle.script_runner.specs.declared.status.TheConstants.{WHOLE, READ_FAULT, WRITE_FAULT, NO_MEMORY, TOO_MANY_LINES}
use Rattle.diamond_server.specs.Accounts.{Gatherings}
use Rattle.remote_command.specs.declared.remote.TheConstants.{LINK_FAULT, BROKEN_LINK}
use Rattle.remote_command.specs.Linked.{KeepsPromises}
use Rattle.diamond_cli.specs.declared.line.TheConstants.{LISTENER_FAULT}
use Rattle.diamond_cli.specs.declared.remote.TheConstants.{NO_LINK}
use Rattle.diamond_cli.specs.Serving.{IsAmong}

NO_LINK-is : NO_LINK ≡ 12
NO_LINK-is = refl

-- A SESSION WAS RUN OVER THE FIRST LINK that was left, from the link as it was accepted to the link as it was given back, with the
-- session's status. No accept failed.
pub record IsReached {L : Type 0} (told : L → Both) (g : Gatherings L) (status : ℕ) (x y : Both) : Type 0 where
  pub was : L
  pub link : L
  pub accepted : g.links ≡ with_prefix (was ∷ []) g.links_then
  pub counted : g.faults_then ≡ g.faults
  pub session : KeepsPromises told was link status x y
  pub given_back : g.given_then ≡ with_more g.given ((link, status) ∷ [])

-- the statuses of a session, memory aside
abbrev pub session_statuses : List ℕ
session_statuses = WHOLE ∷ READ_FAULT ∷ WRITE_FAULT ∷ LINK_FAULT ∷ TOO_MANY_LINES ∷ BROKEN_LINK ∷ []

session_statuses-are : session_statuses ≡ 0 ∷ 3 ∷ 4 ∷ 6 ∷ 9 ∷ 10 ∷ []
session_statuses-are = refl

-- WHAT `remote` PROMISES, from the listener, the source and the sink before it to them after it.
pub record Reaches {L : Type 0} (told : L → Both) (g : Gatherings L) (status : ℕ) (x y : Both) : Type 0 where
  -- there are nine statuses
  pub statuses : IsAmong (NO_MEMORY ∷ LISTENER_FAULT ∷ NO_LINK ∷ session_statuses) status
  -- at 0, 3, 4, 6, 9 and 10 a session was run
  pub reached : IsAmong session_statuses status → IsReached told g status x y
  -- at 8 an accept failed
  pub listener : status ≡ LISTENER_FAULT → Rose g.faults g.faults_then
  -- at 12 no link is left
  pub none_left : status ≡ NO_LINK → IfSome g.links (λ links. links ≡ [])
  -- and where none is, and no accept failed, that is the status, memory aside
  pub nobody : g.links ≡ Some [] → ¬ (Rose g.faults g.faults_then) → (status ≡ NO_LINK) ⊎ (status ≡ NO_MEMORY)
  -- at 8 and 12 nothing was read and nothing was written
  pub untouched : IsAmong (LISTENER_FAULT ∷ NO_LINK ∷ []) status → y ≡ x
