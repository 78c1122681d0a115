-- What the loops over links know on their way: of those that were accepted, and of those that were given back. The laws of
-- proofs/Listing tie it to `Accepting` and `ServedAll` of specs/Accounts.
use Rattle.std.specs.Prelude.{◌≡◌, ◌≤◌, ◌<◌, ◌+◌, ℕ, Bool, List, ◌++◌, length, map, All, Option, Result, Ok, Err}
use mathlib.Core.List.{IsPrefix}
use Rattle.dio_core.specs.Links.{Both}
use Rattle.dio_core.specs.Sources.{with_prefix}
use Rattle.dio_core.specs.Sinks.{with_more}
use Rattle.diamond_store.specs.Passes.{Passed, known_of}
use Rattle.diamond_store.specs.declared.join_error.JoinError.{JoinError}
use Rattle.diamond_store.specs.declared.join_error.JoinError.TheVariants as join_error
use Rattle.history_lock.specs.declared.limits.TheConstants.{MOST_DRAWS}
use Rattle.session_core.specs.Explained.{setting_of}
use Rattle.diamond_server.specs.Accounts.{Account, Seat, IsServed, Rises, given_of, status_in, joined_in, link_in, faults_of}
use Rattle.diamond_server.specs.Accounts.{Gatherings, Accepting}
use Rattle.diamond_server.specs.Ways.{Promising}

-- what the client knew at its session's end, if there is one, this pass knows
abbrev pub IsNearTalk : Passed → Result (Passed × Passed) JoinError → Type 0
IsNearTalk pass (Ok t) = IsPrefix t.1.journal pass.journal × (t.1.denials ≤ pass.denials)
IsNearTalk pass (Err e) = Unit {0}

abbrev pub IsNear : {L : Type 0} → Passed → Account L → Type 0
IsNear pass a = IsNearTalk pass a.talk

-- how the client of the next link joined, its number from `mid` to below `high`
abbrev pub JoinsNext : Passed → ℕ → ℕ → Result Passed JoinError → Type 0
JoinsNext pass mid high (Ok p) = (setting_of (known_of p) ≡ setting_of (known_of pass)) × (mid ≤ p.client) × (p.client < high)
JoinsNext pass mid high (Err (join_error.Clients drawn)) = (MOST_DRAWS ≤ drawn) × (drawn ≤ pass.draws)
JoinsNext pass mid high (Err join_error.NoMemory) = Unit {0}

-- the same from one pass to the next, by the numbers of clients that it has drawn since, of which the store's first is `first`
abbrev pub JoinsSince : ℕ → Passed → Passed → Result Passed JoinError → Type 0
JoinsSince first old new joined = JoinsNext new (first + old.draws) (first + new.draws) joined

-- what was accepted from one pass to the next
abbrev pub AcceptingSince : {L : Type 0} → ℕ → Passed → Passed → ℕ → Gatherings L → List (Seat L) → Bool → Type 0
AcceptingSince first old new most g seats failed = Accepting new (first + old.draws) (first + new.draws) most g seats failed

-- so many turns were made, each of which accepted a link
pub record Turns {L : Type 0} (pass : Passed) (low high turns : ℕ) (links rest : Option (List L)) (before after : ℕ) (seats : List (Seat L)) : Type 0 where
  pub taken : links ≡ with_prefix (map link_in seats) rest
  pub clients : Rises pass low (map joined_in seats) high
  pub many : length seats ≡ turns
  pub count : after ≡ before

-- some of all links were given back, and the rest is to come
pub record Settling {L : Type 0} (Promised : Promising) (told : L → Both) (pass : Passed) (all rest : List (Account L)) (old new : Option (List (L × ℕ))) (faulted : ℕ) : Type 0 where
  pub done : List (Account L)
  pub parts : done ++ rest ≡ all
  pub given : new ≡ with_more old (map given_of done)
  pub faulted_is : faulted ≡ faults_of (map status_in done)
  pub served : All (IsServed Promised told pass) done
  pub near : All (IsNear pass) rest
