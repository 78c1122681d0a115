-- What a session over a link to a server promises, by the status that it ends with.
use Rattle.std.specs.Prelude.{◌≡◌, ◌⊎◌, ◌==◌, ℕ, Bool, true, false, if◌then◌else◌, List, [], ◌∷◌, Option, refl}
use Rattle.dio_core.specs.Counts.{Rose}
use Rattle.dio_core.specs.Links.{Both, Outgoing}
use Rattle.txn_grammar.specs.Characters.{Text}
use Rattle.docc_prepare.specs.Calls.{Known}
use Rattle.script_runner.specs.declared.status.TheConstants.{NO_MEMORY}
use Rattle.diamond_server.specs.declared.status.TheConstants.{STORE_FAULT}
use Rattle.diamond_server.specs.Talking.{Told}
use Rattle.diamond_server.specs.Promises.{Promises}
use Rattle.remote_wire.specs.declared.request.Request.{Request}
use Rattle.remote_wire.specs.declared.request.Request.TheVariants as request
use Rattle.remote_link.specs.Exchanging.{HasFailed, TakesPart}
use Rattle.remote_link.specs.Ends.{LinkEnd, new_end, stands, by_link, does_over}
use Rattle.remote_link.specs.Talks.{Talk, HasTalked, HasTalkedShort}
use Rattle.remote_command.specs.declared.remote.TheConstants.{LINK_FAULT, BROKEN_LINK}
use Rattle.remote_command.specs.Running.{IsHeld, IsHeldShort, IsUngreeted}

statuses-are : LINK_FAULT ∷ BROKEN_LINK ∷ [] ≡ 6 ∷ 10 ∷ []
statuses-are = refl

-- ---- what the caller of a link is

-- what it stands for
abbrev pub knows : {K : Type 0} → LinkEnd K → Known
knows e = stands e.kept

-- it stands nowhere else than its link
abbrev pub nowhere : {K : Type 0} → LinkEnd K → ℕ
nowhere e = 0

-- ---- a session over a link

-- A SESSION OVER A LINK WAS HELD: a client greeted, and did the lines that were read. Each call went as a request: the link took its
-- frame, and gave the frame of what the call was answered. So the link took the frame of the greeting and then those of these requests,
-- and gave those of their answers, and no other bytes, where it tells; and neither of its counts rose.
pub record IsHeldOver {K : Type 0} (side : K → Both) (link : K) (ended : LinkEnd K) (x y : Both) (Reads : List Told → Text → Text → Type 0)
    : Type 0 where
  pub held : IsHeld knows nowhere (by_link side) (does_over side) (new_end link) ended x y Reads
  pub talk : Talk
  pub talked : HasTalked ((request.Hello, held.begins.answer) ∷ talk) (side link) (side ended.link)

-- IT WAS CUT SHORT: the link took the frame of the greeting and then those of the requests of these lines' calls, gave those of their
-- answers, and then took a part at most of the frame of the next request.
pub record IsHeldShortOver {K : Type 0} (side : K → Both) (link : K) (ended : LinkEnd K) (x y : Both)
    (Takes : List Told → Outgoing → Outgoing → Type 0) : Type 0 where
  pub held : IsHeldShort knows nowhere (by_link side) (does_over side) (new_end link) ended x y Takes
  pub talk : Talk
  pub next : Option Request
  pub talked : HasTalkedShort ((request.Hello, held.begins.answer) ∷ talk) next (side link) (side ended.link)

-- The greeting failed: of its frame the link took a part.
pub record IsUngreetedOver {K : Type 0} (side : K → Both) (link : K) (ended : LinkEnd K) (x y : Both) : Type 0 where
  pub ungreeted : IsUngreeted (does_over side) (new_end link) ended x y
  pub part : TakesPart request.Hello (side link) (side ended.link)

-- one or the other
abbrev pub IsCutShortOver : {K : Type 0} → (K → Both) → K → LinkEnd K → Both → Both → (List Told → Outgoing → Outgoing → Type 0) → Type 0
IsCutShortOver side link ended x y Takes = IsHeldShortOver side link ended x y Takes ⊎ IsUngreetedOver side link ended x y

-- ---- the statuses

-- The session's own status, of a link that failed or broke: to the session in between that is a store that failed.
abbrev pub plain : ℕ → ℕ
plain status = if status == BROKEN_LINK then STORE_FAULT else status

plain-examples : plain 10 ∷ plain 6 ∷ plain 9 ∷ [] ≡ 6 ∷ 6 ∷ 9 ∷ []
plain-examples = refl

-- WHAT A SESSION OVER A LINK PROMISES, from the link before it to the link that is given back: all that a session promises, where a link
-- that has failed or is broken stands for a store that has failed.
pub record KeepsPromises {K : Type 0} (side : K → Both) (link back : K) (status : ℕ) (x y : Both) : Type 0 where
  pub ended : LinkEnd K
  pub given_back : ended.link ≡ back
  pub session : Promises (IsHeldOver side link ended x y) (IsCutShortOver side link ended x y) (knows (new_end link)) (knows ended)
      (plain status) x y
  -- at 6 a count of the link rose
  pub failed : status ≡ LINK_FAULT → HasFailed (side link) (side back)
  -- at 10 it gave what is no answer, or what goes back
  pub broken : status ≡ BROKEN_LINK → ended.broken ≡ true

-- ---- on the way

-- one of two counts has risen
abbrev pub HasRisen : ℕ → ℕ → ℕ → ℕ → Type 0
HasRisen reads writes reads_then writes_then = Rose reads reads_then ⊎ Rose writes writes_then

-- the status, by that of the session over the caller, and whether the link is broken or has failed
abbrev pub status_over : ℕ → Bool → Bool → ℕ
status_over ended broken failed =
    if ended == STORE_FAULT then (if broken then BROKEN_LINK else (if failed then LINK_FAULT else NO_MEMORY)) else ended

status_over-examples : status_over 6 true true ∷ status_over 6 false true ∷ status_over 4 true true ∷ [] ≡ 10 ∷ 6 ∷ 4 ∷ []
status_over-examples = refl
