-- What is told of the links of a listener: each as it was accepted and as it is given back, and of its session what is promised of
-- one, by one prefix of the journal, the same for all links.
use Rattle.std.specs.Prelude.{◌≡◌, ℕ, ◌+◌, ◌<◌, ◌≤◌, ◌==◌, List, [], ◌∷◌, length, map, All, Bool, false, Option, IfSome}
use Rattle.std.specs.Prelude.{Result, Ok, Err, IfOk, Some, IsTrue, T, true, if◌then◌else◌, refl}
use Rattle.std.proofs.Common.{sym, subst, lit<}
use Rattle.history_lock.specs.declared.limits.TheConstants.{MOST_DRAWS}
use Rattle.dio_core.specs.declared.listener.Listener.{Ghosts as ListenerTells}
use Rattle.dio_core.specs.Counts.{IsCounted}
use Rattle.dio_core.specs.Links.{Both, Outgoing}
use Rattle.dio_core.specs.Sources.{with_prefix}
use Rattle.dio_core.specs.Sinks.{with_more}
use Rattle.txn_grammar.specs.Characters.{Text}
use Rattle.txn_lang.specs.Journals.{own}
use Rattle.docc_prepare.specs.Calls.{Known}
use Rattle.diamond_store.specs.Passes.{Passed, known_of}
use Rattle.diamond_store.specs.declared.join_error.JoinError.{JoinError}
use Rattle.diamond_store.specs.declared.join_error.JoinError.TheVariants as join_error
use Rattle.session_core.specs.declared.session.Session.{Session}
use Rattle.session_core.specs.Explained.{setting_of}
use Rattle.session_core.specs.Holding.{Attends}
use Rattle.session_core.specs.LineTalks.{AreDone}
use Rattle.script_runner.specs.declared.status.TheConstants.{WHOLE, NO_MEMORY}
use Rattle.diamond_server.specs.declared.status.TheConstants.{NO_CLIENT}
use Rattle.diamond_server.specs.declared.serving_all.Tally.{Tally}
use Rattle.diamond_server.specs.Talking.{Told, first_session, texts_of, turns_of}
use Rattle.diamond_server.specs.Promises.{IsAccounted, IsCutShort, IsHeard, Promises, TellsStoreFault}
use Rattle.diamond_server.specs.Ways.{AnyStep, Promising, having_met}

-- ---- one link

-- A LINK THAT IS DONE WITH: as it was accepted, as it is given back, and its status; and the pass of its client as it joined and as
-- its session left it, or why no client joined.
pub record Account (L : Type 0) : Type 0 where
  pub was : L
  pub link : L
  pub status : ℕ
  pub talk : Result (Passed × Passed) JoinError

-- a link that was accepted, and the pass of its client as it joined, or why none did
pub record Seat (L : Type 0) : Type 0 where
  pub was : L
  pub joined : Result Passed JoinError

-- a new client: it has no commit in the journal that it knows
abbrev pub IsNewcomer : Passed → Type 0
IsNewcomer pass = own pass.client pass.journal ≡ []

-- the status of a link that isn't read
abbrev pub unread : JoinError → ℕ
unread (join_error.Clients drawn) = NO_CLIENT
unread join_error.NoMemory = NO_MEMORY

unread-example : unread (join_error.Clients 1000000) ≡ 13
unread-example = refl

-- ---- a session of lines

-- A session over a link: its lines were done, from what its client knew as it joined (k) to what it knew at the session's end (l), by
-- calls that keep the clause of every backend; and they are explained by the journal that it knows later (m).
pub record IsExplained (k l m : Known) (x y : Both) (Reads : List Told → Text → Text → Type 0) : Type 0 where
  pub tolds : List Told
  pub last : Session
  pub begins : Attends k (first_session k)
  pub done : AreDone k (first_session k) (texts_of tolds) (turns_of tolds) l last
  pub accounted : IsAccounted k m tolds
  pub heard : IsHeard tolds x y Reads

-- The same of a session that was cut short, as `IsCutShort` says, each call keeping the clause of every backend.
abbrev pub IsNearlyExplained : Known → Known → Known → Both → Both → (List Told → Outgoing → Outgoing → Type 0) → Type 0
IsNearlyExplained k l m x y Takes = Attends k (first_session k) × IsCutShort (λ n. n) AnyStep m k l x y Takes

-- What is promised of a link over which a session's lines are done, a fault of the store included.
abbrev pub LinesPromised : Promising
LinesPromised k l m status x y =
    Promises (IsExplained k l m x y) (IsNearlyExplained k l m x y) k l status x y × TellsStoreFault k l status

-- ---- one link, in whole

-- WHAT IS TOLD OF A LINK, from both its sides as they were to both as they are. `knows` is what a client knows later, by what it
-- knew at its session's end. A link that isn't read is as it was.
abbrev pub IsTold : Promising → (Passed → Passed) → Both → Both → ℕ → Result (Passed × Passed) JoinError → Type 0
IsTold Promised knows x y status (Ok t) = IsNewcomer t.0 × Promised (known_of t.0) (known_of t.1) (known_of (knows t.1)) status x y
IsTold Promised knows x y status (Err e) = (y ≡ x) × (status ≡ unread e)

-- of a link in whole, its client knowing what it knew at its session's end
abbrev pub IsEnded : {L : Type 0} → Promising → (L → Both) → Account L → Type 0
IsEnded Promised told a = IsTold Promised (λ p. p) (told a.was) (told a.link) a.status a.talk

-- of a link in whole, its client knowing what this pass knows
abbrev pub IsServed : {L : Type 0} → Promising → (L → Both) → Passed → Account L → Type 0
IsServed Promised told other a = IsTold Promised (having_met other) (told a.was) (told a.link) a.status a.talk

-- of a link whose client joined, that a fault of the store is told
abbrev pub FaultIsTold : {L : Type 0} → Account L → Type 0
FaultIsTold a = IfOk a.talk (λ (t : Passed × Passed). TellsStoreFault (known_of t.0) (known_of t.1) a.status)

-- ---- parts of accounts

-- how a client joined, without what its session left
abbrev pub joined_of : Result (Passed × Passed) JoinError → Result Passed JoinError
joined_of (Ok t) = Ok t.0
joined_of (Err e) = Err e

-- a link as it was accepted, and how its client joined
abbrev pub seat : {L : Type 0} → L → Result Passed JoinError → Seat L
seat was joined = record { was = was; joined = joined }

-- the same of a link that is done with
abbrev pub seat_of : {L : Type 0} → Account L → Seat L
seat_of a = seat a.was (joined_of a.talk)

-- the link of a seat
abbrev pub link_in : {L : Type 0} → Seat L → L
link_in s = s.was

-- how the client of a seat joined
abbrev pub joined_in : {L : Type 0} → Seat L → Result Passed JoinError
joined_in s = s.joined

-- the link as it is given back, and its status
abbrev pub given_of : {L : Type 0} → Account L → L × ℕ
given_of a = (a.link, a.status)

-- the status of a link
abbrev pub status_in : {L : Type 0} → Account L → ℕ
status_in a = a.status

-- how many statuses aren't 0
abbrev pub faults_of : List ℕ → ℕ
faults_of [] = 0
faults_of (s ∷ rest) = (if s == WHOLE then 0 else 1) + faults_of rest

faults_of-example : faults_of (0 ∷ 13 ∷ 0 ∷ 3 ∷ []) ≡ 2
faults_of-example = refl

-- ---- all links

-- A listener, when the serving begins and when it ends.
pub record Gatherings (L : Type 0) : Type 0 where
  pub links : Option (List L)  -- the links left, or None where it doesn't tell
  pub links_then : Option (List L)
  pub given : Option (List (L × ℕ))  -- those given back, each with its status, or None
  pub given_then : Option (List (L × ℕ))
  pub faults : ℕ  -- how many accepts have failed
  pub faults_then : ℕ

-- the listener of a serving, by what listeners tell
abbrev pub gatherings : {N L : Type 0} → ListenerTells N L → N → N → Gatherings L
gatherings told old new = record {
  links = told.links old;
  links_then = told.links new;
  given = told.given_back old;
  given_then = told.given_back new;
  faults = told.accept_faults old;
  faults_then = told.accept_faults new;
}

-- Clients' numbers rise, from at least `low` to below `high`, so no two are the same; and each is a client of the store of this
-- pass, by the store's settings. No client joined only for want of memory, or where all numbers were drawn, as the pass knows.
abbrev pub Rises : Passed → ℕ → List (Result Passed JoinError) → ℕ → Type 0
Rises pass low [] high = low ≤ high
Rises pass low (Ok p ∷ rest) high =
    (setting_of (known_of p) ≡ setting_of (known_of pass)) × (low ≤ p.client) × Rises pass (p.client + 1) rest high
Rises pass low (Err (join_error.Clients drawn) ∷ rest) high = (MOST_DRAWS ≤ drawn) × (drawn ≤ pass.draws) × Rises pass low rest high
Rises pass low (Err join_error.NoMemory ∷ rest) high = Rises pass low rest high

-- What was accepted, of at most so many links: the first that were left. It was fewer only where none was left, or where an accept
-- failed, which raised the count. Clients drew numbers from `low` to below `high`.
pub record Accepting {L : Type 0} (pass : Passed) (low high most : ℕ) (g : Gatherings L) (seats : List (Seat L)) (failed : Bool) : Type 0 where
  pub taken : g.links ≡ with_prefix (map link_in seats) g.links_then
  pub clients : Rises pass low (map joined_in seats) high
  pub few : length seats ≤ most
  pub counted : IsCounted failed g.faults g.faults_then
  pub less : failed ≡ false → length seats < most → IfSome g.links_then (λ left. left ≡ [])

-- WHAT CAME OF THE LINKS OF A LISTENER, served in one way: there is an account of each, in the order of accepting; of all of them what
-- is promised is so by the one prefix that `pass` knows, and a fault of the store is told; and each was given back, in that order, with
-- its status.
pub record AllServed {L : Type 0} (Promised : Promising) (told : L → Both) (pass : Passed) (low high most : ℕ) (g : Gatherings L) (tally : Tally)
    : Type 0 where
  pub accounts : List (Account L)
  pub accepted : Accepting pass low high most g (map seat_of accounts) tally.failed
  pub number : tally.accepted ≡ length accounts
  pub served : All (IsServed Promised told pass) accounts
  pub faults_told : All FaultIsTold accounts
  pub given_back : g.given_then ≡ with_more g.given (map given_of accounts)
  pub faulted : tally.faulted ≡ faults_of (map status_in accounts)

-- EACH LINK IS ENDED that is given back, where it tells that (`End` of dio_core).
pub record AreEnded {L : Type 0} (ended : L → Option Bool) (given given_then : Option (List (L × ℕ))) : Type 0 where
  pub back : List (L × ℕ)
  pub given_back : given_then ≡ with_more given back
  pub each : All (λ (b : L × ℕ). IfSome (ended b.0) IsTrue) back

-- A serving that begins with one pass and ends with another, which has drawn the numbers of clients since, from the store's first on.
abbrev pub AllServedSince : {L : Type 0} → Promising → (L → Both) → ℕ → Passed → Passed → ℕ → Gatherings L → Tally → Type 0
AllServedSince Promised told first old new most g tally = AllServed Promised told new (first + old.draws) (first + new.draws) most g tally

-- WHAT CAME OF THE LINKS, each served as a session of lines: all of them are explained by the one prefix.
abbrev pub ServedAll : {L : Type 0} → (L → Both) → Passed → ℕ → ℕ → ℕ → Gatherings L → Tally → Type 0
ServedAll told pass low high most g tally = AllServed LinesPromised told pass low high most g tally

-- the same of a serving
abbrev pub ServedSince : {L : Type 0} → (L → Both) → ℕ → Passed → Passed → ℕ → Gatherings L → Tally → Type 0
ServedSince told first old new most g tally = AllServedSince LinesPromised told first old new most g tally

-- ---- worked lines

-- a link that tells that it goes on isn't given back
not-ended : AreEnded {L = Bool} (λ told. Some told) (Some []) (Some ((false, 0) ∷ [])) → ⊥
not-ended are =
    let ended : false ≡ true = subst (λ (given : Option (List (Bool × ℕ))). IfSome given (All (λ (b : Bool × ℕ). IsTrue b.0))) (sym are.given_back) are.each
    0 (false, 0) (lit< tt) in
    subst T (sym ended) tt
