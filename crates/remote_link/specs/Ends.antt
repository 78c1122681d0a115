-- The client's end of a link, and what one call over it does.
use Rattle.std.specs.Prelude.{◌≡◌, ◌⊎◌, ℕ, Bool, true, false, Result, Ok, Err}
use Rattle.dio_core.specs.Links.{Both}
use Rattle.docc_prepare.specs.declared.backend.StoreError.{StoreError}
use Rattle.docc_prepare.specs.declared.backend.StoreError.TheVariants as store_error
use Rattle.docc_prepare.specs.Calls.{Known, Call, Answer}
use Rattle.remote_wire.specs.declared.request.Request.{Request}
use Rattle.remote_wire.specs.declared.answer.WireAnswer.{WireAnswer}
use Rattle.remote_calls.specs.Spelled.{request_for, answered_by}
use Rattle.remote_link.specs.declared.exchange.Failure.{Failure}
use Rattle.remote_link.specs.declared.exchange.Failure.TheVariants as failure
use Rattle.remote_link.specs.Exchanging.{HasFailed, IsSound, TakesPart, Exchanges, Misanswers, LacksMemoryFor}
use Rattle.remote_link.specs.Linking.{known_at, IsNoLess}
use Rattle.remote_link.specs.Kept.{Kept, nothing_kept, linked_of, one_fault_more, TakesIn, IsSubscription}

-- The end of a link: what is kept of the client, the last answer's seen number, whether a call has failed, and whether what the
-- link gave is no talk.
pub record LinkEnd (K : Type 0) : Type 0 where
  pub link : K
  pub kept : Kept
  pub last : ℕ
  pub lost : Bool
  pub broken : Bool

-- over which nothing was asked yet
abbrev pub new_end : {K : Type 0} → K → LinkEnd K
new_end link = record { link = link; kept = nothing_kept; last = 0; lost = false; broken = false }

-- what it stands for
abbrev pub stands : Kept → Known
stands k = known_at (linked_of k)

-- ---- what one call does

-- The link gave an answer to the request, but its seen number goes back behind the last answer's.
pub record GoesBack (asked : Request) (last : ℕ) (old new : Both) : Type 0 where
  pub said : WireAnswer
  pub exchanged : Exchanges asked said old new
  pub back : IsNoLess asked last said.seen → ⊥

-- WHY AN END BREAKS: neither count of the link rose, and what it gave is no answer to the request, or goes back.
abbrev pub IsBreak : Request → ℕ → Both → Both → Type 0
IsBreak asked last old new = Misanswers asked old new ⊎ GoesBack asked last old new

-- The request is answered: the link took it and gave the answer, which goes back behind nothing, and this is kept.
pub record IsAnswered {K : Type 0} (side : K → Both) (asked : Request) (said : WireAnswer) (old new : LinkEnd K) : Type 0 where
  pub exchanged : Exchanges asked said (side old.link) (side new.link)
  pub later : IsNoLess asked old.last said.seen
  pub kept : TakesIn old.kept asked said.seen said.given new.kept
  pub last : new.last ≡ said.seen
  pub unbroken : (old.broken ≡ false) × (new.broken ≡ false)
  pub found : (old.lost ≡ false) × (new.lost ≡ false)

-- An end that is broken stays so, and its link isn't reached.
pub record StaysBroken {K : Type 0} (old new : LinkEnd K) : Type 0 where
  pub broken : old.broken ≡ true
  pub same : new ≡ record old { kept = one_fault_more old.kept; lost = true }

-- The link failed, and took a part of the request's frame.
pub record LinkFails {K : Type 0} (side : K → Both) (asked : Request) (old new : LinkEnd K) : Type 0 where
  pub failed : HasFailed (side old.link) (side new.link)
  pub part : TakesPart asked (side old.link) (side new.link)
  pub unbroken : (old.broken ≡ false) × (new.broken ≡ false)
  pub same : new ≡ record old { link = new.link; kept = one_fault_more old.kept; lost = true }

-- The end breaks.
pub record Breaks {K : Type 0} (side : K → Both) (asked : Request) (old new : LinkEnd K) : Type 0 where
  pub why : IsBreak asked old.last (side old.link) (side new.link)
  pub broken : (old.broken ≡ false) × (new.broken ≡ true)
  pub same : new ≡ record old { link = new.link; kept = one_fault_more old.kept; lost = true; broken = true }

-- The answer to a subscription came, which goes back behind nothing, and there was no memory to keep it.
pub record IsNotKept (asked : Request) (last : ℕ) (old new : Both) : Type 0 where
  pub said : WireAnswer
  pub exchanged : Exchanges asked said old new
  pub later : IsNoLess asked last said.seen
  pub keeps : IsSubscription asked

-- Memory was wanting, in this call or an earlier one, or an earlier one has failed. Nothing is kept but that, and the link took a
-- part of the request's frame. In this call memory was wanting in the exchange, or to keep the answer.
pub record IsLost {K : Type 0} (side : K → Both) (asked : Request) (old new : LinkEnd K) : Type 0 where
  pub sound : IsSound (side old.link) (side new.link)
  pub part : TakesPart asked (side old.link) (side new.link)
  pub unbroken : (old.broken ≡ false) × (new.broken ≡ false)
  pub lost : new.lost ≡ true
  pub kept : new.kept ≡ old.kept
  pub stays : old.lost ≡ true → new ≡ old
  pub why : LacksMemoryFor asked (side old.link) (side new.link)
      ⊎ IsNotKept asked old.last (side old.link) (side new.link)

-- WHAT ONE CALL OVER A LINK DOES. So it fails by a fault only where a count of the link rose or the end is broken behind it,
-- and the end breaks only for what the link gave.
abbrev pub Asks : {K : Type 0} → (K → Both) → Request → Result WireAnswer StoreError → LinkEnd K → LinkEnd K → Type 0
Asks side asked (Ok said) old new = IsAnswered side asked said old new
Asks side asked (Err store_error.Fault) old new = StaysBroken old new ⊎ (LinkFails side asked old new ⊎ Breaks side asked old new)
Asks side asked (Err store_error.NoMemory) old new = IsLost side asked old new

-- ---- the relations by which requests and calls go

-- A REQUEST OVER A LINK: what it does to the end, by what comes of it
abbrev pub does_over : {K : Type 0} → (K → Both) → LinkEnd K → Request → Result WireAnswer StoreError → LinkEnd K → Type 0
does_over side old asked result new = Asks side asked result old new

-- A CALL OVER A LINK: the link took the frame of the request that spells it, and gave the frame of an answer that says this.
pub record GoesOver (c : Call) (a : Answer) (old new : Both) : Type 0 where
  pub said : WireAnswer
  pub says : answered_by (request_for c) said.seen said.given ≡ a
  pub exchanged : Exchanges (request_for c) said old new

abbrev pub by_link : {K : Type 0} → (K → Both) → LinkEnd K → Call → Answer → LinkEnd K → Type 0
by_link side old c a new = GoesOver c a (side old.link) (side new.link)

-- ---- on the way

-- how a call fails
abbrev pub Fails : {K : Type 0} → Failure → LinkEnd K → LinkEnd K → StoreError → Type 0
Fails failure.NoMemory old new error = (error ≡ store_error.NoMemory) × (new ≡ record old { lost = true })
Fails failure.Link old new error =
    (error ≡ store_error.Fault) × (new ≡ record old { kept = one_fault_more old.kept; lost = true })
Fails failure.Broken old new error =
    (error ≡ store_error.Fault) × (new ≡ record old { kept = one_fault_more old.kept; lost = true; broken = true })

-- what becomes of an answer to a request
abbrev pub KeepsAnswer : {A K : Type 0} → Request → WireAnswer → LinkEnd K → LinkEnd K → Result A StoreError → Type 0
KeepsAnswer asked said old new (Ok kept) =
    IsNoLess asked old.last said.seen × TakesIn old.kept asked said.seen said.given new.kept
    × (new ≡ record old { kept = new.kept; last = said.seen })
KeepsAnswer asked said old new (Err store_error.Fault) =
    (IsNoLess asked old.last said.seen → ⊥) × (new ≡ record old { kept = one_fault_more old.kept; lost = true; broken = true })
KeepsAnswer asked said old new (Err store_error.NoMemory) =
    IsNoLess asked old.last said.seen × IsSubscription asked × (new ≡ record old { last = said.seen; lost = true })

-- the answer, where it was kept
abbrev pub hands : {A : Type 0} → WireAnswer → Result A StoreError → Result WireAnswer StoreError
hands said (Ok kept) = Ok said
hands said (Err error) = Err error
