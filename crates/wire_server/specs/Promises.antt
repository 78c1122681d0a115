-- What the serving of a client's requests over a link promises, by the status that it answers.
use Rattle.std.specs.Prelude.{◌≡◌, ℕ, ◌≤◌, ◌⊎◌, ◌==◌, List, [], ◌∷◌, ◌++◌, map, length, Option, Some, IsTrue, refl}
use Rattle.std.specs.List.{AllByRecursion, list_any}
use Rattle.dio_core.specs.Told.{WhereTold}
use Rattle.dio_core.specs.Counts.{Rose, IsCounted}
use Rattle.dio_core.specs.Links.{Both}
use Rattle.dio_core.specs.Sinks.{with_more, TakesPrefix, IsPassedOn}
use Rattle.txn_grammar.specs.Characters.{Text}
use Rattle.txn_lang.specs.Journals.{IsLegal, own}
use Rattle.txn_lang.specs.States.{Journal}
use Rattle.docc_prepare.specs.Calls.{Known, Call, Answer}
use Rattle.docc_prepare.specs.Backends.{IsPrefix, IsSameClient}
use Rattle.script_runner.specs.declared.status.TheConstants.{WHOLE, READ_FAULT, WRITE_FAULT, NO_MEMORY}
use Rattle.diamond_server.specs.declared.status.TheConstants.{STORE_FAULT}
use Rattle.remote_wire.specs.declared.limits.TheConstants.{LONGEST_REQUEST}
use Rattle.remote_service.specs.declared.service.Service.{Service}
use Rattle.remote_service.specs.Malformed.{IsMalformed}
use Rattle.remote_service.specs.Serving.{HasStalled, HasFailed}
use Rattle.wire_frames.specs.Frames.{frame, frames, IsText, BreaksOff, IsBroken}
use Rattle.wire_server.specs.declared.status.TheConstants.{MALFORMED, TOO_MANY_REQUESTS, MOST_REQUESTS}
use Rattle.wire_server.specs.Talking.{Exchange, Talks, Entry, entry_of, request_of, reply_of, first_service, appended, OwnsAppended, denied_by_all}

-- ---- the statuses

-- the seven that there are
abbrev pub statuses : List ℕ
statuses = WHOLE ∷ READ_FAULT ∷ WRITE_FAULT ∷ NO_MEMORY ∷ STORE_FAULT ∷ TOO_MANY_REQUESTS ∷ MALFORMED ∷ []

statuses-are : statuses ≡ 0 ∷ 3 ∷ 4 ∷ 5 ∷ 6 ∷ 9 ∷ 10 ∷ []
statuses-are = refl

MOST_REQUESTS-is : MOST_REQUESTS ≡ 1000000
MOST_REQUESTS-is = refl

-- ---- what becomes of the journal

-- WHATEVER BYTES A CLIENT SENDS the journal has only grown, and a legal one is legal still: so each commit that nobody took on trust is
-- what its body does on the state that those before it leave.
pub record StaysLegal (trusted : ℕ) (old new : Journal) : Type 0 where
  pub grows : IsPrefix old new
  pub legal : IsLegal trusted old → IsLegal trusted new

-- What the answers say is so: the client's commits are those before and those that were answered; `disk` was answered as often as the
-- client's count of denials rose, and at most as often as it knows of denials; and the store's count of faults stood.
pub record IsAccounted (k l : Known) (exchanges : List Exchange) : Type 0 where
  pub own_commits : WhereTold (OwnsAppended k.client exchanges) k.journal l.journal
  pub denied : l.denied ≡ denied_by_all k.denied exchanges
  pub known_denied : denied_by_all k.denials exchanges ≤ l.denials
  pub faults : l.faults ≡ k.faults

-- The client's commits are those before, those that were answered, and one more at most.
pub record OwnsOneMore (client : ℕ) (exchanges : List Exchange) (old new : Journal) : Type 0 where
  pub more : List Entry
  pub few : length more ≤ 1
  pub own_commits : map entry_of (own client new) ≡ (map entry_of (own client old) ++ appended exchanges) ++ more

-- ---- how much of the input was answered

-- frames of the requests stood at its front, and behind them is the rest
pub record HasRead (exchanges : List Exchange) (all rest : Text) : Type 0 where
  pub cut : all ≡ frames (map request_of exchanges) ++ rest
  pub sized : AllByRecursion (IsText LONGEST_REQUEST) (map request_of exchanges)

-- What is said of the input by the requests that were answered, by the service and what is known of the store behind them.
abbrev pub Reading : Type 1
Reading = Service → Known → List Exchange → Text → Text → Type 0

-- to its end, which is behind a frame
pub record ReadsToTheEnd (s : Service) (k : Known) (exchanges : List Exchange) (all rest : Text) : Type 0 where
  pub read : HasRead exchanges all rest
  pub end : rest ≡ []

-- a read failed, in a frame or in front of one
pub record ReadsUpToAFault (s : Service) (k : Known) (exchanges : List Exchange) (all rest : Text) : Type 0 where
  pub behind : Text
  pub read : HasRead exchanges all behind
  pub breaks : BreaksOff LONGEST_REQUEST (Some behind) (Some rest)

-- the most requests that are answered, and one frame more
pub record ReadsOneMore (s : Service) (k : Known) (exchanges : List Exchange) (all rest : Text) : Type 0 where
  pub most : length exchanges ≡ MOST_REQUESTS
  pub next : Text
  pub read : HasRead exchanges all (frame next ++ rest)
  pub sized : IsText LONGEST_REQUEST next

-- a frame more, whose bytes are malformed to the service
pub record ReadsMalformed (s : Service) (k : Known) (exchanges : List Exchange) (all rest : Text) : Type 0 where
  pub next : Text
  pub read : HasRead exchanges all (frame next ++ rest)
  pub malformed : IsMalformed s k next

-- what is no frame: a length that none has, or what begins one, and then the input's end
pub record ReadsNoFrame (s : Service) (k : Known) (exchanges : List Exchange) (all rest : Text) : Type 0 where
  pub behind : Text
  pub read : HasRead exchanges all behind
  pub broken : IsBroken LONGEST_REQUEST (Some behind) (Some rest)

-- WHAT IS REFUSED: the one or the other
abbrev pub ReadsARefusal : Reading
ReadsARefusal s k exchanges all rest = ReadsMalformed s k exchanges all rest ⊎ ReadsNoFrame s k exchanges all rest

-- the requests that were answered, and maybe some of what is behind them
pub record ReadsPast (exchanges : List Exchange) (all rest : Text) : Type 0 where
  pub past : Text
  pub read : HasRead exchanges all (past ++ rest)

-- ---- how much of the output was taken

-- The link took the frames of all answers, behind what it had taken before; and where all of that had been passed on, all of this has
-- been.
pub record IsHeard (exchanges : List Exchange) (x y : Both) : Type 0 where
  pub few : length exchanges ≤ MOST_REQUESTS
  pub taken : y.outwards.taken ≡ with_more x.outwards.taken (frames (map reply_of exchanges))
  pub flushed : IsPassedOn x.outwards.taken x.outwards.passed → IsPassedOn y.outwards.taken y.outwards.passed

-- ---- what each status says: of the backend and the link before and after, `m` being what the client knows later

module _ {B : Type 0} (known : B → Known) (goes : B → Call → Answer → B → Type 0) (m : Known) (old new : B) (x y : Both) where
  -- The requests were answered, by steps of the backend's relation, and their answers taken.
  pub record IsServed (Reads : Reading) : Type 0 where
    pub exchanges : List Exchange
    pub service : Service
    pub talks : Talks known goes first_service old exchanges service new
    pub accounted : IsAccounted (known old) m exchanges
    pub reads : WhereTold (Reads service (known new) exchanges) x.inwards.left y.inwards.left
    pub heard : IsHeard exchanges x y

  -- The requests were answered, and of the answers' frames a prefix was taken: a write of the last one failed.
  pub record IsCutOff : Type 0 where
    pub exchanges : List Exchange
    pub service : Service
    pub talks : Talks known goes first_service old exchanges service new
    pub accounted : IsAccounted (known old) m exchanges
    pub few : length exchanges ≤ MOST_REQUESTS
    pub reads : WhereTold (HasRead exchanges) x.inwards.left y.inwards.left
    pub taken : TakesPrefix (frames (map reply_of exchanges)) x.outwards.taken y.outwards.taken

  -- The requests were answered, and their answers taken, before memory was wanting: for the frame of a request, or for what bytes ask
  -- or are answered. Then the one call that they stand for was made or not, so the client may have one commit more.
  pub record IsStalled : Type 0 where
    pub exchanges : List Exchange
    pub service : Service
    pub there : B
    pub talks : Talks known goes first_service old exchanges service there
    pub stalled : (new ≡ there) ⊎ ((bytes : Text) × (t : Service) × HasStalled known goes service there bytes t new)
    pub own_commits : WhereTold (OwnsOneMore (known old).client exchanges) (known old).journal m.journal
    pub reads : WhereTold (ReadsPast exchanges) x.inwards.left y.inwards.left
    pub heard : IsHeard exchanges x y

  -- The requests were answered, and their answers taken, before the call failed for which the next one stands. The client has no commit
  -- more.
  pub record IsFailed : Type 0 where
    pub exchanges : List Exchange
    pub service : Service
    pub there : B
    pub bytes : Text
    pub talks : Talks known goes first_service old exchanges service there
    pub failed : HasFailed known goes service there bytes new
    pub own_commits : WhereTold (OwnsAppended (known old).client exchanges) (known old).journal m.journal
    pub reads : WhereTold (ReadsPast exchanges) x.inwards.left y.inwards.left
    pub heard : IsHeard exchanges x y

  -- WHAT IS PROMISED, at each status.
  pub record Promises (status : ℕ) : Type 0 where
    -- there are seven statuses
    pub statuses : IsTrue (list_any (λ s. s == status) statuses)
    -- the backend is that of the same client of the same store
    pub client : IsSameClient (known old) (known new)
    -- whatever the client sends, the journal stays legal
    pub safe : WhereTold (StaysLegal (known old).trusted) (known old).journal m.journal
    -- at 0 the input was answered to its end
    pub whole : status ≡ WHOLE → IsServed ReadsToTheEnd
    -- at 3 the requests that were read whole
    pub broken_off : status ≡ READ_FAULT → IsServed ReadsUpToAFault
    -- at 9 the most requests that are answered
    pub too_many : status ≡ TOO_MANY_REQUESTS → IsServed ReadsOneMore
    -- at 10 the requests before what was refused
    pub refused : status ≡ MALFORMED → IsServed ReadsARefusal
    -- at 4 a prefix of the answers was taken
    pub cut_off : status ≡ WRITE_FAULT → IsCutOff
    -- at 5 memory was wanting
    pub stalled : status ≡ NO_MEMORY → IsStalled
    -- at 6 the store failed
    pub failed : status ≡ STORE_FAULT → IsFailed
    -- the link's count of reads rose at 3, and at no other status
    pub reads : IsCounted (status == READ_FAULT) x.inwards.faults y.inwards.faults
    -- its count of writes at 4, and at no other status
    pub writes : IsCounted (status == WRITE_FAULT) x.outwards.faults y.outwards.faults
    -- at 6 the store's count of faults rose
    pub store_failed : status ≡ STORE_FAULT → Rose (known old).faults (known new).faults
    -- an input of frames, of no more than may be read, over which no count rose, is answered to its end, memory aside, unless a
    -- request is malformed
    pub completes : (texts : List Text) → x.inwards.left ≡ Some (frames texts) → AllByRecursion (IsText LONGEST_REQUEST) texts
        → length texts ≤ MOST_REQUESTS → ¬ (Rose x.inwards.faults y.inwards.faults) → ¬ (Rose x.outwards.faults y.outwards.faults)
        → ¬ (Rose (known old).faults (known new).faults) → (status ≡ WHOLE) ⊎ ((status ≡ NO_MEMORY) ⊎ (status ≡ MALFORMED))

-- WHAT THE SERVING OF REQUESTS PROMISES, from its backend before it to the backend after it.
abbrev pub KeepsPromises : {B : Type 0} → (B → Known) → (B → Call → Answer → B → Type 0) → ℕ → B → B → Both → Both → Type 0
KeepsPromises known goes status old new x y = Promises known goes (known new) old new x y status

-- EACH FAULT OF THE STORE IS TOLD: the store's count of faults rose at 6, and stood at every other status. (An answer is written before
-- the next call is made, so at 4, too.)
abbrev pub TellsEachStoreFault : Known → Known → ℕ → Type 0
TellsEachStoreFault k l status = IsCounted (status == STORE_FAULT) k.faults l.faults

-- ---- worked lines

-- where a write failed, or memory was wanting, the store's count stands
write-fault-counts-none : (k l : Known) → TellsEachStoreFault k l WRITE_FAULT → l.faults ≡ k.faults
write-fault-counts-none k l told = told

no-memory-counts-none : (k l : Known) → TellsEachStoreFault k l NO_MEMORY → l.faults ≡ k.faults
no-memory-counts-none k l told = told

-- and at 6 it doesn't
store-fault-counts : (k l : Known) → TellsEachStoreFault k l STORE_FAULT → Rose k.faults l.faults
store-fault-counts k l told = told
