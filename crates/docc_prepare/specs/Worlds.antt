-- The world of one thread: its store, and each client's open attempt and watches. An event of a client is one call of the
-- store, of which its attempt takes the answer.
use Rattle.std.specs.Prelude.{◌≡◌, ℕ, ◌+◌, ◌≤◌, ◌<◌, true, not, if◌then◌else◌, List, [], ◌∷◌, ◌++◌, map, filter, length, get_or, set, replicate}
use Rattle.std.specs.Prelude.{Option, Some, None, IfSome, codes, refl}
use Rattle.std.specs.List.{AllByRecursion}
use Rattle.std.specs.Str.{bytes_eq}
use Rattle.plain_data.specs.Texts.{Bytes}
use Rattle.rdt_types.specs.declared.address.Kind.TheVariants as kind
use Rattle.rdt_types.specs.declared.address.Address.{Address}
use Rattle.rdt_types.specs.Shards.{shard_of}
use Rattle.abort_witness.specs.declared.witness.Based.{Based}
use Rattle.txn_lang.specs.declared.checked.Checked.{Checked}
use Rattle.txn_lang.specs.declared.run.Run.{Run}
use Rattle.txn_lang.specs.declared.snaps.Snap.{Snap}
use Rattle.txn_lang.specs.States.{Journal, known, state}
use Rattle.txn_lang.specs.Execution.{Ran, need, done, exec}
use Rattle.txn_lang.specs.Journals.{own}
use Rattle.txn_lang.specs.Tree.{tree}
use Rattle.docc_prepare.specs.declared.attempt.Attempt.{Attempt}
use Rattle.docc_prepare.specs.declared.attempt.Next.TheVariants as next
use Rattle.docc_prepare.specs.Attempts.{ran, based, in_shard, next_event, Prepares, with_snap, with_front, ready_of, Fits}
use Rattle.docc_prepare.specs.Calls.{Call, Answer}
use Rattle.docc_prepare.specs.Stores as stores
use Rattle.docc_prepare.specs.Stores.{Store, CLIENTS, first_store, front_of, seen_by, followed}

-- a watch as it was reported last: its name, its body, up to which commit, and the body's run there
pub record Reported : Type 0 where
  pub name : Bytes
  pub body : Checked
  pub last : ℕ
  pub run : Run

-- the store, and of each client its open attempt, if it has one, and its watches
pub record World : Type 0 where
  pub store : Store
  pub attempts : List (Option Attempt)
  pub watches : List (List Reported)

-- nothing was done yet
abbrev pub first_world : ℕ → ℕ → ℕ → World
first_world shards window limit = record { store = first_store shards window limit; attempts = replicate CLIENTS None; watches = replicate CLIENTS [] }

-- the open attempt of a client
abbrev pub attempt_of : World → ℕ → Option Attempt
attempt_of w client = get_or w.attempts client None

-- a client's open attempt is this, or it has none
abbrev pub holding : World → ℕ → Option Attempt → World
holding w client attempt = record w { attempts = set w.attempts client attempt }

-- the watches of a client
abbrev pub watches_of : World → ℕ → List Reported
watches_of w client = get_or w.watches client []

-- a client's watches are these
abbrev pub watching : World → ℕ → List Reported → World
watching w client watches = record w { watches = set w.watches client watches }

-- the world of a store that went on
abbrev pub over : World → Store → World
over w store = record w { store = store }

-- ---- events

-- what a client may ask for. A read, a preparing and an append are of its open attempt.
pub data Event : Type 0 where
  refresh : Event
  read : Address → Event
  prepare : ℕ → Event
  append : Event
  read_at : Address → ℕ → Event
  subscribe : Address → Event
  unsubscribe : Address → Event
  take : Event
  follow : ℕ → Event

-- what a run observed in a shard
abbrev pub observed_in : Attempt → ℕ → Ran → List Based
observed_in attempt shard (need address) = []
observed_in attempt shard (done run) = in_shard attempt.shards shard (based attempt.snaps run.observations)

-- the append of a run that is done, with the client's next seq
abbrev pub append_of : ℕ → Journal → Attempt → Ran → Option Call
append_of client journal attempt (need address) = None
append_of client journal attempt (done run) = Some (Call.append (ready_of attempt run client (length (own client journal) + 1)))

-- The call that an event makes. A read, a preparing and an append need an open attempt.
abbrev pub call_of : ℕ → Journal → Event → Option Attempt → Option Call
call_of client journal Event.refresh o = Some Call.refresh
call_of client journal (Event.read address) None = None
call_of client journal (Event.read address) (Some attempt) = Some (Call.read address)
call_of client journal (Event.prepare shard) None = None
call_of client journal (Event.prepare shard) (Some attempt) = Some (Call.prepare shard (observed_in attempt shard (ran attempt)))
call_of client journal Event.append None = None
call_of client journal Event.append (Some attempt) = append_of client journal attempt (ran attempt)
call_of client journal (Event.read_at address number) o = Some (Call.read_at address number)
call_of client journal (Event.subscribe address) o = Some (Call.subscribe address)
call_of client journal (Event.unsubscribe address) o = Some (Call.unsubscribe address)
call_of client journal Event.take o = Some Call.take
call_of client journal (Event.follow shard) o = None

-- An open attempt takes a value that was read, and a front. Else it stays.
abbrev pub taking : Call → Answer → Option Attempt → Option Attempt
taking (Call.read address) (Answer.snap taken) (Some attempt) = Some (with_snap attempt address taken)
taking (Call.prepare shard based) (Answer.prepared prepared) (Some attempt) = Some (with_front attempt prepared.shard prepared.front)
taking call answer o = o

-- the world after a call that the store answered
abbrev pub answered : World → ℕ → Call → Store × Answer → World × Option Answer
answered w client call (store, answer) = (holding (over w store) client (taking call answer (attempt_of w client)), Some answer)

-- a call, or none
abbrev pub called : World → ℕ → Option Call → World × Option Answer
called w client None = (w, None)
called w client (Some call) = answered w client call (stores.step w.store client call)

-- The step: the world after an event of a client, and the answer, if there is one. What asks for nothing does nothing.
abbrev pub step : World → ℕ → Event → World × Option Answer
step w client (Event.follow shard) =
    (over w (followed w.store client shard), Some (Answer.prepared (record { shard = shard; front = length w.store.journal })))
step w client event = called w client (call_of client w.store.journal event (attempt_of w client))

-- ---- sound worlds

-- An open attempt fits the journal, its bases are at most their shards' fronts, and its text has its body as its tree.
pub record IsHeld (s : Store) (attempt : Attempt) : Type 0 where
  pub fits : Fits s.journal attempt
  pub same_shards : attempt.shards ≡ s.shards
  pub bases : AllByRecursion (λ (read : Address × Snap). read.1.base ≤ front_of s (shard_of read.0 attempt.shards)) attempt.snaps
  pub text : tree attempt.body.source ≡ Some attempt.body.body

-- The run of a body at a number that a client has seen: it is what the body does on what so many commits leave.
pub record RunsAt (s : Store) (client : ℕ) (body : Checked) (number : ℕ) (run : Run) : Type 0 where
  pub seen : number ≤ seen_by s client
  pub ran : exec body.body (known (state s.journal number)) ≡ done run

-- the last run of a watch is such a run
abbrev pub IsReported : Store → ℕ → Reported → Type 0
IsReported s client watch = RunsAt s client watch.body watch.last watch.run

-- The store is sound, each open attempt is held, and each watch was reported by its body's run.
pub record IsSound (w : World) : Type 0 where
  pub stored : stores.IsSound w.store
  pub held : (client : ℕ) → IfSome (attempt_of w client) (IsHeld w.store)
  pub reported : (client : ℕ) → AllByRecursion (IsReported w.store client) (watches_of w client)

-- An event is in place where the client may ask for it: a read, a preparing or an append where it is the next event of its
-- open attempt, and a read at a number where that is among what it has seen.
abbrev pub IsInPlace : World → ℕ → Event → Type 0
IsInPlace w client (Event.read address) = (attempt : Attempt) × (attempt_of w client ≡ Some attempt) × (next_event attempt ≡ next.Read address)
IsInPlace w client (Event.prepare shard) = (attempt : Attempt) × (attempt_of w client ≡ Some attempt) × Prepares attempt shard
IsInPlace w client Event.append = (attempt : Attempt) × (run : Run) × (attempt_of w client ≡ Some attempt) × (next_event attempt ≡ next.Append run)
IsInPlace w client (Event.read_at address number) = number ≤ seen_by w.store client
IsInPlace w client event = Unit {0}

-- A law: each event in place leaves a sound world.
abbrev pub EventsStaySound : Type 0
EventsStaySound = (w : World) (client : ℕ) (event : Event) → IsSound w → IsInPlace w client event → IsSound (step w client event).0

-- an attempt of a body that has a tree, of which nothing was read or prepared
pub record IsOpened (w : World) (attempt : Attempt) : Type 0 where
  pub shards : attempt.shards ≡ w.store.shards
  pub unread : attempt.snaps ≡ []
  pub unprepared : attempt.fronts ≡ []
  pub text : tree attempt.body.source ≡ Some attempt.body.body

-- a new watch is the last
abbrev pub with_new : Reported → List Reported → List Reported
with_new watch watches = watches ++ watch ∷ []

-- the watch of a name is reported at a number, by this run
abbrev pub report : Bytes → ℕ → Run → Reported → Reported
report name number run watch = if bytes_eq name watch.name then (record watch { last = number; run = run }) else watch

-- it is its body's run there
abbrev pub IsReport : World → ℕ → Bytes → ℕ → Run → Type 0
IsReport w client name number run =
    AllByRecursion (λ watch. bytes_eq name watch.name ≡ true → RunsAt w.store client watch.body number run) (watches_of w client)

-- the watch of a name has that run, and the others are as before
abbrev pub with_run : Bytes → ℕ → Run → List Reported → List Reported
with_run name number run watches = map (report name number run) watches

-- the watch of a name is forgotten
abbrev pub without_named : Bytes → List Reported → List Reported
without_named name watches = filter (λ watch. not (bytes_eq name watch.name)) watches

-- A law: so does each move, which opens or closes an attempt, or makes, reports or forgets a watch.
pub record MovesStaySound : Type 0 where
  pub opening : (w : World) (client : ℕ) (attempt : Attempt) → IsSound w → IsOpened w attempt → IsSound (holding w client (Some attempt))
  pub closing : (w : World) (client : ℕ) → IsSound w → IsSound (holding w client None)
  pub making : (w : World) (client : ℕ) (watch : Reported) → IsSound w → IsReported w.store client watch
      → IsSound (watching w client (with_new watch (watches_of w client)))
  pub reporting : (w : World) (client : ℕ) (name : Bytes) (number : ℕ) (run : Run) → IsSound w → IsReport w client name number run
      → IsSound (watching w client (with_run name number run (watches_of w client)))
  pub forgetting : (w : World) (client : ℕ) (name : Bytes) → IsSound w → IsSound (watching w client (without_named name (watches_of w client)))

-- A law: the first world is sound.
abbrev pub FirstIsSound : Type 0
FirstIsSound = (shards window limit : ℕ) → 0 < shards → IsSound (first_world shards window limit)

-- ---- lists of events and moves

-- an event of a client, or a move by which it opens an attempt or closes its own, or makes, reports or forgets a watch
pub data Turn : Type 0 where
  event : ℕ → Event → Turn
  opens : ℕ → Attempt → Turn
  closes : ℕ → Turn
  watches : ℕ → Reported → Turn
  reports : ℕ → Bytes → ℕ → Run → Turn
  forgets : ℕ → Bytes → Turn

-- the world after a turn
abbrev pub turned : World → Turn → World
turned w (Turn.event client e) = (step w client e).0
turned w (Turn.opens client attempt) = holding w client (Some attempt)
turned w (Turn.closes client) = holding w client None
turned w (Turn.watches client watch) = watching w client (with_new watch (watches_of w client))
turned w (Turn.reports client name number run) = watching w client (with_run name number run (watches_of w client))
turned w (Turn.forgets client name) = watching w client (without_named name (watches_of w client))

-- An attempt is opened where its client has none open. A watch is made or reported by its body's run at a number that its
-- client has seen.
abbrev pub IsTurn : World → Turn → Type 0
IsTurn w (Turn.event client e) = IsInPlace w client e
IsTurn w (Turn.opens client attempt) = (attempt_of w client ≡ None) × IsOpened w attempt
IsTurn w (Turn.closes client) = Unit {0}
IsTurn w (Turn.watches client watch) = IsReported w.store client watch
IsTurn w (Turn.reports client name number run) = IsReport w client name number run
IsTurn w (Turn.forgets client name) = Unit {0}

-- the world after turns, one after another
abbrev pub after_turns : World → List Turn → World
after_turns w [] = w
after_turns w (turn ∷ rest) = after_turns (turned w turn) rest

-- each turn is in place in the world that those before it leave
abbrev pub AreTurns : World → List Turn → Type 0
AreTurns w [] = Unit {0}
AreTurns w (turn ∷ rest) = IsTurn w turn × AreTurns (turned w turn) rest

-- A law: whatever is done from the first world on, each turn in place, leaves a sound world. So its journal is legal, a serial
-- order with the outcomes that were answered, and the last run of each watch is its body's on what so many commits leave.
abbrev pub EveryWorldIsSound : Type 0
EveryWorldIsSound =
    (shards window limit : ℕ) (turns : List Turn) → 0 < shards → AreTurns (first_world shards window limit) turns
    → IsSound (after_turns (first_world shards window limit) turns)

-- ---- worked lines

abbrev counter : List ℕ → Address
counter key = record { kind = kind.Counter; key = key }

-- a read without an open attempt asks for nothing
no-attempt : step (first_world 4 2 100) 5 (Event.read (counter (codes "x"))) ≡ (first_world 4 2 100, None)
no-attempt = refl

-- an attempt takes what was read
taking-example : (attempt : Attempt) (taken : Snap)
    → taking (Call.read (counter (codes "x"))) (Answer.snap taken) (Some attempt) ≡ Some (with_snap attempt (counter (codes "x")) taken)
taking-example attempt taken = refl

-- and stays as it is where a front is late
taking-late : (attempt : Attempt) → taking (Call.prepare 1 []) (Answer.late 2 3) (Some attempt) ≡ Some attempt
taking-late attempt = refl

-- a report goes to the watch of its name
report-example : (watch : Reported) (run : Run) → (report (codes "free") 3 run (record watch { name = codes "free" })).last ≡ 3
report-example watch run = refl

-- and to no other
report-other : (watch : Reported) (run : Run) → (report (codes "free") 3 run (record watch { name = codes "sales"; last = 2 })).last ≡ 2
report-other watch run = refl
