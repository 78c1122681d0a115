-- Replies that a journal explains: which reply passes for which line, when the replies before it have shown so much. No program
-- stands in it, and no store but its journal. The laws that tie this to sessions are in `specs/Sessions`; a clause of each line
-- says it of that line.
--
-- The rows: `Passes`, one a form of line, with `PlainPasses` for the lines that aren't of watches and `WaitPasses`; `EndPasses`,
-- one a reply that ends an attempt; `StepPasses`, one a reply that shows an event; `LookPasses` and `AtPasses`, one a reply to a
-- look; `SyncPasses`, `WatchPasses` and `UnwatchPasses` of client_watches; and `ExplainsTold` of script_runner for `follow`.
use Rattle.std.specs.Prelude.{◌≡◌, ℕ, ◌+◌, ◌≤◌, ◌<◌, max, List, [], ◌∷◌, ◌++◌, fold, length, take, Option, Some, None, Result, Ok, Err, IfSome, codes, refl}
use Rattle.std.specs.List.{AllByRecursion}
use Rattle.std.proofs.Common.{lit≤}
use Rattle.dio_core.specs.Told.{WhereTold}
use Rattle.rdt_types.specs.declared.address.Address.{Address}
use Rattle.rdt_types.specs.declared.outcome.Outcome.{Outcome}
use Rattle.abort_witness.specs.declared.witness.Based.{Based}
use Rattle.abort_witness.specs.declared.witness.Witness.{Witness}
use Rattle.session_text.specs.declared.reply.Reply.{Reply}
use Rattle.session_text.specs.declared.reply.Reply.TheVariants as reply
use Rattle.session_text.specs.declared.reply.Why.TheVariants as why
use Rattle.txn_lang.specs.declared.checked.Checked.{Checked}
use Rattle.txn_lang.specs.declared.commit.Commit.{Commit}
use Rattle.txn_lang.specs.declared.run.Run.{Run}
use Rattle.txn_lang.specs.declared.snaps.Snap.{Snap}
use Rattle.txn_lang.specs.States.{Journal, state}
use Rattle.journal_core.specs.Changes.{adding}
use Rattle.journal_core.specs.Holds.{bars}
use Rattle.journal_core.specs.Pairs.{pairs}
use Rattle.docc_prepare.specs.declared.attempt.Attempt.{Attempt}
use Rattle.docc_prepare.specs.declared.attempt.Next.TheVariants as next
use Rattle.docc_prepare.specs.Attempts.{based, in_shard, next_event, Prepares, with_snap, with_front, Fits}
use Rattle.docc_prepare.specs.Witnesses.{least_witness}
use Rattle.docc_prepare.specs.Calls.{Known}
use Rattle.docc_prepare.specs.Backends.{IsPrefix, IsLeastBase}
pub use Rattle.client_watches.specs.Explained.{IsOutcomeAt}
use Rattle.client_watches.specs.Explained.{Shown, ShownList, shown_of, SyncPasses, WatchPasses, UnwatchPasses}
use Rattle.plain_data.specs.Texts.{Bytes}
use Rattle.session_core.specs.declared.line.Line.{Line}
use Rattle.session_core.specs.declared.line.Line.TheVariants as asked
use Rattle.session_core.specs.declared.session.Session.{Session}
use Rattle.session_core.specs.declared.error.SessionError.{SessionError}
use Rattle.session_core.specs.declared.turn.Turn.{Turn}
use Rattle.session_core.specs.declared.turn.Turn.TheVariants as turn
use Rattle.session_core.specs.Events.{seq_after, opened, said}

-- the store's settings, as far as replies tell of them, and with how many commits, which nobody ran again, it was made
pub record Setting : Type 0 where
  pub trusted : ℕ
  pub shards : ℕ
  pub window : ℕ
  pub limit : ℕ

-- How far a client has come with its attempts: its next seq, and the open attempt, with its bases and fronts.
pub record Attempting : Type 0 where
  pub client : ℕ
  pub seq : ℕ
  pub attempt : Option Attempt

-- What the replies have shown so far: the greatest number; what that was when the open attempt began; how far the client has come
-- with its attempts; and its watches, each with the number of its last report.
pub record Story : Type 0 where
  pub low : ℕ
  pub begun : ℕ
  pub attempting : Attempting
  pub watches : ShownList

-- a session's, where so much was shown
abbrev pub attempting_of : Session → Attempting
attempting_of s = record { client = s.client; seq = s.seq; attempt = s.attempt }

-- the story of a session as it stands
abbrev pub story_of : ℕ → ℕ → Session → Story
story_of low begun s = record { low = low; begun = begun; attempting = attempting_of s; watches = shown_of s.watching.watches }

-- ---- numbers

-- not below what was shown, and a number of the journal
pub record IsShown (low : ℕ) (journal : Journal) (n : ℕ) : Type 0 where
  pub not_back : low ≤ n
  pub within : n ≤ length journal

-- below a horizon, which is so far behind the journal's end at least as the window is wide
pub record IsLate (window n horizon : ℕ) (journal : Journal) : Type 0 where
  pub below : n < horizon
  pub behind : horizon + window ≤ length journal

-- ---- ends of an attempt

-- what a run observed, with its bases, in one shard and in all
abbrev pub based_here : Attempt → ℕ → Run → List Based
based_here a shard run = in_shard a.shards shard (based a.snaps run.observations)

-- all that a run observed, with bases
abbrev pub based_all : Attempt → Run → List Based
based_all a run = based a.snaps run.observations

-- the commit of a run
abbrev pub commit_by : Attempting → Attempt → Run → ℕ → Commit
commit_by s a run n = record { number = n; client = s.client; seq = s.seq; body = a.body.source; outcome = run.outcome; deltas = run.deltas }

-- The commit that is named stands at its number, by the client, with its next seq and the body's text, outcome and writes,
-- past all that was shown. Of the commits before it none clashes with what was observed, and no hold bars it.
pub record IsCommitted (set : Setting) (low : ℕ) (journal : Journal) (s : Attempting) (a : Attempt) (n : ℕ) (outcome : Outcome) : Type 0 where
  pub run : Run
  pub next : next_event a ≡ next.Append run
  pub before : Journal
  pub there : IsPrefix (before ++ commit_by s a run n ∷ []) journal
  pub number : n ≡ length before + 1
  pub above : low < n
  pub clear : pairs (based_all a run) before ≡ []
  pub unbarred : bars set.trusted before s.client run.deltas ≡ None
  pub outcome_is : outcome ≡ run.outcome

-- The least pair is named: of what was observed in the shard that is prepared next; or of all that was observed.
pub data IsAborted (journal : Journal) (a : Attempt) (w : Witness) : Type 0 where
  at_prepare : (shard : ℕ) (run : Run) → next_event a ≡ next.Prepare shard run → least_witness (based_here a shard run) journal ≡ Some w
      → IsAborted journal a w
  at_append : (run : Run) → next_event a ≡ next.Append run → least_witness (based_all a run) journal ≡ Some w → IsAborted journal a w

-- Of some first commits of the journal, not fewer than were shown, none clashes; and behind them a live hold bars, whose client
-- and number are named.
pub record IsHeldBack (set : Setting) (low : ℕ) (journal : Journal) (s : Attempting) (a : Attempt) (client number : ℕ) : Type 0 where
  pub run : Run
  pub next : next_event a ≡ next.Append run
  pub first : ℕ
  pub shown : IsShown low journal first
  pub clear : pairs (based_all a run) (take first journal) ≡ []
  pub barred : bars set.trusted (take first journal) s.client run.deltas ≡ Some (record { client = client; at = number })

-- The least base in the shard that is prepared next is below a horizon.
pub record IsLateAttempt (set : Setting) (journal : Journal) (a : Attempt) (base horizon : ℕ) : Type 0 where
  pub shard : ℕ
  pub run : Run
  pub next : next_event a ≡ next.Prepare shard run
  pub least : IsLeastBase (based_here a shard run) base
  pub late : IsLate set.window base horizon journal

-- The journal has as many commits as its limit, and none of the first ones clashes.
pub record IsFull (set : Setting) (journal : Journal) (a : Attempt) (limit : ℕ) : Type 0 where
  pub run : Run
  pub next : next_event a ≡ next.Append run
  pub limit_is : limit ≡ set.limit
  pub within : limit ≤ length journal
  pub clear : pairs (based_all a run) (take limit journal) ≡ []

-- the attempt was about to be appended
pub record IsAppended (a : Attempt) : Type 0 where
  pub run : Run
  pub next : next_event a ≡ next.Append run

-- an end, a row a reply
abbrev pub EndPasses : Setting → Journal → ℕ → Attempting → Attempt → Reply → Type 0
-- it stands at its number with this outcome, and nothing before it clashes with what it observed or bars it
EndPasses set journal low s a (reply.Commit n outcome) = IsCommitted set low journal s a n outcome
-- the least pair of an observation and a commit that clash is named
EndPasses set journal low s a (reply.Abort w) = IsAborted journal a w
-- nothing clashes, but the live hold of a client bars, and both are named
EndPasses set journal low s a (reply.Held client number) = IsHeldBack set low journal s a client number
-- the least base in the shard that comes next is below its horizon
EndPasses set journal low s a (reply.Late base horizon) = IsLateAttempt set journal a base horizon
-- the journal has as many commits as it may, and none of them clashes
EndPasses set journal low s a (reply.Full limit) = IsFull set journal a limit
-- nothing was left but to append it
EndPasses set journal low s a reply.Disk = IsAppended a
-- nothing else ends an attempt
EndPasses set journal low s a r = ⊥

-- From one attempt to another by events that no reply shows: reads and preparings, at bases and fronts that are not below what
-- was shown when the attempt began.
pub data Hides (begun : ℕ) (a : Attempt) : Attempt → Type 0 where
  nothing : Hides begun a a
  a_read : {b : Attempt} (address : Address) (snap : Snap) → Hides begun a b → next_event b ≡ next.Read address → begun ≤ snap.base
      → Hides begun a (with_snap b address snap)
  a_front : {b : Attempt} (shard front : ℕ) → Hides begun a b → Prepares b shard → begun ≤ front → Hides begun a (with_front b shard front)

-- some hidden events with which the attempt fits the journal, and then the end
pub record HiddenEnd (set : Setting) (journal : Journal) (y : Story) (first : Attempt) (r : Reply) : Type 0 where
  pub attempt : Attempt
  pub hidden : Hides y.begun first attempt
  pub fits : Fits journal attempt
  pub passes : EndPasses set journal y.low y.attempting attempt r

-- ---- one event that is shown, a row a reply

-- WHERE THE REPLY TO A STEP PASSES:
abbrev pub StepPasses : Setting → Journal → Story → Attempt → Reply → Type 0
-- the run needs the value at this address, and it was read at a number that may be shown
StepPasses set journal y a (reply.Read address base) = (next_event a ≡ next.Read address) × IsShown y.low journal base
-- this shard comes next, and nothing up to its front clashes with what was observed in it
StepPasses set journal y a (reply.Prepared shard front) = Prepares a shard × Fits journal (with_front a shard front)
-- or the attempt has ended
StepPasses set journal y a r = EndPasses set journal y.low y.attempting a r

-- ---- looks

-- `look`, a row a reply
abbrev pub LookPasses : Setting → Journal → ℕ → Checked → Reply → Type 0
-- the outcome is the body's on a prefix that may be shown
LookPasses set journal low body (reply.At n outcome) = IsShown low journal n × IsOutcomeAt journal body n outcome
-- the prefix that may be shown is below a horizon
LookPasses set journal low body (reply.Late n horizon) = IsShown low journal n × IsLate set.window n horizon journal
-- nothing else answers a look
LookPasses set journal low body r = ⊥

-- `at`, whose number is the user's, a row a reply
abbrev pub AtPasses : Setting → Journal → ℕ → ℕ → Checked → Reply → Type 0
-- the outcome is the body's on the prefix that was asked for
AtPasses set journal low asked_for body (reply.At n outcome) = (n ≡ asked_for) × (n ≤ length journal) × IsOutcomeAt journal body n outcome
-- that prefix is below a horizon
AtPasses set journal low asked_for body (reply.Late n horizon) = (n ≡ asked_for) × IsLate set.window n horizon journal
-- it is past what the client has seen, which may be shown
AtPasses set journal low asked_for body (reply.Ahead n m) = (n ≡ asked_for) × (m < n) × IsShown low journal m
-- nothing else answers it
AtPasses set journal low asked_for body r = ⊥

-- `seen` and `begin`: how many commits the client has seen, not below what was shown
abbrev pub SeenPasses : Journal → ℕ → Reply → Type 0
SeenPasses journal low (reply.Seen n) = IsShown low journal n
-- nothing else answers them
SeenPasses journal low r = ⊥

-- ---- lines

-- one reply, which passes
abbrev pub By : (Reply → Type 0) → Turn → Type 0
By P (turn.Replies (r ∷ [])) = P r
By P t = ⊥

-- by whether an attempt is open
abbrev pub IfOpen : Option Attempt → Type 0 → (Attempt → Type 0) → Type 0
IfOpen None P Q = P
IfOpen (Some a) P Q = Q a

-- the answer where an attempt is open already
abbrev pub is_busy : Turn
is_busy = said (reply.Refused why.Busy)

-- the answer where none is open
abbrev pub none_open : Turn
none_open = said (reply.Refused why.NoAttempt)

-- an attempt that begins with the line
abbrev pub begun_now : Story → Story
begun_now y = record y { begun = y.low }

-- which answer passes for a line that isn't of watches, a row a form of line
abbrev pub PlainPasses : Setting → Journal → Story → Line → Turn → Type 0
-- a line that asks for nothing has no reply
PlainPasses set journal y asked.Quiet t = t ≡ turn.Quiet
-- one that is refused says why, and nothing else
PlainPasses set journal y (asked.Refused reason) t = t ≡ said (reply.Refused reason)
-- `begin` shows what is seen, unless an attempt is open
PlainPasses set journal y (asked.Begin body) t = IfOpen y.attempting.attempt (By (SeenPasses journal y.low) t) (λ a. t ≡ is_busy)
-- `do` and `try` show how the last attempt at the body ended, unless one is open
PlainPasses set journal y (asked.Try tries body) t =
    IfOpen y.attempting.attempt (By (HiddenEnd set journal (begun_now y) (opened set.shards body)) t) (λ a. t ≡ is_busy)
-- `step` shows one event of the open attempt
PlainPasses set journal y asked.Step t = IfOpen y.attempting.attempt (t ≡ none_open) (λ a. By (StepPasses set journal y a) t)
-- `go` shows its end
PlainPasses set journal y asked.Go t = IfOpen y.attempting.attempt (t ≡ none_open) (λ a. By (HiddenEnd set journal y a) t)
-- `drop` gives it up
PlainPasses set journal y asked.Drop t = IfOpen y.attempting.attempt (t ≡ none_open) (λ a. t ≡ said reply.Dropped)
-- `look` and `at` show a body's outcome on a prefix
PlainPasses set journal y (asked.Look body) t = By (LookPasses set journal y.low body) t
PlainPasses set journal y (asked.At n body) t = By (AtPasses set journal y.low n body) t
-- `seen` shows how many commits the client has seen
PlainPasses set journal y asked.Seen t = By (SeenPasses journal y.low) t
-- `quit` ends the session
PlainPasses set journal y asked.Quit t = t ≡ turn.Ended (reply.Dropped ∷ [])
-- lines of watches have rows of their own
PlainPasses set journal y l t = ⊥

-- replies, which pass
abbrev pub ByAll : (List Reply → Type 0) → Turn → Type 0
ByAll P (turn.Replies replies) = P replies
ByAll P t = ⊥

-- `wait`, a row an answer
abbrev pub WaitPasses : Setting → Journal → Story → Turn → ShownList → Type 0
-- there is no commit yet past those that were seen, and no watch has changed
WaitPasses set journal y turn.WaitWanted later = later ≡ y.watches
-- there was one: the rest is as for `sync`, past all that was shown
WaitPasses set journal y t later = ByAll (λ replies. SyncPasses set.window journal (y.low + 1) y.watches replies later) t

-- WHICH ANSWER PASSES FOR A LINE, a row a form of line, and which watches there are then, each with the number of its last report.
abbrev pub Passes : Setting → Journal → Story → Line → Turn → ShownList → Type 0
-- `watch`, `unwatch`, `sync` and `wait`: the rows of client_watches, specs/Explained
Passes set journal y (asked.Watch name body) t later = ByAll (λ replies. WatchPasses set.window journal y.low name body y.watches replies later) t
Passes set journal y (asked.Unwatch name) t later = ByAll (λ replies. UnwatchPasses name y.watches replies later) t
Passes set journal y asked.Sync t later = ByAll (λ replies. SyncPasses set.window journal y.low y.watches replies later) t
Passes set journal y asked.Wait t later = WaitPasses set journal y t later
-- no other line touches a watch
Passes set journal y l t later = PlainPasses set journal y l t × (later ≡ y.watches)

-- ---- what the replies have shown then

-- the greatest number that was shown
abbrev pub low_by : ℕ → Reply → ℕ
low_by low (reply.Seen n) = max low n
low_by low (reply.Followed shard front) = max low front
low_by low (reply.Read address base) = max low base
low_by low (reply.Prepared shard front) = max low front
low_by low (reply.Commit n outcome) = max low n
low_by low (reply.Abort w) = max low w.number
low_by low (reply.Held client number) = max low number
low_by low (reply.Full limit) = max low limit
low_by low (reply.Ran name n outcome) = max low n
low_by low (reply.Current n) = max low n
low_by low (reply.Ahead n m) = max low m
low_by low r = low

-- the number at which a look ran, but not one that the user names
abbrev pub looked_at : ℕ → Reply → ℕ
looked_at low (reply.At n outcome) = max low n
looked_at low r = low_by low r

-- the replies of an answer
abbrev pub replies_in : Turn → List Reply
replies_in (turn.Replies rs) = rs
replies_in (turn.Ended rs) = rs
replies_in t = []

-- the greatest number shown, behind a line
abbrev pub low_after : ℕ → Line → Turn → ℕ
low_after low (asked.Look body) t = fold looked_at low (replies_in t)
low_after low l t = fold low_by low (replies_in t)

-- with another open attempt, or none
abbrev pub holding : Attempting → Option Attempt → Attempting
holding s o = record s { attempt = o }

-- after an attempt's end
abbrev pub ended_by : Attempting → Reply → Attempting
ended_by s r = record s { seq = seq_after s.seq r; attempt = None }

-- after an event that is shown
abbrev pub stepped_on : Journal → Attempting → Attempt → Reply → Attempting
stepped_on journal s a (reply.Read address base) = holding s
    (Some (with_snap a address (record { base = base; value = state journal base address })))
stepped_on journal s a (reply.Prepared shard front) = holding s (Some (with_front a shard front))
stepped_on journal s a r = ended_by s r

-- what the reply to a line makes of the attempt
abbrev pub by_reply : (Reply → Attempting) → Attempting → Turn → Attempting
by_reply f s (turn.Replies (r ∷ rs)) = f r
by_reply f s t = s

-- what becomes of an open attempt
abbrev pub if_attempt : Option Attempt → Attempting → (Attempt → Attempting) → Attempting
if_attempt None s f = s
if_attempt (Some a) s f = f a

-- How far the client has come after a line, as its answer shows it: `begin` opens an attempt; `go` and a try close one; `step` shows
-- how it goes on.
abbrev pub attempting_after : Setting → Journal → Attempting → Line → Turn → Attempting
attempting_after set journal s (asked.Begin body) t = if_attempt s.attempt (holding s (Some (opened set.shards body))) (λ a. s)
attempting_after set journal s (asked.Try tries body) t = if_attempt s.attempt (by_reply (ended_by s) s t) (λ a. s)
attempting_after set journal s asked.Step t = if_attempt s.attempt s (λ a. by_reply (stepped_on journal s a) s t)
attempting_after set journal s asked.Go t = if_attempt s.attempt s (λ a. by_reply (ended_by s) s t)
attempting_after set journal s asked.Drop t = holding s None
attempting_after set journal s asked.Quit t = holding s None
attempting_after set journal s l t = s

-- where an attempt is open, its beginning stays
abbrev pub begun_if : Option Attempt → ℕ → ℕ → ℕ
begun_if None now before = now
begun_if (Some a) now before = before

-- at which number the open attempt began, behind a line
abbrev pub begun_after : Story → Line → Turn → ℕ
begun_after y (asked.Begin body) t = begun_if y.attempting.attempt (low_after y.low (asked.Begin body) t) y.begun
begun_after y l t = y.begun

-- the story behind a line, with these watches
abbrev pub story_after : Setting → Journal → Story → Line → Turn → ShownList → Story
story_after set journal y l t later = record {
  low = low_after y.low l t;
  begun = begun_after y l t;
  attempting = attempting_after set journal y.attempting l t;
  watches = later;
}

-- an answer that passes, and what holds of the watches that there are then
pub record IsPassed (set : Setting) (journal : Journal) (y : Story) (l : Line) (t : Turn) (Rest : ShownList → Type 0) : Type 0 where
  pub later : ShownList
  pub passes : Passes set journal y l t later
  pub rest : Rest later

-- THE ANSWERS TO THE LINES ARE EXPLAINED BY THE JOURNAL: each passes after those before it.
abbrev pub Explains : Setting → Journal → Story → List Line → List Turn → Type 0
Explains set journal y [] [] = Unit {0}
Explains set journal y (l ∷ ls) (t ∷ ts) = IsPassed set journal y l t (λ later. Explains set journal (story_after set journal y l t later) ls ts)
Explains set journal y [] (t ∷ ts) = ⊥
Explains set journal y (l ∷ ls) [] = ⊥

-- ---- one line, as a clause

-- the settings of the store, as a client knows them
abbrev pub setting_of : Known → Setting
setting_of k = record { trusted = k.trusted; shards = k.shards; window = k.window; limit = k.limit }

-- of a journal that is told, which may have grown
pub record LinePasses (k l : Known) (y : Story) (line : Line) (t : Turn) (after : Session) (old new : Journal) : Type 0 where
  pub grows : IsPrefix old new
  pub passes : Passes (setting_of k) new y line t (shown_of after.watching.watches)
  pub attempting : attempting_of after ≡ attempting_after (setting_of k) new y.attempting line t
  pub shown : low_after y.low line t ≤ l.seen

-- the bases of an attempt are not below a number
abbrev pub AreFrom : ℕ → Attempt → Type 0
AreFrom begun a = AllByRecursion (λ (read : Address × Snap). begun ≤ read.1.base) a.snaps

-- no watch was reported past what was shown
abbrev pub AreReported : Story → Type 0
AreReported y = AllByRecursion (λ (entry : Bytes × Shown). entry.1.number ≤ y.low) y.watches

-- a story that the backend's client may have been told: no number above what it has seen, an attempt whose bases are not below
-- what was shown when it began, and watches that were reported at numbers which were shown
pub record MayBeTold (k : Known) (y : Story) : Type 0 where
  pub seen : y.low ≤ k.seen
  pub before : y.begun ≤ y.low
  pub bases : IfSome y.attempting.attempt (AreFrom y.begun)
  pub reported : AreReported y

-- Whatever was shown before, if no number was above what is seen, the answer passes, where the backend tells its journal.
abbrev pub IsExplained : Known → Known → Session → Line → Result Turn SessionError → Session → Type 0
IsExplained k l s line (Ok t) after =
    (low begun : ℕ) → MayBeTold k (story_of low begun s) → WhereTold (LinePasses k l (story_of low begun s) line t after) k.journal l.journal
IsExplained k l s line (Err e) after = Unit {0}

-- ---- worked lines

-- of two commits and after the first was shown, the second may be shown
second-is-shown : IsShown 1 (adding 1 (codes "x") ∷ adding 2 (codes "y") ∷ []) 2
second-is-shown = record { not_back = lit≤ tt; within = lit≤ tt }

-- with a window of 1 the first prefix may be late where there are three commits
first-is-late : IsLate 1 1 2 (adding 1 (codes "x") ∷ adding 2 (codes "y") ∷ adding 3 (codes "x") ∷ [])
first-is-late = record { below = lit≤ tt; behind = lit≤ tt }

-- while an attempt is open `begin` is refused, and changes nothing
begin-is-busy : (set : Setting) (journal : Journal) (y : Story) (a : Attempt) (body : Checked)
    → Passes set journal (record y { attempting = holding y.attempting (Some a) }) (asked.Begin body) (said (reply.Refused why.Busy)) y.watches
begin-is-busy set journal y a body = (refl, refl)

busy-changes-nothing : (set : Setting) (journal : Journal) (s : Attempting) (a : Attempt) (body : Checked)
    → attempting_after set journal (holding s (Some a)) (asked.Begin body) (said (reply.Refused why.Busy)) ≡ holding s (Some a)
busy-changes-nothing set journal s a body = refl

-- what `go` shows is an end, and no attempt is open behind it
go-closes : (set : Setting) (journal : Journal) (s : Attempting) (a : Attempt) (w : Witness)
    → (attempting_after set journal (holding s (Some a)) asked.Go (said (reply.Abort w))).attempt ≡ None
go-closes set journal s a w = refl

-- the bases of an attempt are to be no less than what `begin` showed
begin-sets-the-least-base : (y : Story) (body : Checked)
    → begun_after (record y { low = 3; attempting = holding y.attempting None }) (asked.Begin body) (said (reply.Seen 7)) ≡ 7
begin-sets-the-least-base y body = refl

-- where there is nothing to wait for yet, the watches stay as they are
waiting-changes-nothing : (set : Setting) (journal : Journal) (y : Story) → Passes set journal y asked.Wait turn.WaitWanted y.watches
waiting-changes-nothing set journal y = refl

-- a number that is named by `at` shows nothing, and the number at which `look` ran does
at-shows-nothing : (outcome : Outcome) → low_by 3 (reply.At 5 outcome) ≡ 3
at-shows-nothing outcome = refl

look-shows : (outcome : Outcome) → looked_at 3 (reply.At 5 outcome) ≡ 5
look-shows outcome = refl

-- `held` shows the number of the hold
held-shows : low_by 3 (reply.Held 0 5) ≡ 5
held-shows = refl

-- `late` shows nothing
late-shows-nothing : low_by 3 (reply.Late 4 9) ≡ 3
late-shows-nothing = refl

-- a commit takes a seq
commit-takes-a-seq : (s : Attempting) (outcome : Outcome) → (ended_by s (reply.Commit 7 outcome)).seq ≡ s.seq + 1
commit-takes-a-seq s outcome = refl
