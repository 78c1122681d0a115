-- What the verbs of a session do, as programs of calls: each mirrors one function of the code, by its name. There is no journal in
-- them and no store. A part that is done in rounds takes the number of rounds that are left, and is stuck where none is.
use Rattle.std.specs.Prelude.{◌≡◌, ℕ, zero, suc, ◌-◌, nat_lt, if◌then◌else◌, [], Option, Some, None, Result, Ok, Err, refl}
use Rattle.std.specs.BTreeMap.{insert_entry}
use Rattle.rdt_types.specs.declared.address.Address.{Address}
use Rattle.rdt_types.specs.declared.outcome.Outcome.{Outcome}
use Rattle.rdt_types.specs.Addresses.{address_cmp}
use Rattle.abort_witness.specs.declared.witness.Witness.{Witness}
use Rattle.session_text.specs.declared.reply.Reply.{Reply}
use Rattle.session_text.specs.declared.reply.Reply.TheVariants as reply
use Rattle.session_text.specs.declared.reply.Why.TheVariants as why
use Rattle.txn_lang.specs.declared.checked.Checked.{Checked}
use Rattle.txn_lang.specs.Execution.{Ran, need, done, exec}
use Rattle.txn_eval.specs.Running.{values_of}
use Rattle.docc_prepare.specs.declared.attempt.Attempt.{Attempt}
use Rattle.docc_prepare.specs.Attempts.{SnapList}
use Rattle.docc_prepare.specs.Calls.{Known, Call, Answer}
use Rattle.docc_prepare.specs.Backends.{Goes}
use Rattle.docc_prepare.specs.Stores.{first_store, saw}
use Rattle.call_programs.specs.Programs.{Program, bind, Leads, Performs}
use Rattle.call_programs.specs.Played.{play_program}
use Rattle.call_programs.proofs.Programs.{bound}
use Rattle.session_core.specs.declared.limits.TheConstants.{MOST_EVENTS}
use Rattle.session_core.specs.declared.error.SessionError.{SessionError}
use Rattle.session_core.specs.declared.error.SessionError.TheVariants as error
use Rattle.session_core.specs.declared.moved.Moved.{Moved}
use Rattle.session_core.specs.declared.moved.Moved.TheVariants as moved
use Rattle.session_core.specs.declared.session.Session.{Session}
use Rattle.session_core.specs.declared.turn.Turn.{Turn}
use Rattle.session_core.specs.Events.{with_attempt, closed, ended, opened, afresh, call_of, moved_by, said}

-- THE END OF A LINE: the session after it, and the turn that it is answered
abbrev pub LineEnd : Type 0
LineEnd = Session × Turn

-- it ends with one reply, and asks nothing more
abbrev pub says : Session → Reply → Program LineEnd
says s r = Program.ends (s, said r)

-- ---- refreshes

-- a refresh is answered with how many commits there are, of which is made what follows
abbrev pub refreshed : {A : Type 0} → (ℕ → Program A) → Answer → Program A
refreshed next (Answer.number n) = next n
refreshed next answer = Program.stuck

-- what follows begins with a refresh
abbrev pub refresh_then : {A : Type 0} → (ℕ → Program A) → Program A
refresh_then next = Program.asks Call.refresh (refreshed next)

-- ---- one event

-- what an answer has made of an attempt, if it is an answer to its call
abbrev pub moved_to : Option Moved → Program Moved
moved_to None = Program.stuck
moved_to (Some m) = Program.ends m

-- ONE EVENT of an attempt: its next call. The answer says how the attempt goes on, or how it has ended.
abbrev pub event : Session → Attempt → Program Moved
event s a = Program.asks (call_of s a) (λ answer. moved_to (moved_by a answer))

-- an answered read is shown by its base, and the attempt goes on
abbrev pub was_read : Address → Attempt → ℕ → Moved
was_read address a base = moved.More a (reply.Read address base)

-- an answered preparing is shown by the shard's front, or has ended the attempt
abbrev pub was_prepared : ℕ → Attempt → Result ℕ Reply → Moved
was_prepared shard a (Ok front) = moved.More a (reply.Prepared shard front)
was_prepared shard a (Err r) = moved.End a r

-- an event that isn't shown: of its replies only one that ends the attempt is kept
abbrev pub unshown : Moved → Attempt × Option Reply
unshown (moved.More a r) = (a, None)
unshown (moved.End a r) = (a, Some r)

-- ONE EVENT that isn't shown
abbrev pub event_on : Session → Attempt → Program (Attempt × Option Reply)
event_on s a = bind (event s a) (λ m. Program.ends (unshown m))

-- ---- events until the end

-- THE END OF AN ATTEMPT: what it has come to, and the reply that shows that
abbrev pub AttemptEnd : Type 0
AttemptEnd = Attempt × Reply

-- an attempt that hasn't ended goes on
abbrev pub or_on : (Attempt → Program AttemptEnd) → Attempt × Option Reply → Program AttemptEnd
or_on more (a, None) = more a
or_on more (a, Some r) = Program.ends (a, r)

-- events until the end, and so many at most
abbrev pub drive_in : ℕ → Session → Attempt → Program AttemptEnd
drive_in zero s a = Program.stuck
drive_in (suc n) s a = bind (event_on s a) (or_on (drive_in n s))

-- more events than an attempt ever makes, and more rounds than a look
unfoldable pub events : ℕ
events = MOST_EVENTS

-- EVENTS UNTIL THE END
abbrev pub drive : Session → Attempt → Program AttemptEnd
drive s a = drive_in events s a

-- ---- attempts

-- ONE ATTEMPT: a refresh, and its events until the end
abbrev pub attempt_once : Session → Attempt → Program AttemptEnd
attempt_once s a = refresh_then (λ seen. drive s a)

-- the reply that shows an end, unless that is an abort
abbrev pub unless_abort : Reply → Option Reply
unless_abort (reply.Abort w) = None
unless_abort r = Some r

-- an end is shown, or the attempt begins anew
abbrev pub or_again : (Attempt → Program Reply) → Attempt → Option Reply → Program Reply
or_again more a None = more (afresh a)
or_again more a (Some r) = Program.ends r

-- behind an attempt that has ended, where another may follow
abbrev pub then_again : (Attempt → Program Reply) → AttemptEnd → Program Reply
then_again more end = or_again more end.0 (unless_abort end.1)

-- behind the last one
abbrev pub last_shown : AttemptEnd → Program Reply
last_shown end = Program.ends end.1

-- ATTEMPTS: one, and so many more at most, each behind an abort. The last end is shown.
abbrev pub try_times : ℕ → Session → Attempt → Program Reply
try_times zero s a = bind (attempt_once s a) last_shown
try_times (suc left) s a = bind (attempt_once s a) (then_again (try_times left s))

-- ---- the verbs of attempts

-- by whether an attempt is open
abbrev pub by_attempt : Option Attempt → Program LineEnd → (Attempt → Program LineEnd) → Program LineEnd
by_attempt None none some = none
by_attempt (Some a) none some = some a

-- what needs that none is open
abbrev pub unless_open : Session → Program LineEnd → Program LineEnd
unless_open s p = by_attempt s.attempt p (λ a. says s (reply.Refused why.Busy))

-- what needs one
abbrev pub if_open : Session → (Attempt → Program LineEnd) → Program LineEnd
if_open s f = by_attempt s.attempt (says s (reply.Refused why.NoAttempt)) f

-- an attempt is open behind a refresh, which is shown
abbrev pub opens : ℕ → Session → Checked → Program LineEnd
opens shards s body = refresh_then (λ seen. says (with_attempt s (Some (opened shards body))) (reply.Seen seen))

-- `BEGIN`, over so many shards
abbrev pub begin : ℕ → Session → Checked → Program LineEnd
begin shards s body = unless_open s (opens shards s body)

-- the end of an attempt is shown, and none is open any more
abbrev pub closing : Session → Reply → Program LineEnd
closing s r = says (ended s r) r

-- attempts at a body, so many at most
abbrev pub tries_at : ℕ → ℕ → Session → Checked → Program LineEnd
tries_at shards tries s body = bind (try_times (tries - 1) s (opened shards body)) (closing s)

-- `DO` and `TRY`, which commit a body
abbrev pub commit : ℕ → ℕ → Session → Checked → Program LineEnd
commit shards tries s body = unless_open s (tries_at shards tries s body)

-- the event is shown, and what it made of the attempt
abbrev pub stepped : Session → Moved → Program LineEnd
stepped s (moved.More a r) = says (with_attempt s (Some a)) r
stepped s (moved.End a r) = closing s r

-- the event of the open attempt
abbrev pub steps : Session → Attempt → Program LineEnd
steps s a = bind (event (closed s) a) (stepped s)

-- `STEP`
abbrev pub step : Session → Program LineEnd
step s = if_open s (steps s)

-- the end of the open attempt
abbrev pub goes_on : Session → Attempt → Program LineEnd
goes_on s a = bind (drive (closed s) a) (λ end. closing s end.1)

-- `GO`
abbrev pub go : Session → Program LineEnd
go s = if_open s (goes_on s)

-- `DROP` gives the open attempt up
abbrev pub give_up : Session → Program LineEnd
give_up s = if_open s (λ a. says (closed s) reply.Dropped)

-- ---- looks

-- a value more was read, or the number is below a horizon
abbrev pub valued : (SnapList → Program Reply) → ℕ → SnapList → Address → Answer → Program Reply
valued more n snaps address (Answer.value v) = more (insert_entry address_cmp snaps address (record { base = n; value = v }))
valued more n snaps address (Answer.late m horizon) = Program.ends (reply.Late m horizon)
valued more n snaps address answer = Program.stuck

-- by the run on the values that were read: it needs one more, or is done, and its outcome is shown
abbrev pub look_by : (SnapList → Program Reply) → ℕ → SnapList → Ran → Program Reply
look_by more n snaps (need address) = Program.asks (Call.read_at address n) (valued more n snaps address)
look_by more n snaps (done run) = Program.ends (reply.At n run.outcome)

-- a body runs on the values of the first n commits that were read, in so many rounds at most
abbrev pub look_in : ℕ → ℕ → Checked → SnapList → Program Reply
look_in zero n body snaps = Program.stuck
look_in (suc left) n body snaps = look_by (look_in left n body) n snaps (exec body.body (values_of snaps))

-- A RUN on the first n commits
abbrev pub look_at : ℕ → Checked → Program Reply
look_at n body = look_in events n body []

-- by how many commits are seen: all of them, or a number that isn't past them
abbrev pub look_from : Option ℕ → Checked → ℕ → Program Reply
look_from None body seen = look_at seen body
look_from (Some n) body seen = if nat_lt seen n then Program.ends (reply.Ahead n seen) else look_at n body

-- `LOOK`, and `AT` a number
abbrev pub look : Option ℕ → Checked → Program Reply
look upto body = refresh_then (look_from upto body)

-- ---- what functions do

-- A function that may fail as a line does performs a program over its backend: the program ends with what is made of the result.
-- After an error it has stopped on the way, and that is a fault of the store exactly where a call has failed by one.
abbrev pub Plays : {B A T : Type 0} → (B → Known) → (B → Call → Answer → B → Type 0) → B → Program A → Result T SessionError → (T → A) → B
    → Type 0
Plays known goes old p result give new = Performs (Goes known goes) error.StoreFault old p result give new

-- ---- worked lines

-- while an attempt is open `begin` is refused without a call, and changes nothing
begin-is-busy :
    (shards : ℕ) (s : Session) (a : Attempt) (body : Checked)
    → begin shards (with_attempt s (Some a)) body ≡ says (with_attempt s (Some a)) (reply.Refused why.Busy)
begin-is-busy shards s a body = refl

-- and where none is open it makes one call, and the attempt is open then
begin-opens :
    (s : Session) (body : Checked)
    → play_program 5 (first_store 4 2 100) (begin 4 (closed s) body)
    ≡ (Some (with_attempt s (Some (opened 4 body)), said (reply.Seen 0)), saw (first_store 4 2 100) 5 0)
begin-opens s body = refl

-- over a store without commits the number 3 is ahead
look-is-ahead :
    (body : Checked)
    → play_program 5 (first_store 4 2 100) (look (Some 3) body) ≡ (Some (reply.Ahead 3 0), saw (first_store 4 2 100) 5 0)
look-is-ahead body = refl

-- behind an abort the attempt begins anew, and behind any other end it is shown
abort-tries-again :
    (more : Attempt → Program Reply) (a : Attempt) (w : Witness) → then_again more (a, reply.Abort w) ≡ more (afresh a)
abort-tries-again more a w = refl

held-is-shown : (more : Attempt → Program Reply) (a : Attempt) → then_again more (a, reply.Held 0 2) ≡ Program.ends (reply.Held 0 2)
held-is-shown more a = refl

full-is-shown : (more : Attempt → Program Reply) (a : Attempt) → then_again more (a, reply.Full 9) ≡ Program.ends (reply.Full 9)
full-is-shown more a = refl

-- of two tries the first is aborted, and the second commits
tries-twice :
    {S : Type 0} {goes : S → Call → Answer → S → Type 0} {first second third : S} (s : Session) (a b c : Attempt) (w : Witness) (outcome : Outcome)
    → Leads goes first (attempt_once s a) second (Program.ends (b, reply.Abort w))
    → Leads goes second (attempt_once s (afresh b)) third (Program.ends (c, reply.Commit 7 outcome))
    → Leads goes first (try_times 1 s a) third (Program.ends (reply.Commit 7 outcome))
tries-twice s a b c w outcome aborted committed =
    bound (then_again (try_times 0 s)) aborted (bound last_shown committed Leads.stays)

-- `drop` needs an attempt
drop-of-none : (s : Session) → give_up (closed s) ≡ says (closed s) (reply.Refused why.NoAttempt)
drop-of-none s = refl
