-- What functions of a session perform, put together: events, attempts, looks, and the verbs that are made of them.
use Rattle.std.proofs.Common.{◌≡◌, ◌↔◌, ℕ, suc, ◌+◌, ◌-◌, ◌<◌, ◌≤◌, Bool, true, false, cond, Option, Some, None, Result, Ok, Err}
use Rattle.std.proofs.Common.{refl, sym, ap, ◌∙◌, subst, arith}
use Rattle.std.specs.Prelude.{nat_lt}
use Rattle.std.specs.Option.{is_some}
use Rattle.std.proofs.lemmas.Bool.Decides.{nat_tests}
use Rattle.std.specs.BTreeMap.{insert_entry}
use Rattle.rdt_types.specs.declared.address.Address.{Address}
use Rattle.rdt_types.specs.Addresses.{address_cmp}
use Rattle.session_text.specs.declared.reply.Reply.{Reply}
use Rattle.session_text.specs.declared.reply.Reply.TheVariants as reply
use Rattle.session_text.specs.declared.reply.Why.TheVariants as why
use Rattle.txn_lang.specs.declared.checked.Checked.{Checked}
use Rattle.txn_lang.specs.declared.snaps.Snap.{Snap}
use Rattle.txn_lang.specs.Execution.{Ran, need, exec}
use Rattle.txn_lang.proofs.Given.{read_next}
use Rattle.txn_eval.specs.declared.pause.Pause.{Pause}
use Rattle.txn_eval.specs.Running.{values_of}
use Rattle.txn_eval.specs.Pausing.{IsPauseOf}
use Rattle.txn_eval.proofs.MoreKnown.{pauses_stay}
use Rattle.docc_prepare.specs.declared.attempt.Attempt.{Attempt}
use Rattle.docc_prepare.specs.declared.attempt.Next.{Next}
use Rattle.docc_prepare.specs.declared.attempt.Next.TheVariants as next
use Rattle.docc_prepare.specs.declared.backend.StoreError.{StoreError}
use Rattle.docc_prepare.specs.declared.backend.StoreError.TheVariants as store
use Rattle.docc_prepare.specs.Attempts.{SnapList, next_event}
use Rattle.docc_prepare.specs.Calls.{Known, Call, Answer}
use Rattle.docc_prepare.specs.Backends.{Goes}
use Rattle.call_programs.specs.Programs.{Program, bind, Leads, Stops, Performs, Succeeds}
use Rattle.call_programs.proofs.Programs.{and_then, one_call, stops_behind}
use Rattle.session_core.specs.declared.limits.TheConstants.{MOST_EVENTS}
use Rattle.session_core.specs.declared.error.SessionError.{SessionError}
use Rattle.session_core.specs.declared.error.SessionError.TheVariants as error
use Rattle.session_core.specs.declared.moved.Moved.{Moved}
use Rattle.session_core.specs.declared.moved.Moved.TheVariants as moved
use Rattle.session_core.specs.declared.session.Session.{Session}
use Rattle.session_core.specs.Errors.{error_of, error_by, LeavesError}
use Rattle.session_core.specs.Events.{closed, seq_after, ended, is_kept, event_call, call_of, moved_at, moved_by}
use Rattle.session_core.specs.code.Turning.{Turned, moved_on_read, moved_on_prepare, moved_on_append, is_abort, is_value, Valued}
use Rattle.session_core.specs.Verbs.{LineEnd, AttemptEnd, says, moved_to, event, was_read, was_prepared, event_on, or_on, drive_in, events, attempt_once}
use Rattle.session_core.specs.Verbs.{unless_abort, then_again, try_times, by_attempt, unless_open, if_open, valued, look_by, look_in, look_at, look_from}
use Rattle.session_core.specs.Stopping.{owes_reply, StopsShort, Does}
use Rattle.session_core.proofs.Stopping.{Asks, stops_of}

-- ---- errors

-- want of memory is no fault of the store
pub no_fault : {e : SessionError} → e ≡ error.NoMemory → e ≡ error.StoreFault → ⊥
no_fault want h = let both : error.NoMemory ≡ error.StoreFault = sym want ∙ h in cc

-- a call's error is a fault exactly where the call failed by one
pub fault_is : (e : StoreError) → (error_of e ≡ error.StoreFault) ↔ (e ≡ store.Fault)
fault_is store.Fault = (λ h. refl, λ is. refl)
fault_is store.NoMemory = (λ h. absurd (cc), λ is. absurd (cc))

-- ---- results

-- behind what leads there, whatever the result is
pub performs_behind : {S A T E : Type 0} {goes : S → Call → Answer → S → Type 0} {s m : S} {p q : Program A} (fault : E) (give : T → A) (t : S)
    (r : Result T E) → Leads goes s p m q → Performs goes fault m q r give t → Performs goes fault s p r give t
performs_behind fault give t (Ok x) first rest = and_then first rest
performs_behind fault give t (Err e) first rest = stops_behind first rest

-- ---- one event

-- a failed call makes nothing of an attempt
moved_failed : (a : Attempt) (f : Bool) → moved_by a (Answer.failed f) ≡ None
moved_failed a f = by (next_event a)
  where
    by : (n : Next) → moved_at a n (Answer.failed f) ≡ None
    by (next.Read address) = refl
    by (next.Prepare shard run) = refl
    by (next.Append run) = refl

-- an answer that makes something of an attempt hasn't failed
moved_succeeds : (a : Attempt) (answer : Answer) (m : Moved) → moved_by a answer ≡ Some m → Succeeds answer
moved_succeeds a (Answer.failed f) m is = let none : Some m ≡ None = sym is ∙ moved_failed a f in absurd (cc)
moved_succeeds a answer m is = tt

-- an answer that is to be kept owes no reply
event_owes : (s : Session) (a : Attempt) (n : Next) (answer : Answer) → is_kept n answer ≡ true → owes_reply (event_call s a n) answer ≡ false
event_owes s a (next.Read address) answer kept = refl
event_owes s a (next.Prepare shard run) (Answer.prepared p) kept = refl
event_owes s a (next.Prepare shard run) answer kept = absurd (cc)
event_owes s a (next.Append run) answer kept = absurd (cc)

-- the error of a failed call is a fault exactly where it failed by one
fault_by : (f : Bool) (e : SessionError) → e ≡ error_by f → (e ≡ error.StoreFault) ↔ (f ≡ true)
fault_by true e is = (λ fault. refl, λ so. is)
fault_by false e is = (λ fault. absurd (let both : error.NoMemory ≡ error.StoreFault = sym is ∙ fault in cc), λ so. absurd (cc))

-- where an answer leaves an error, a call stops short
leaves_short : {S A : Type 0} {goes : S → Call → Answer → S → Type 0} {s t : S} {call : Call} {next : Answer → Program A} (kept : Bool)
    (answer : Answer) (e : SessionError) → (kept ≡ true → owes_reply call answer ≡ false) → goes s call answer t → LeavesError kept answer e
    → StopsShort goes s (Program.asks call next) (e ≡ error.StoreFault) t
leaves_short kept (Answer.failed f) e quiet step leaves = StopsShort.fails f Leads.stays step (fault_by f e leaves)
leaves_short kept answer e quiet step leaves = StopsShort.behind answer Leads.stays step tt (quiet leaves.1) (no_fault leaves.0)

module _ {B : Type 0} {known : B → Known} {goes : B → Call → Answer → B → Type 0} {b c : B} {answer : Answer} (s : Session) (a : Attempt) (n : Next)
    (is : next_event a ≡ n) (step : Goes known goes b (event_call s a n) answer c) where
  -- the call is that of the attempt's next event
  called : Goes known goes b (call_of s a) answer c
  called = subst (λ n. Goes known goes b (event_call s a n) answer c) (sym is) step

  -- an event that was made
  event_led : (m : Moved) → moved_by a answer ≡ Some m → Leads (Goes known goes) b (event s a) c (Program.ends m)
  event_led m turned = one_call answer called (moved_succeeds a answer m turned) (ap moved_to turned)

  -- and one behind which there is an error
  event_stops : (e : SessionError) → LeavesError (is_kept (next_event a) answer) answer e
      → StopsShort (Goes known goes) b (event s a) (e ≡ error.StoreFault) c
  event_stops e leaves = leaves_short (is_kept (next_event a) answer) answer e (event_owes s a (next_event a) answer) called leaves

  -- an answered read
  pub read_does : (address : Address) (left : Attempt) (r : Result ℕ SessionError) → Turned a answer (moved_on_read address left r)
      → Does known goes b (event s a) r (was_read address left) c
  read_does address left (Ok base) turned = event_led (moved.More left (reply.Read address base)) turned
  read_does address left (Err e) turned = event_stops e turned

  -- an answered preparing
  pub prepare_does : (shard : ℕ) (left : Attempt) (r : Result (Result ℕ Reply) SessionError) → Turned a answer (moved_on_prepare shard left r)
      → Does known goes b (event s a) r (was_prepared shard left) c
  prepare_does shard left (Ok (Ok front)) turned = event_led (moved.More left (reply.Prepared shard front)) turned
  prepare_does shard left (Ok (Err r)) turned = event_led (moved.End left r) turned
  prepare_does shard left (Err e) turned = event_stops e turned

  -- an answered append
  pub append_does : (r : Result Reply SessionError) → Turned a answer (moved_on_append a r) → Does known goes b (event s a) r (moved.End a) c
  append_does (Ok r) turned = event_led (moved.End a r) turned
  append_does (Err e) turned = event_stops e turned

-- ---- rounds

-- so many are left, of which this is one
pub one_event : (i : ℕ) → i < MOST_EVENTS → events - i ≡ suc (events - (i + 1))
unfolding events
one_event i within = omega arith

-- none is over yet
pub none_over : events ≡ events - 0
none_over = omega arith

-- one event more, and then what is left of them
pub drive_round : (i : ℕ) (s : Session) (a : Attempt) → i < MOST_EVENTS
    → drive_in (events - i) s a ≡ bind (event_on s a) (or_on (drive_in (events - (i + 1)) s))
drive_round i s a within = ap (λ (n : ℕ). drive_in n s a) (one_event i within)

-- so it asks
pub drive_asks : (i : ℕ) (s : Session) (a : Attempt) → Asks (bind (event_on s a) (or_on (drive_in (events - i) s)))
drive_asks i s a = record { call = call_of s a; next = _; is = refl }

-- one run more of a look
pub look_round : (i n : ℕ) (body : Checked) (snaps : SnapList) (r : Ran) → i < MOST_EVENTS → exec body.body (values_of snaps) ≡ r
    → look_in (events - i) n body snaps ≡ look_by (look_in (events - (i + 1)) n body) n snaps r
look_round i n body snaps r within ran =
    ap (λ (m : ℕ). look_in m n body snaps) (one_event i within) ∙ ap (look_by (look_in (events - (i + 1)) n body) n snaps) ran

-- one attempt, and then those that may follow it
pub try_round : (tries i : ℕ) (s : Session) (a : Attempt) → i < tries
    → try_times (tries - i) s a ≡ bind (attempt_once s a) (then_again (try_times (tries - (i + 1)) s))
try_round tries i s a within = ap (λ (n : ℕ). try_times n s a) (let e : tries - i ≡ suc (tries - (i + 1)) = omega arith in e)

-- an attempt asks for a refresh first
pub once_asks : {C : Type 0} (s : Session) (a : Attempt) (f : AttemptEnd → Program C) → Asks (bind (attempt_once s a) f)
once_asks s a f = record { call = Call.refresh; next = _; is = refl }

-- ---- ends of attempts

-- an abort isn't shown while another attempt may follow
pub abort_unshown : (r : Reply) → is_abort r ≡ true → unless_abort r ≡ None
abort_unshown (reply.Abort w) e = refl
abort_unshown r e = absurd (cc)

-- any other end is
pub other_shown : (r : Reply) → is_abort r ≡ false → unless_abort r ≡ Some r
other_shown (reply.Abort w) e = absurd (cc)
other_shown r e = refl

-- ---- looks

-- what is made of an answered read at a number
pub record IsValued (p q : Program Reply) (answer : Answer) : Type 0 where
  pub succeeds : Succeeds answer
  pub is : p ≡ q

-- a value more
pub valued_more : (more : SnapList → Program Reply) (n : ℕ) (snaps : SnapList) (address : Address) (answer : Answer) (longer : SnapList)
    → Valued snaps address n answer (Ok None) longer → IsValued (valued more n snaps address answer) (more longer) answer
valued_more more n snaps address (Answer.value v) longer h = record { succeeds = tt; is = ap more (sym h) }
valued_more more n snaps address answer longer h = absurd h

-- on which its run comes to the pauses that it came to before
pub valued_pauses : (body : Checked) (n : ℕ) (snaps : SnapList) (address : Address) (answer : Answer) (longer : SnapList) (pause : Pause)
    → exec body.body (values_of snaps) ≡ need address → Valued snaps address n answer (Ok None) longer
    → IsPauseOf body.body.stmts snaps pause → IsPauseOf body.body.stmts longer pause
valued_pauses body n snaps address (Answer.value v) longer pause needed h is =
    let snap : Snap = record { base = n; value = v } in
    subst (λ (ss : SnapList). IsPauseOf body.body.stmts ss pause) (sym h)
    (pauses_stay body.body.stmts snaps (insert_entry address_cmp snaps address snap) pause (read_next snaps address snap body.body needed).others is)
valued_pauses body n snaps address answer longer pause needed h is = absurd h

-- or a reply
pub valued_late : (more : SnapList → Program Reply) (n : ℕ) (snaps : SnapList) (address : Address) (answer : Answer) (longer : SnapList) (r : Reply)
    → Valued snaps address n answer (Ok (Some r)) longer → IsValued (valued more n snaps address answer) (Program.ends r) answer
valued_late more n snaps address (Answer.late m horizon) longer r h = record { succeeds = tt; is = ap (λ r. Program.ends r) (sym h) }
valued_late more n snaps address answer longer r h = absurd h

-- a value for which memory is wanting, or a failed call
pub valued_short : {S A : Type 0} {goes : S → Call → Answer → S → Type 0} {s t : S} {next : Answer → Program A} (n : ℕ) (snaps longer : SnapList)
    (address : Address) (answer : Answer) (e : SessionError) → goes s (Call.read_at address n) answer t → Valued snaps address n answer (Err e) longer
    → Stops goes s (Program.asks (Call.read_at address n) next) (e ≡ error.StoreFault) t
valued_short n snaps longer address answer e step leaves = stops_of (leaves_short (is_value answer) answer e (λ kept. refl) step leaves)

-- a number past what is seen is ahead
pub from_ahead : (body : Checked) (seen n : ℕ) → seen < n → look_from (Some n) body seen ≡ Program.ends (reply.Ahead n seen)
from_ahead body seen n ahead =
    let test : nat_lt seen n ≡ true = grind (arith, nat_tests) in ap (λ b. cond b (Program.ends (reply.Ahead n seen)) (look_at n body)) test

-- any other isn't
pub from_seen : (body : Checked) (seen n : ℕ) → n ≤ seen → look_from (Some n) body seen ≡ look_at n body
from_seen body seen n within =
    let test : nat_lt seen n ≡ false = grind (arith, nat_tests) in ap (λ b. cond b (Program.ends (reply.Ahead n seen)) (look_at n body)) test

-- nothing is there
pub none_else : (o : Option Reply) → ((r : Reply) → o ≡ Some r → ⊥) → o ≡ None
none_else None h = refl
none_else (Some r) h = absurd (h r refl)

-- ---- whether an attempt is open

-- none is, by the test
pub is_none : {A : Type 0} (o : Option A) → is_some o ≡ false → o ≡ None
is_none None h = refl
is_none (Some a) h = absurd (cc)

-- where one is open, a verb that needs that none is refused as busy
pub busy_is : (s : Session) (p : Program LineEnd) → is_some s.attempt ≡ true → unless_open s p ≡ says s (reply.Refused why.Busy)
busy_is s p h = by s.attempt h
  where
    by : (o : Option Attempt) → is_some o ≡ true → by_attempt o p (λ a. says s (reply.Refused why.Busy)) ≡ says s (reply.Refused why.Busy)
    by None h = absurd (cc)
    by (Some a) h = refl

-- where none is open it is done
pub free_is : (s : Session) (p : Program LineEnd) → s.attempt ≡ None → unless_open s p ≡ p
free_is s p none = ap (λ (o : Option Attempt). by_attempt o p (λ a. says s (reply.Refused why.Busy))) none

-- where none is open, a verb that needs one is refused
pub closed_is : (s : Session) (f : Attempt → Program LineEnd) → s.attempt ≡ None → if_open s f ≡ says s (reply.Refused why.NoAttempt)
closed_is s f none = ap (λ (o : Option Attempt). by_attempt o (says s (reply.Refused why.NoAttempt)) f) none

-- where one is open it is done with that
pub open_is : (s : Session) (f : Attempt → Program LineEnd) (a : Attempt) → s.attempt ≡ Some a → if_open s f ≡ f a
open_is s f a is = ap (λ (o : Option Attempt). by_attempt o (says s (reply.Refused why.NoAttempt)) f) is

-- ---- the session after an end

-- its seq and its attempt
pub ended_as : (s : Session) (o : Option Attempt) (q : ℕ) (r : Reply) → o ≡ None → q ≡ seq_after s.seq r → ended (closed s) r ≡ record s { seq = q; attempt = o }
ended_as s o q r none is = ap (λ (n : ℕ). record s { seq = n; attempt = None }) (sym is)
    ∙ ap (λ (x : Option Attempt). record s { seq = q; attempt = x }) (sym none)
