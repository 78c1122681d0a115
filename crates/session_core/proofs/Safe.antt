-- Programs of lines are safe: part by part, by what a session keeps to.
use Rattle.std.proofs.Common.{◌≡◌, ℕ, zero, suc, ◌+◌, ◌-◌, ◌≤◌, ◌<◌, Bool, true, false, cond, nat_lt, [], Option, Some, None, refl, sym, ap, ◌∙◌, subst, arith}
use Rattle.std.specs.Prelude.{IfSome}
use Rattle.std.specs.BTreeMap.{insert_entry}
use Rattle.std.proofs.lemmas.Bool.Decides.{nat_tests}
use Rattle.rdt_types.specs.declared.address.Address.{Address}
use Rattle.rdt_types.specs.declared.limits.TheConstants.{MOST_SHARDS}
use Rattle.rdt_types.specs.Addresses.{address_cmp}
use Rattle.session_text.specs.declared.reply.Reply.{Reply}
use Rattle.session_text.specs.declared.reply.Reply.TheVariants as reply
use Rattle.session_text.specs.declared.reply.Why.TheVariants as why
use Rattle.txn_lang.specs.declared.checked.Checked.{Checked}
use Rattle.txn_lang.specs.declared.limits.TheConstants.{TICK_LIMIT}
use Rattle.txn_lang.specs.Execution.{Ran, need, done, exec}
use Rattle.txn_lang.proofs.Observed.{runs_ask_short}
use Rattle.txn_eval.specs.Running.{values_of}
use Rattle.docc_prepare.specs.declared.attempt.Attempt.{Attempt}
use Rattle.docc_prepare.specs.declared.attempt.Next.{Next}
use Rattle.docc_prepare.specs.declared.attempt.Next.TheVariants as next
use Rattle.docc_prepare.specs.Attempts.{SnapList, next_event, with_snap, with_front}
use Rattle.docc_prepare.specs.Calls.{Known, Call, Answer}
use Rattle.docc_prepare.specs.Calls.Answer.{number, snap, prepared, value, late, clash, full, disk}
use Rattle.docc_prepare.specs.Backends.{IsAnswered, Goes, Shows}
use Rattle.call_programs.specs.Programs.{Program, bind, Leads, Succeeds}
use Rattle.call_programs.specs.Safe.{MayAsk, IsSafe}
use Rattle.call_programs.proofs.Programs.{to_same, along, known_leads}
use Rattle.call_programs.proofs.Safe.{then_safe, safe_end}
use Rattle.session_core.specs.declared.limits.TheConstants.{MOST_EVENTS}
use Rattle.session_core.specs.declared.moved.Moved.{Moved}
use Rattle.session_core.specs.declared.moved.Moved.TheVariants as moved
use Rattle.session_core.specs.declared.session.Session.{Session}
use Rattle.session_core.specs.Events.{with_attempt, closed, ended, opened, afresh, event_call, call_of, moved_at, moved_by}
use Rattle.session_core.specs.Holding.{Attends, Holds, IsReady}
use Rattle.session_core.specs.Verbs.{LineEnd, AttemptEnd, says, refreshed, refresh_then, moved_to, event, unshown, event_on, or_on, drive_in, events, drive}
use Rattle.session_core.specs.Verbs.{attempt_once, unless_abort, or_again, then_again, last_shown, try_times, by_attempt, unless_open, if_open, opens, begin}
use Rattle.session_core.specs.Verbs.{closing, tries_at, commit, stepped, steps, step, goes_on, go, give_up, valued, look_by, look_in, look_at, look_from, look}
use Rattle.session_core.proofs.Attempts.{short-need}
use Rattle.session_core.proofs.Bounds.{HasSpent, none-spent, spent-few, spent-read, spent-front, HasRead, none-read, read-few, read-more}
use Rattle.session_core.proofs.Kept.{can-prepare, can-append, some-shards, holds-on, closed-on, opened-on, opened-holds}
use Rattle.session_core.proofs.Moving.{MovedHolds, held, plain-on, closes}

-- a refresh may always be asked, and is answered with how many commits are seen
pub refresh_safe : {A : Type 0} (k : Known) (next : ℕ → Program A) (holds : Known → A → Type 0)
    → ((l : Known) (n : ℕ) → IsAnswered k Call.refresh (number n) l → IsSafe l (next n) holds) → IsSafe k (refresh_then next) holds
refresh_safe {A} k next holds more = (tt, λ answer l step ok. by answer l step ok)
  where
    by : (answer : Answer) (l : Known) → IsAnswered k Call.refresh answer l → Succeeds answer → IsSafe l (refreshed next answer) holds
    by (number n) l step ok = more l n step
    by (Answer.failed f) l step ok = absurd ok
    by answer l step ok = absurd step.shows

-- a session that attends does so behind a refresh
pub refreshed_on : (k l : Known) (s : Session) (n : ℕ) → IsAnswered k Call.refresh (number n) l → Attends k s → Attends l s
refreshed_on k l s n step is =
    plain-on k l s Call.refresh (number n) step (λ old new own. own) step.keeps step.goes_on.subscribed step.goes_on.taken is

-- ---- one event

-- its call may be made
event_may : (k : Known) (s : Session) (a : Attempt) → Attends k (closed s) → Holds k a → (n : Next) → next_event a ≡ n → MayAsk k (event_call s a n)
event_may k s a is holds (next.Read address) e = short-need a address e
event_may k s a is holds (next.Prepare shard run) e = can-prepare k a shard run holds (some-shards a) e
event_may k s a is holds (next.Append run) e = can-append k (closed s) a run is holds e

-- every answer that is no failure makes something of the attempt
event_answers : (k l : Known) (s : Session) (a : Attempt) (n : Next) (answer : Answer) → Shows k l (event_call s a n) answer → Succeeds answer
    → moved_at a n answer ≡ None → ⊥
event_answers k l s a n (Answer.failed f) shows ok none = absurd ok
event_answers k l s a (next.Read address) (snap x) shows ok none = absurd (cc)
event_answers k l s a (next.Read address) answer shows ok none = absurd shows
event_answers k l s a (next.Prepare shard run) (prepared p) shows ok none = absurd (cc)
event_answers k l s a (next.Prepare shard run) (late base horizon) shows ok none = absurd (cc)
event_answers k l s a (next.Prepare shard run) (clash w) shows ok none = absurd (cc)
event_answers k l s a (next.Prepare shard run) answer shows ok none = absurd shows
event_answers k l s a (next.Append run) (number n) shows ok none = absurd (cc)
event_answers k l s a (next.Append run) (clash w) shows ok none = absurd (cc)
event_answers k l s a (next.Append run) (Answer.held client at) shows ok none = absurd (cc)
event_answers k l s a (next.Append run) (full limit) shows ok none = absurd (cc)
event_answers k l s a (next.Append run) disk shows ok none = absurd (cc)
event_answers k l s a (next.Append run) answer shows ok none = absurd shows

-- what was spent of an attempt that goes on
abbrev MovedSpent : ℕ → Moved → Type 0
MovedSpent calls (moved.More a r) = HasSpent a (calls + 1)
MovedSpent calls (moved.End a r) = Unit {0}

-- by event and answer
moved_spent : (calls : ℕ) (a : Attempt) (n : Next) (answer : Answer) (m : Moved) → next_event a ≡ n → HasSpent a calls → moved_at a n answer ≡ Some m
    → MovedSpent calls m
moved_spent calls a (next.Read address) (snap v) m e spent is =
    subst (MovedSpent calls) (let same : moved.More (with_snap a address v) (reply.Read address v.base) ≡ m = cc in same)
    (spent-read a calls address v e spent)
moved_spent calls a (next.Prepare shard run) (prepared p) m e spent is =
    subst (MovedSpent calls) (let same : moved.More (with_front a shard p.front) (reply.Prepared shard p.front) ≡ m = cc in same)
    (spent-front a calls shard p.front run e spent)
moved_spent calls a (next.Prepare shard run) (late base horizon) m e spent is =
    subst (MovedSpent calls) (let same : moved.End a (reply.Late base horizon) ≡ m = cc in same) tt
moved_spent calls a (next.Prepare shard run) (clash w) m e spent is =
    subst (MovedSpent calls) (let same : moved.End a (reply.Abort w) ≡ m = cc in same) tt
moved_spent calls a (next.Append run) (number n) m e spent is =
    subst (MovedSpent calls) (let same : moved.End a (reply.Commit n run.outcome) ≡ m = cc in same) tt
moved_spent calls a (next.Append run) (clash w) m e spent is =
    subst (MovedSpent calls) (let same : moved.End a (reply.Abort w) ≡ m = cc in same) tt
moved_spent calls a (next.Append run) (Answer.held client at) m e spent is =
    subst (MovedSpent calls) (let same : moved.End a (reply.Held client at) ≡ m = cc in same) tt
moved_spent calls a (next.Append run) (full limit) m e spent is =
    subst (MovedSpent calls) (let same : moved.End a (reply.Full limit) ≡ m = cc in same) tt
moved_spent calls a (next.Append run) disk m e spent is = subst (MovedSpent calls) (let same : moved.End a reply.Disk ≡ m = cc in same) tt
moved_spent calls a n answer m e spent is = absurd (cc)

-- what an event leaves, of an attempt that had spent so many calls
pub record IsMoved (s : Session) (calls : ℕ) (l : Known) (m : Moved) : Type 0 where
  pub holds : MovedHolds l s m
  pub spent : MovedSpent calls m

-- one event
event_safe : (k : Known) (s : Session) (a : Attempt) (calls : ℕ) → Attends k (closed s) → Holds k a → HasSpent a calls
    → IsSafe k (event s a) (IsMoved s calls)
event_safe k s a calls is holds spent =
    (event_may k s a is holds (next_event a) refl, λ answer l step ok. by answer l step ok (moved_by a answer) refl)
  where
    by : (answer : Answer) (l : Known) → IsAnswered k (call_of s a) answer l → Succeeds answer → (o : Option Moved) → moved_by a answer ≡ o
        → IsSafe l (moved_to o) (IsMoved s calls)
    by answer l step ok (Some m) e =
        record { holds = held k l s a is holds answer m step e; spent = moved_spent calls a (next_event a) answer m refl spent e }
    by answer l step ok None e = event_answers k l s a (next_event a) answer step.shows ok e

-- the same where it isn't shown
abbrev OnHolds : Session → ℕ → Known → Attempt → Option Reply → Type 0
OnHolds s calls l a None = (Attends l (closed s) × Holds l a) × HasSpent a (calls + 1)
OnHolds s calls l a (Some r) = Attends l (ended s r) × Holds l (afresh a)

event_on_safe : (k : Known) (s : Session) (a : Attempt) (calls : ℕ) → Attends k (closed s) → Holds k a → HasSpent a calls
    → IsSafe k (event_on s a) (λ l (end : Attempt × Option Reply). OnHolds s calls l end.0 end.1)
event_on_safe k s a calls is holds spent =
    then_safe (IsMoved s calls) (λ l (end : Attempt × Option Reply). OnHolds s calls l end.0 end.1) (λ m. Program.ends (unshown m)) k (event s a)
    (event_safe k s a calls is holds spent) (λ l m h. by l m h.holds h.spent)
  where
    by : (l : Known) (m : Moved) → MovedHolds l s m → MovedSpent calls m → OnHolds s calls l (unshown m).0 (unshown m).1
    by l (moved.More b r) on more = (on, more)
    by l (moved.End b r) on more = on

-- ---- events until the end

-- so many events are enough
all_events : (calls : ℕ) → calls ≡ events → calls ≤ TICK_LIMIT + MOST_SHARDS → ⊥
unfolding events
all_events calls e few = omega arith

-- what an end leaves
abbrev pub HasEnded : Session → Known → AttemptEnd → Type 0
HasEnded s l end = Attends l (ended s end.1) × Holds l (afresh end.0)

drive_safe : (fuel calls : ℕ) (k : Known) (s : Session) (a : Attempt) → fuel + calls ≡ events → HasSpent a calls → Attends k (closed s) → Holds k a
    → IsSafe k (drive_in fuel s a) (HasEnded s)
drive_safe zero calls k s a e spent is holds = absurd (all_events calls (omega arith) (spent-few a calls spent))
drive_safe (suc fuel) calls k s a e spent is holds =
    then_safe (λ l (end : Attempt × Option Reply). OnHolds s calls l end.0 end.1) (HasEnded s) (or_on (drive_in fuel s)) k (event_on s a)
    (event_on_safe k s a calls is holds spent)
    (λ l end h. by (λ l b spent is holds. drive_safe fuel (calls + 1) l s b (omega arith) spent is holds) l end.0 end.1 h)
  where
    by : ((l : Known) (b : Attempt) → HasSpent b (calls + 1) → Attends l (closed s) → Holds l b → IsSafe l (drive_in fuel s b) (HasEnded s))
        → (l : Known) (b : Attempt) (o : Option Reply) → OnHolds s calls l b o → IsSafe l (or_on (drive_in fuel s) (b, o)) (HasEnded s)
    by on l b None h = on l b h.1 h.0.0 h.0.1
    by on l b (Some r) h = h

-- an event that wasn't the last leaves the session and the attempt as they are to be
pub event_goes_on : {B : Type 0} {known : B → Known} {goes : B → Call → Answer → B → Type 0} {b c : B} {a on : Attempt} {o : Option Reply} (s : Session)
    → Attends (known b) (closed s) → Holds (known b) a → o ≡ None → Leads (Goes known goes) b (event_on s a) c (Program.ends (on, o))
    → Attends (known c) (closed s) × Holds (known c) on
event_goes_on {known} {b} {c} {a} {on} s is holds none led =
    (subst (OnHolds s 0 (known c) on) none (safe_end (λ l (end : Attempt × Option Reply). OnHolds s 0 l end.0 end.1)
    (event_on_safe (known b) s a 0 is holds (none-spent a)) led)).0

-- no event is left of so many
none_left : (i : ℕ) → MOST_EVENTS ≤ i → events - i ≡ 0
unfolding events
none_left i many = omega arith

-- so many events suffice
pub drives_enough : {B : Type 0} {known : B → Known} {goes : B → Call → Answer → B → Type 0} {b c : B} {a : Attempt} (s : Session) (on : Attempt) (i : ℕ)
    → MOST_EVENTS ≤ i → Attends (known b) (closed s) → Holds (known b) a → Leads (Goes known goes) b (drive s a) c (drive_in (events - i) s on) → ⊥
drives_enough {known} {goes} {b} {a} s on i many is holds led =
    along MayAsk ⊥ (HasEnded s) (known_leads known goes (to_same (ap (λ (n : ℕ). drive_in n s on) (none_left i many)) led))
    (drive_safe events 0 (known b) s a (omega arith) (none-spent a) is holds)

-- ---- attempts

-- one attempt
once_safe : (k : Known) (s : Session) (a : Attempt) → Attends k (closed s) → Holds k a → IsSafe k (attempt_once s a) (HasEnded s)
once_safe k s a is holds =
    refresh_safe k (λ seen. drive s a) (HasEnded s) (λ l n step. drive_safe events 0 l s a (omega arith) (none-spent a)
    (refreshed_on k l (closed s) n step is) (holds-on k l a Call.refresh (number n) step step.keeps holds))

-- behind an abort the session and the attempt that begins anew are as they are to be
pub once_goes_on : {B : Type 0} {known : B → Known} {goes : B → Call → Answer → B → Type 0} {b c : B} {a last : Attempt} {r : Reply} (s : Session)
    → Attends (known b) (closed s) → Holds (known b) a → unless_abort r ≡ None
    → Leads (Goes known goes) b (attempt_once s a) c (Program.ends (last, r)) → Attends (known c) (closed s) × Holds (known c) (afresh last)
once_goes_on {known} {b} {c} {a} {r} s is holds none led =
    let ended_so = safe_end (HasEnded s) (once_safe (known b) s a is holds) led in (by r none ended_so.0, ended_so.1)
  where
    by : (r : Reply) → unless_abort r ≡ None → Attends (known c) (ended s r) → Attends (known c) (closed s)
    by (reply.Abort w) none is = is
    by r none is = absurd (cc)

-- one behind another
tries_safe : (left : ℕ) (k : Known) (s : Session) (a : Attempt) → Attends k (closed s) → Holds k a
    → IsSafe k (try_times left s a) (λ l r. Attends l (ended s r))
tries_safe zero k s a is holds =
    then_safe (HasEnded s) (λ l r. Attends l (ended s r)) last_shown k (attempt_once s a) (once_safe k s a is holds) (λ l end h. h.0)
tries_safe (suc left) k s a is holds =
    then_safe (HasEnded s) (λ l r. Attends l (ended s r)) (then_again (try_times left s)) k (attempt_once s a) (once_safe k s a is holds)
    (λ l end h. by (λ l b is holds. tries_safe left l s b is holds) l end.0 end.1 h.0 h.1)
  where
    by : ((l : Known) (b : Attempt) → Attends l (closed s) → Holds l b → IsSafe l (try_times left s b) (λ l r. Attends l (ended s r)))
        → (l : Known) (b : Attempt) (r : Reply) → Attends l (ended s r) → Holds l (afresh b)
        → IsSafe l (or_again (try_times left s) b (unless_abort r)) (λ l r. Attends l (ended s r))
    by on l b (reply.Abort w) is holds = on l (afresh b) is holds
    by on l b r is holds = is

-- ---- the verbs

-- the session attends at a line's end
abbrev pub AttendsEnd : Known → LineEnd → Type 0
AttendsEnd l end = Attends l end.0

-- what needs that no attempt is open
unless_safe : (k : Known) (s : Session) (p : Program LineEnd) → Attends k s → IsSafe k p AttendsEnd → IsSafe k (unless_open s p) AttendsEnd
unless_safe k s p is safe = by s.attempt
  where
    by : (o : Option Attempt) → IsSafe k (by_attempt o p (λ a. says s (reply.Refused why.Busy))) AttendsEnd
    by None = safe
    by (Some a) = is

-- what needs one
if_safe : (k : Known) (s : Session) (f : Attempt → Program LineEnd) → Attends k s
    → ((a : Attempt) → Attends k (closed s) → Holds k a → IsSafe k (f a) AttendsEnd) → IsSafe k (if_open s f) AttendsEnd
if_safe k s f is safe = by s.attempt is.attempt
  where
    by : (o : Option Attempt) → IfSome o (Holds k) → IsSafe k (by_attempt o (says s (reply.Refused why.NoAttempt)) f) AttendsEnd
    by None h = is
    by (Some a) h = safe a (closes k s is) h

pub begin_safe : (k : Known) (s : Session) (body : Checked) → Attends k s → IsReady body → IsSafe k (begin k.shards s body) AttendsEnd
begin_safe k s body is ready =
    unless_safe k s (opens k.shards s body) is
    (refresh_safe k (λ seen. says (with_attempt s (Some (opened k.shards body))) (reply.Seen seen)) AttendsEnd
    (λ l n step. opened-on l s (opened k.shards body) (refreshed_on k l s n step is)
    (holds-on k l (opened k.shards body) Call.refresh (number n) step step.keeps (opened-holds k s body is ready))))

pub commit_safe : (k : Known) (s : Session) (tries : ℕ) (body : Checked) → Attends k s → IsReady body → IsSafe k (commit k.shards tries s body) AttendsEnd
commit_safe k s tries body is ready =
    unless_safe k s (tries_at k.shards tries s body) is
    (then_safe (λ l r. Attends l (ended s r)) AttendsEnd (closing s) k (try_times (tries - 1) s (opened k.shards body))
    (tries_safe (tries - 1) k s (opened k.shards body) (closes k s is) (opened-holds k s body is ready)) (λ l r h. h))

pub step_safe : (k : Known) (s : Session) → Attends k s → IsSafe k (step s) AttendsEnd
step_safe k s is = if_safe k s (steps s) is
    (λ a is holds. then_safe (IsMoved (closed s) 0) AttendsEnd (stepped s) k (event (closed s) a) (event_safe k (closed s) a 0 is holds (none-spent a))
    (λ l m h. by l m h.holds))
  where
    by : (l : Known) (m : Moved) → MovedHolds l (closed s) m → IsSafe l (stepped s m) AttendsEnd
    by l (moved.More a r) h = opened-on l (closed s) a h.0 h.1
    by l (moved.End a r) h = h.0

pub go_safe : (k : Known) (s : Session) → Attends k s → IsSafe k (go s) AttendsEnd
go_safe k s is = if_safe k s (goes_on s) is
    (λ a is holds. then_safe (HasEnded (closed s)) AttendsEnd (λ end. closing s end.1) k (drive (closed s) a)
    (drive_safe events 0 k (closed s) a (omega arith) (none-spent a) is holds) (λ l end h. h.0))

pub give_up_safe : (k : Known) (s : Session) → Attends k s → IsSafe k (give_up s) AttendsEnd
give_up_safe k s is = if_safe k s (λ a. says (closed s) reply.Dropped) is (λ a is holds. is)

-- ---- looks

-- so many rounds are enough
all_rounds : (reads : ℕ) → reads ≡ events → reads ≤ TICK_LIMIT → ⊥
unfolding events
all_rounds reads e few = omega arith

-- the session attends, and so many commits are seen
look_safe : (fuel reads n : ℕ) (k : Known) (s : Session) (body : Checked) (snaps : SnapList) → fuel + reads ≡ events → HasRead body.body snaps reads
    → n ≤ k.seen → Attends k s → IsSafe k (look_in fuel n body snaps) (λ l r. Attends l s)
look_safe zero reads n k s body snaps e read within is = absurd (all_rounds reads (omega arith) (read-few body.body snaps reads read))
look_safe (suc fuel) reads n k s body snaps e read within is =
    by (exec body.body (values_of snaps)) refl (λ l more. look_safe fuel (suc reads) n l s body more (omega arith))
  where
    by : (r : Ran) → exec body.body (values_of snaps) ≡ r
        → ((l : Known) (more : SnapList) → HasRead body.body more (suc reads) → n ≤ l.seen → Attends l s
        → IsSafe l (look_in fuel n body more) (λ l r. Attends l s))
        → IsSafe k (look_by (look_in fuel n body) n snaps r) (λ l r. Attends l s)
    by (need address) ran on =
        ((runs_ask_short.needed body.body (values_of snaps) address ran, within), λ answer l step ok. given answer l step ok)
      where
        given : (answer : Answer) (l : Known) → IsAnswered k (Call.read_at address n) answer l → Succeeds answer
            → IsSafe l (valued (look_in fuel n body) n snaps address answer) (λ l r. Attends l s)
        given (value v) l step ok = on l (insert_entry address_cmp snaps address (record { base = n; value = v }))
            (read-more body.body snaps reads address (record { base = n; value = v }) ran read) (let up = step.goes_on.seen in omega arith)
            (plain-on k l s (Call.read_at address n) (value v) step (λ old new own. own) step.keeps step.goes_on.subscribed step.goes_on.taken is)
        given (late m horizon) l step ok =
            plain-on k l s (Call.read_at address n) (late m horizon) step (λ old new own. own) step.keeps step.goes_on.subscribed step.goes_on.taken is
        given (Answer.failed f) l step ok = absurd ok
        given answer l step ok = absurd step.shows
    by (done run) ran on = is

-- from where it begins
from_safe : (l : Known) (s : Session) (seen : ℕ) (upto : Option ℕ) (body : Checked) → seen ≡ l.seen → Attends l s
    → IsSafe l (look_from upto body seen) (λ l r. Attends l s)
from_safe l s seen None body e is = look_safe events 0 seen l s body [] (omega arith) (none-read body.body []) (omega arith) is
from_safe l s seen (Some n) body e is = by (nat_lt seen n) refl
  where
    by : (x : Bool) → nat_lt seen n ≡ x → IsSafe l (cond x (Program.ends (reply.Ahead n seen)) (look_at n body)) (λ l r. Attends l s)
    by true h = is
    by false h = let within : n ≤ seen = grind (arith, nat_tests) in
        look_safe events 0 n l s body [] (omega arith) (none-read body.body []) (omega arith) is

-- so many rounds suffice
pub looks_enough : {B : Type 0} {known : B → Known} {goes : B → Call → Answer → B → Type 0} {b c : B} {n : ℕ} (s : Session)
    (body : Checked) (snaps : SnapList) (i : ℕ) → MOST_EVENTS ≤ i → Attends (known b) s → n ≤ (known b).seen
    → Leads (Goes known goes) b (look_at n body) c (look_in (events - i) n body snaps) → ⊥
looks_enough {known} {goes} {b} {n} s body snaps i many is within led =
    along MayAsk ⊥ (λ l r. Attends l s) (known_leads known goes (to_same (ap (λ (m : ℕ). look_in m n body snaps) (none_left i many)) led))
    (look_safe events 0 n (known b) s body [] (omega arith) (none-read body.body []) within is)

pub looks_safe : (k : Known) (s : Session) (upto : Option ℕ) (body : Checked) → Attends k s → IsSafe k (bind (look upto body) (says s)) AttendsEnd
looks_safe k s upto body is =
    then_safe (λ l r. Attends l s) AttendsEnd (says s) k (look upto body)
    (refresh_safe k (look_from upto body) (λ l r. Attends l s)
    (λ l n step. from_safe l s n upto body step.shows (refreshed_on k l s n step is))) (λ l r h. h)
