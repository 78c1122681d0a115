-- Programs of lines ask few calls: each read is given to the run that needs it, and each shard is prepared once.
use Rattle.std.proofs.Common.{◌≡◌, ℕ, zero, suc, ◌+◌, ◌-◌, ◌≤◌, ◌<◌, Bool, true, false, cond, nat_lt, [], Option, Some, None, refl, sym, subst, arith}
use Rattle.std.specs.BTreeMap.{insert_entry}
use Rattle.rdt_types.specs.declared.address.Address.{Address}
use Rattle.rdt_types.specs.Addresses.{address_cmp}
use Rattle.session_text.specs.declared.reply.Reply.{Reply}
use Rattle.session_text.specs.declared.reply.Reply.TheVariants as reply
use Rattle.session_text.specs.declared.reply.Why.TheVariants as why
use Rattle.txn_lang.specs.declared.checked.Checked.{Checked}
use Rattle.txn_lang.specs.declared.limits.TheConstants.{TICK_LIMIT}
use Rattle.txn_lang.specs.Execution.{Ran, need, done, exec}
use Rattle.txn_eval.specs.Running.{values_of}
use Rattle.docc_prepare.specs.declared.attempt.Attempt.{Attempt}
use Rattle.docc_prepare.specs.declared.attempt.Next.{Next}
use Rattle.docc_prepare.specs.declared.attempt.Next.TheVariants as next
use Rattle.docc_prepare.specs.Attempts.{SnapList, next_event}
use Rattle.docc_prepare.specs.Calls.{Call, Answer}
use Rattle.docc_prepare.specs.Calls.Answer.{number, snap, prepared, value, late, clash, held, full, disk}
use Rattle.call_programs.specs.Programs.{Program, bind}
use Rattle.call_programs.specs.Safe.{CanSpend, Spends, IsWithin}
use Rattle.call_programs.proofs.Safe.{then_within}
use Rattle.session_core.specs.declared.moved.Moved.{Moved}
use Rattle.session_core.specs.declared.moved.Moved.TheVariants as moved
use Rattle.session_core.specs.declared.session.Session.{Session}
use Rattle.session_core.specs.Bounds.{attempt_calls, calls_of_attempts}
use Rattle.session_core.specs.Events.{with_attempt, opened, afresh, moved_at, closed}
use Rattle.session_core.specs.Verbs.{LineEnd, AttemptEnd, says, refreshed, refresh_then, moved_to, event, unshown, event_on, or_on, drive_in, events, drive}
use Rattle.session_core.specs.Verbs.{attempt_once, unless_abort, or_again, then_again, last_shown, try_times, by_attempt, unless_open, if_open, opens, begin}
use Rattle.session_core.specs.Verbs.{closing, tries_at, commit, stepped, steps, step, goes_on, go, give_up, valued, look_by, look_in, look_at, look_from, look}
use Rattle.session_core.proofs.Bounds.{HasSpent, none-spent, spent-few, spent-read, spent-front, HasRead, none-read, read-more, read-fewer}

-- whatever is left
abbrev pub Any : {A : Type 0} → ℕ → A → Type 0
Any left a = Unit {0}

-- a refresh, and what follows it with one call less
pub refresh_within : {A : Type 0} (n : ℕ) (next : ℕ → Program A) (holds : ℕ → A → Type 0) → 0 < n
    → ((m seen : ℕ) → n ≡ suc m → IsWithin m (next seen) holds) → IsWithin n (refresh_then next) holds
refresh_within {A} n next holds some more = (some, λ answer m e ok. by answer m e)
  where
    by : (answer : Answer) (m : ℕ) → n ≡ suc m → IsWithin m (refreshed next answer) holds
    by (number seen) m e = more m seen e
    by answer m e = tt

-- ---- attempts

-- what an event has spent of an attempt that goes on
abbrev SpentBy : ℕ → Moved → Type 0
SpentBy calls (moved.More a r) = HasSpent a (calls + 1)
SpentBy calls (moved.End a r) = Unit {0}

-- one event
event_within : (n calls : ℕ) (s : Session) (a : Attempt) → 0 < n → HasSpent a calls
    → IsWithin n (event s a) (λ m (moved : Moved). (n ≡ suc m) × SpentBy calls moved)
event_within n calls s a some spent = (some, λ answer m e ok. by m e (next_event a) refl answer)
  where
    by : (m : ℕ) → n ≡ suc m → (event : Next) → next_event a ≡ event → (answer : Answer)
        → IsWithin m (moved_to (moved_at a event answer)) (λ m (moved : Moved). (n ≡ suc m) × SpentBy calls moved)
    by m e (next.Read address) is (snap v) = (e, spent-read a calls address v is spent)
    by m e (next.Prepare shard run) is (prepared p) = (e, spent-front a calls shard p.front run is spent)
    by m e (next.Prepare shard run) is (late base horizon) = (e, tt)
    by m e (next.Prepare shard run) is (clash w) = (e, tt)
    by m e (next.Append run) is (number k) = (e, tt)
    by m e (next.Append run) is (clash w) = (e, tt)
    by m e (next.Append run) is (held client at) = (e, tt)
    by m e (next.Append run) is (full limit) = (e, tt)
    by m e (next.Append run) is disk = (e, tt)
    by m e event is answer = tt

-- the same where it isn't shown
abbrev SpentOn : ℕ → Attempt × Option Reply → Type 0
SpentOn calls (a, None) = HasSpent a (calls + 1)
SpentOn calls (a, Some r) = Unit {0}

event_on_within : (n calls : ℕ) (s : Session) (a : Attempt) → 0 < n → HasSpent a calls
    → IsWithin n (event_on s a) (λ m (end : Attempt × Option Reply). (n ≡ suc m) × SpentOn calls end)
event_on_within n calls s a some spent =
    then_within (λ m (moved : Moved). (n ≡ suc m) × SpentBy calls moved) (λ m (end : Attempt × Option Reply). (n ≡ suc m) × SpentOn calls end)
    (λ m. Program.ends (unshown m)) n (event s a) (event_within n calls s a some spent) (λ m moved is. by m moved is.0 is.1)
  where
    by : (m : ℕ) (moved : Moved) → n ≡ suc m → SpentBy calls moved → (n ≡ suc m) × SpentOn calls (unshown moved)
    by m (moved.More b r) e on = (e, on)
    by m (moved.End b r) e on = (e, tt)

-- events until the end, of an attempt that has spent so many calls
drive_within : (fuel n extra calls : ℕ) (s : Session) (a : Attempt) → HasSpent a calls → attempt_calls + extra ≤ n + calls
    → IsWithin n (drive_in fuel s a) (λ m (end : AttemptEnd). extra ≤ m)
drive_within zero n extra calls s a spent h = tt
drive_within (suc fuel) n extra calls s a spent h =
    let few = spent-few a calls spent in
    then_within (λ m (end : Attempt × Option Reply). (n ≡ suc m) × SpentOn calls end) (λ m (end : AttemptEnd). extra ≤ m) (or_on (drive_in fuel s)) n
    (event_on s a) (event_on_within n calls s a (omega arith) spent)
    (λ m end is. by (λ m b. drive_within fuel m extra (calls + 1) s b) m end.0 end.1 is.0 is.1)
  where
    by : ((m : ℕ) (b : Attempt) → HasSpent b (calls + 1) → attempt_calls + extra ≤ m + (calls + 1)
        → IsWithin m (drive_in fuel s b) (λ m (end : AttemptEnd). extra ≤ m))
        → (m : ℕ) (b : Attempt) (o : Option Reply) → n ≡ suc m → SpentOn calls (b, o)
        → IsWithin m (or_on (drive_in fuel s) (b, o)) (λ m (end : AttemptEnd). extra ≤ m)
    by on m b None e more = on m b more (omega arith)
    by on m b (Some r) e more = let few = spent-few a calls spent in omega arith

-- one attempt
once_within : (n extra : ℕ) (s : Session) (a : Attempt) → attempt_calls + 1 + extra ≤ n → IsWithin n (attempt_once s a) (λ m (end : AttemptEnd). extra ≤ m)
once_within n extra s a h =
    refresh_within n (λ seen. drive s a) (λ m (end : AttemptEnd). extra ≤ m) (omega arith)
    (λ m seen e. drive_within events m extra 0 s a (none-spent a) (omega arith))

-- attempts, one behind another
tries_within : (left n : ℕ) (s : Session) (a : Attempt) → calls_of_attempts (left + 1) ≤ n → IsWithin n (try_times left s a) Any
tries_within zero n s a h =
    then_within (λ m (end : AttemptEnd). 0 ≤ m) Any last_shown n (attempt_once s a) (once_within n 0 s a (omega arith)) (λ m end is. tt)
tries_within (suc left) n s a h =
    then_within (λ m (end : AttemptEnd). calls_of_attempts (left + 1) ≤ m) Any (then_again (try_times left s)) n (attempt_once s a)
    (once_within n (calls_of_attempts (left + 1)) s a (omega arith))
    (λ m end is. by m (λ b h. tries_within left m s b h) end.0 (unless_abort end.1) is)
  where
    by : (m : ℕ) → ((b : Attempt) → calls_of_attempts (left + 1) ≤ m → IsWithin m (try_times left s b) Any) → (b : Attempt) (o : Option Reply)
        → calls_of_attempts (left + 1) ≤ m → IsWithin m (or_again (try_times left s) b o) Any
    by m on b None h = on (afresh b) h
    by m on b (Some r) h = tt

-- ---- looks

-- a run that has read so many values
look_within : (fuel n k reads : ℕ) (body : Checked) (snaps : SnapList) → HasRead body.body snaps reads → TICK_LIMIT ≤ n + reads
    → IsWithin n (look_in fuel k body snaps) Any
look_within zero n k reads body snaps read h = tt
look_within (suc fuel) n k reads body snaps read h = by (exec body.body (values_of snaps)) refl (λ m more. look_within fuel m k (suc reads) body more)
  where
    by : (r : Ran) → exec body.body (values_of snaps) ≡ r
        → ((m : ℕ) (more : SnapList) → HasRead body.body more (suc reads) → TICK_LIMIT ≤ m + suc reads → IsWithin m (look_in fuel k body more) Any)
        → IsWithin n (look_by (look_in fuel k body) k snaps r) Any
    by (need address) e on = let few = read-fewer body.body snaps reads address e read in (omega arith, λ answer m is ok. given answer m is)
      where
        given : (answer : Answer) (m : ℕ) → n ≡ suc m → IsWithin m (valued (look_in fuel k body) k snaps address answer) Any
        given (value v) m is = on m (insert_entry address_cmp snaps address (record { base = k; value = v }))
            (read-more body.body snaps reads address (record { base = k; value = v }) e read) (omega arith)
        given answer m is = tt
    by (done run) e on = tt

-- from where it begins
from_within : (m seen : ℕ) (upto : Option ℕ) (body : Checked) → TICK_LIMIT ≤ m → IsWithin m (look_from upto body seen) Any
from_within m seen None body h = look_within events m seen 0 body [] (none-read body.body []) (omega arith)
from_within m seen (Some k) body h = by (nat_lt seen k)
  where
    by : (x : Bool) → IsWithin m (cond x (Program.ends (reply.Ahead k seen)) (look_at k body)) Any
    by true = tt
    by false = look_within events m k 0 body [] (none-read body.body []) (omega arith)

-- behind a refresh
pub looks_within : (n : ℕ) (s : Session) (upto : Option ℕ) (body : Checked) → TICK_LIMIT + 1 ≤ n → IsWithin n (bind (look upto body) (says s)) Any
looks_within n s upto body h =
    then_within Any Any (says s) n (look upto body)
    (refresh_within n (look_from upto body) Any (omega arith) (λ m seen e. from_within m seen upto body (omega arith))) (λ m r is. tt)

-- ---- verbs

-- what needs that no attempt is open
unless_within : (n : ℕ) (s : Session) (p : Program LineEnd) → IsWithin n p Any → IsWithin n (unless_open s p) Any
unless_within n s p is = by s.attempt
  where
    by : (o : Option Attempt) → IsWithin n (by_attempt o p (λ a. says s (reply.Refused why.Busy))) Any
    by None = is
    by (Some a) = tt

-- what needs one
if_within : (n : ℕ) (s : Session) (f : Attempt → Program LineEnd) → ((a : Attempt) → IsWithin n (f a) Any) → IsWithin n (if_open s f) Any
if_within n s f is = by s.attempt
  where
    by : (o : Option Attempt) → IsWithin n (by_attempt o (says s (reply.Refused why.NoAttempt)) f) Any
    by None = tt
    by (Some a) = is a

pub begin_within : (shards : ℕ) (s : Session) (body : Checked) → IsWithin 1 (begin shards s body) Any
begin_within shards s body =
    unless_within 1 s (opens shards s body) (refresh_within 1 (λ seen. says (with_attempt s (Some (opened shards body))) (reply.Seen seen)) Any (omega arith)
    (λ m seen e. tt))

pub commit_within : (n shards tries : ℕ) (s : Session) (body : Checked) → calls_of_attempts (tries - 1 + 1) ≤ n → IsWithin n (commit shards tries s body) Any
commit_within n shards tries s body h =
    unless_within n s (tries_at shards tries s body) (then_within Any Any (closing s) n (try_times (tries - 1) s (opened shards body))
    (tries_within (tries - 1) n s (opened shards body) h) (λ m r is. tt))

pub step_within : (s : Session) → IsWithin 1 (step s) Any
step_within s =
    if_within 1 s (steps s) (λ a. then_within (λ m (moved : Moved). (1 ≡ suc m) × SpentBy 0 moved) Any (stepped s) 1 (event (closed s) a)
    (event_within 1 0 (closed s) a (omega arith) (none-spent a)) (λ m moved is. by m moved))
  where
    by : (m : ℕ) (moved : Moved) → IsWithin m (stepped s moved) Any
    by m (moved.More a r) = tt
    by m (moved.End a r) = tt

pub go_within : (s : Session) → IsWithin attempt_calls (go s) Any
go_within s =
    if_within attempt_calls s (goes_on s) (λ a. then_within (λ m (end : AttemptEnd). 0 ≤ m) Any (λ end. closing s end.1) attempt_calls (drive (closed s) a)
    (drive_within events attempt_calls 0 0 (closed s) a (none-spent a) (omega arith)) (λ m end is. tt))

pub give_up_within : (n : ℕ) (s : Session) → IsWithin n (give_up s) Any
give_up_within n s = if_within n s (λ a. says (closed s) reply.Dropped) (λ a. tt)
