-- What a line has done that it says, along its program: commits of the client's, and denials of the disk. Each call is asked where
-- nothing is said yet, and a line ends with replies that say all.
use Rattle.std.proofs.Common.{◌≡◌, ℕ, zero, suc, ◌-◌, Bool, true, false, cond, nat_lt, inl, List, [], ◌∷◌, Option, Some, None, refl, sym, ap, ◌∙◌}
use Rattle.std.proofs.Common.{subst, arith}
use Rattle.std.specs.List.{AllByRecursion}
use Rattle.dio_core.specs.Told.{WhereTold}
use Rattle.dio_core.proofs.Told.{WhereTold-refl, WhereTold-map, WhereTold-then}
use Rattle.session_text.specs.declared.reply.Reply.{Reply}
use Rattle.session_text.specs.declared.reply.Reply.TheVariants as reply
use Rattle.session_text.specs.declared.reply.Why.TheVariants as why
use Rattle.txn_lang.specs.declared.checked.Checked.{Checked}
use Rattle.txn_lang.specs.Execution.{Ran, need, done, exec}
use Rattle.txn_eval.specs.Running.{values_of}
use Rattle.journal_core.specs.declared.ready.Ready.{Ready}
use Rattle.docc_prepare.specs.declared.attempt.Attempt.{Attempt}
use Rattle.docc_prepare.specs.declared.attempt.Next.{Next}
use Rattle.docc_prepare.specs.declared.attempt.Next.TheVariants as next
use Rattle.docc_prepare.specs.Attempts.{SnapList, next_event}
use Rattle.docc_prepare.specs.Calls.{Known, Call, Answer}
use Rattle.docc_prepare.specs.Calls.Call.{refresh, append, read_at}
use Rattle.docc_prepare.specs.Calls.Answer.{number, snap, prepared, value, late, clash, held, full, disk}
use Rattle.docc_prepare.specs.Backends.{IsAnswered, SaysOfJournal}
use Rattle.call_programs.specs.Programs.{Program, bind, Succeeds, Always}
use Rattle.call_programs.proofs.Programs.{always_bind}
use Rattle.session_core.specs.declared.moved.Moved.{Moved}
use Rattle.session_core.specs.declared.moved.Moved.TheVariants as moved
use Rattle.session_core.specs.declared.session.Session.{Session}
use Rattle.session_core.specs.Events.{with_attempt, closed, opened, afresh, event_call, moved_at}
use Rattle.session_core.specs.Explained.{replies_in}
use Rattle.session_core.specs.Verbs.{LineEnd, AttemptEnd, says, refreshed, refresh_then, moved_to, event, unshown, event_on, or_on, drive_in, events, drive}
use Rattle.session_core.specs.Verbs.{attempt_once, unless_abort, or_again, then_again, last_shown, try_times, by_attempt, unless_open, if_open, opens, begin}
use Rattle.session_core.specs.Verbs.{closing, tries_at, commit, stepped, steps, step, goes_on, go, give_up, valued, look_by, look_in, look_at, look_from, look}
use Rattle.session_core.proofs.Said.{is_plain, ArePlain, Says, HasOwn, own-nothing, own-plains, own-says, event-own, HasDenied, denied-plains, denied-says}
use Rattle.session_core.proofs.Said.{HasKnown, known-plains, known-says}

-- What was done since, of which these replies tell.
pub record HasSaid (k l : Known) (replies : List Reply) : Type 0 where
  pub client : l.client ≡ k.client
  pub own : WhereTold (λ old new. HasOwn k.client old new replies) k.journal l.journal
  pub denied : HasDenied k.denied l.denied replies
  pub known : HasKnown k.denials l.denials replies

-- nothing yet
pub nothing_said : (k : Known) → HasSaid k k []
nothing_said k = record {
  client = refl;
  own = WhereTold-refl (λ old new. HasOwn k.client old new []) k.journal (own-nothing k.client);
  denied = record { denied = refl; one = inl refl };
  known = record { known = omega arith; up = omega arith };
}

-- plain replies tell of nothing more
pub plain_said : (k l : Known) (replies : List Reply) → ArePlain replies → HasSaid k l [] → HasSaid k l replies
plain_said k l replies plain h = record {
  client = h.client;
  own = WhereTold-map k.journal l.journal (λ old new own. own-plains k.client old new replies plain own) h.own;
  denied = denied-plains k.denied l.denied replies plain h.denied;
  known = known-plains k.denials l.denials replies plain h.known;
}

-- and an abort of nothing
abort_unsaid : (k l : Known) (r : Reply) → unless_abort r ≡ None → HasSaid k l (r ∷ []) → HasSaid k l []
abort_unsaid k l (reply.Abort w) is h = record {
  client = h.client;
  own = WhereTold-map k.journal l.journal (λ old new own. record { grows = own.grows; own_is = own.own_is; there = tt; few = own.few }) h.own;
  denied = record { denied = h.denied.denied; one = h.denied.one };
  known = record { known = h.known.known; up = h.known.up };
}
abort_unsaid k l r is h = absurd (cc)

-- ---- one call

-- by what it says of commits and denials
said_by : (k l : Known) (call : Call) (answer : Answer) → l.client ≡ k.client
    → WhereTold (λ old new. Says (HasOwn k.client old new) call answer) k.journal l.journal → Says (HasDenied k.denied l.denied) call answer
    → Says (HasKnown k.denials l.denials) call answer → Says (HasSaid k l) call answer
said_by k l (append ready) (number n) same own denied known = λ outcome. record {
  client = same;
  own = WhereTold-map k.journal l.journal (λ old new h. h outcome) own;
  denied = denied outcome;
  known = known outcome;
}
said_by k l (append ready) disk same own denied known = record { client = same; own = own; denied = denied; known = known }
said_by k l call answer same own denied known = record { client = same; own = own; denied = denied; known = known }

-- where nothing was said before it
pub said_on : (k c l : Known) (call : Call) (answer : Answer) → ((ready : Ready) → call ≡ append ready → ready.client ≡ c.client) → HasSaid k c []
    → IsAnswered c call answer l → Says (HasSaid k l) call answer
said_on k c l call answer mine before step =
    said_by k l call answer (step.client.client ∙ before.client)
    (WhereTold-then {R = λ old new. HasOwn k.client old new []} {S = SaysOfJournal c l call answer}
    {T = λ old new. Says (HasOwn k.client old new) call answer} k.journal c.journal l.journal
    (λ old mid new own says. subst (λ (x : ℕ). Says (HasOwn x old new) call answer) before.client
    (own-says c l old mid new (subst (λ (x : ℕ). HasOwn x old mid []) (sym before.client) own) call answer mine says)) before.own step.told)
    (denied-says c l k.denied call answer before.denied.denied step)
    (known-says c l k.denials call answer before.known.known step)

-- a program that asks where nothing was said yet, and ends with what tells of all
abbrev pub Tells : {A : Type 0} → Known → Known → Program A → (Known → A → Type 0) → Type 0
Tells k c p holds = Always (λ l call. HasSaid k l []) IsAnswered (Unit {0}) c p holds

-- one behind another
pub then_tells : {A C : Type 0} (k : Known) (first : Known → A → Type 0) (holds : Known → C → Type 0) (f : A → Program C) (c : Known) (p : Program A)
    → Tells k c p first → ((l : Known) (a : A) → first l a → Tells k l (f a) holds) → Tells k c (bind p f) holds
then_tells k first holds f c p all more = always_bind (λ l call. HasSaid k l []) IsAnswered (Unit {0}) first holds f c p all more

-- a refresh says nothing
pub refresh_tells : {A : Type 0} (k c : Known) (next : ℕ → Program A) (holds : Known → A → Type 0) → HasSaid k c []
    → ((l : Known) (n : ℕ) → IsAnswered c refresh (number n) l → HasSaid k l [] → Tells k l (next n) holds) → Tells k c (refresh_then next) holds
refresh_tells {A} k c next holds before more = (before, λ answer l step ok. by answer l step)
  where
    by : (answer : Answer) (l : Known) → IsAnswered c refresh answer l → Tells k l (refreshed next answer) holds
    by (number n) l step = more l n step (said_on k c l refresh (number n) (λ ready is. absurd (cc)) before step)
    by answer l step = tt

-- ---- attempts

-- what an event says: one after which the attempt goes on is shown by a plain reply
abbrev MovedSaid : Known → Known → Moved → Type 0
MovedSaid k l (moved.More a r) = (is_plain r ≡ true) × HasSaid k l []
MovedSaid k l (moved.End a r) = HasSaid k l (r ∷ [])

-- by event and answer
event_tells : (k c : Known) (s : Session) (a : Attempt) → s.client ≡ k.client → HasSaid k c [] → Tells k c (event s a) (MovedSaid k)
event_tells k c s a mine before = (before, λ answer l step ok. by l (next_event a) answer step)
  where
    said : (l : Known) (e : Next) (answer : Answer) → IsAnswered c (event_call s a e) answer l → Says (HasSaid k l) (event_call s a e) answer
    said l e answer step =
        said_on k c l (event_call s a e) answer (λ ready is. event-own c s a e ready is (mine ∙ sym before.client)) before step

    by : (l : Known) (e : Next) (answer : Answer) → IsAnswered c (event_call s a e) answer l → Tells k l (moved_to (moved_at a e answer)) (MovedSaid k)
    by l (next.Read address) (snap v) step = (refl, said l (next.Read address) (snap v) step)
    by l (next.Prepare shard run) (prepared p) step = (refl, said l (next.Prepare shard run) (prepared p) step)
    by l (next.Prepare shard run) (late base horizon) step =
        plain_said k l (reply.Late base horizon ∷ []) (refl, tt) (said l (next.Prepare shard run) (late base horizon) step)
    by l (next.Prepare shard run) (clash w) step = plain_said k l (reply.Abort w ∷ []) (refl, tt) (said l (next.Prepare shard run) (clash w) step)
    by l (next.Append run) (number n) step = said l (next.Append run) (number n) step run.outcome
    by l (next.Append run) (clash w) step = plain_said k l (reply.Abort w ∷ []) (refl, tt) (said l (next.Append run) (clash w) step)
    by l (next.Append run) (held client at) step =
        plain_said k l (reply.Held client at ∷ []) (refl, tt) (said l (next.Append run) (held client at) step)
    by l (next.Append run) (full limit) step = plain_said k l (reply.Full limit ∷ []) (refl, tt) (said l (next.Append run) (full limit) step)
    by l (next.Append run) disk step = said l (next.Append run) disk step
    by l e answer step = tt

-- the same where it isn't shown
abbrev OnSaid : Known → Known → Option Reply → Type 0
OnSaid k l None = HasSaid k l []
OnSaid k l (Some r) = HasSaid k l (r ∷ [])

event_on_tells : (k c : Known) (s : Session) (a : Attempt) → s.client ≡ k.client → HasSaid k c []
    → Tells k c (event_on s a) (λ l (end : Attempt × Option Reply). OnSaid k l end.1)
event_on_tells k c s a mine before =
    then_tells k (MovedSaid k) (λ l (end : Attempt × Option Reply). OnSaid k l end.1) (λ m. Program.ends (unshown m)) c (event s a)
    (event_tells k c s a mine before) (λ l m h. by l m h)
  where
    by : (l : Known) (m : Moved) → MovedSaid k l m → OnSaid k l (unshown m).1
    by l (moved.More b r) h = h.1
    by l (moved.End b r) h = h

-- an end is said
abbrev EndSaid : Known → Known → AttemptEnd → Type 0
EndSaid k l end = HasSaid k l (end.1 ∷ [])

-- event by event
drive_tells : (fuel : ℕ) (k c : Known) (s : Session) (a : Attempt) → s.client ≡ k.client → HasSaid k c [] → Tells k c (drive_in fuel s a) (EndSaid k)
drive_tells zero k c s a mine before = tt
drive_tells (suc fuel) k c s a mine before =
    then_tells k (λ l (end : Attempt × Option Reply). OnSaid k l end.1) (EndSaid k) (or_on (drive_in fuel s)) c (event_on s a)
    (event_on_tells k c s a mine before) (λ l end h. by (λ l b h. drive_tells fuel k l s b mine h) l end.0 end.1 h)
  where
    by : ((l : Known) (b : Attempt) → HasSaid k l [] → Tells k l (drive_in fuel s b) (EndSaid k)) → (l : Known) (b : Attempt) (o : Option Reply)
        → OnSaid k l o → Tells k l (or_on (drive_in fuel s) (b, o)) (EndSaid k)
    by on l b None h = on l b h
    by on l b (Some r) h = h

-- one attempt
once_tells : (k c : Known) (s : Session) (a : Attempt) → s.client ≡ k.client → HasSaid k c [] → Tells k c (attempt_once s a) (EndSaid k)
once_tells k c s a mine before =
    refresh_tells k c (λ seen. drive s a) (EndSaid k) before (λ l n step h. drive_tells events k l s a mine h)

-- one behind another
tries_tells : (left : ℕ) (k c : Known) (s : Session) (a : Attempt) → s.client ≡ k.client → HasSaid k c []
    → Tells k c (try_times left s a) (λ l r. HasSaid k l (r ∷ []))
tries_tells zero k c s a mine before =
    then_tells k (EndSaid k) (λ l r. HasSaid k l (r ∷ [])) last_shown c (attempt_once s a) (once_tells k c s a mine before) (λ l end h. h)
tries_tells (suc left) k c s a mine before =
    then_tells k (EndSaid k) (λ l r. HasSaid k l (r ∷ [])) (then_again (try_times left s)) c (attempt_once s a) (once_tells k c s a mine before)
    (λ l end h. by (λ l b h. tries_tells left k l s b mine h) l end.0 end.1 (unless_abort end.1) refl h)
  where
    by : ((l : Known) (b : Attempt) → HasSaid k l [] → Tells k l (try_times left s b) (λ l r. HasSaid k l (r ∷ []))) → (l : Known) (b : Attempt)
        → (r : Reply) (o : Option Reply) → unless_abort r ≡ o → HasSaid k l (r ∷ [])
        → Tells k l (or_again (try_times left s) b o) (λ l r. HasSaid k l (r ∷ []))
    by on l b r None is h = on l (afresh b) (abort_unsaid k l r is h)
    by on l b r (Some shown) is h = subst (λ (r : Reply). HasSaid k l (r ∷ [])) (same r shown is) h
      where
        same : (r shown : Reply) → unless_abort r ≡ Some shown → r ≡ shown
        same (reply.Abort w) shown is = absurd (cc)
        same r shown is = cc

-- ---- verbs

-- the replies of a line's end tell of all
abbrev pub LineSaid : Known → Known → LineEnd → Type 0
LineSaid k l end = HasSaid k l (replies_in end.1)

-- what needs that no attempt is open
unless_tells : (k : Known) (s : Session) (p : Program LineEnd) → Tells k k p (LineSaid k) → Tells k k (unless_open s p) (LineSaid k)
unless_tells k s p tells = by s.attempt
  where
    by : (o : Option Attempt) → Tells k k (by_attempt o p (λ a. says s (reply.Refused why.Busy))) (LineSaid k)
    by None = tells
    by (Some a) = plain_said k k (reply.Refused why.Busy ∷ []) (refl, tt) (nothing_said k)

-- what needs one
if_tells : (k : Known) (s : Session) (f : Attempt → Program LineEnd) → ((a : Attempt) → Tells k k (f a) (LineSaid k)) → Tells k k (if_open s f) (LineSaid k)
if_tells k s f tells = by s.attempt
  where
    by : (o : Option Attempt) → Tells k k (by_attempt o (says s (reply.Refused why.NoAttempt)) f) (LineSaid k)
    by None = plain_said k k (reply.Refused why.NoAttempt ∷ []) (refl, tt) (nothing_said k)
    by (Some a) = tells a

pub begin_tells : (k : Known) (s : Session) (shards : ℕ) (body : Checked) → Tells k k (begin shards s body) (LineSaid k)
begin_tells k s shards body =
    unless_tells k s (opens shards s body)
    (refresh_tells k k (λ seen. says (with_attempt s (Some (opened shards body))) (reply.Seen seen)) (LineSaid k) (nothing_said k)
    (λ l n step h. plain_said k l (reply.Seen n ∷ []) (refl, tt) h))

pub commit_tells : (k : Known) (s : Session) (shards tries : ℕ) (body : Checked) → s.client ≡ k.client → Tells k k (commit shards tries s body) (LineSaid k)
commit_tells k s shards tries body mine =
    unless_tells k s (tries_at shards tries s body)
    (then_tells k (λ l r. HasSaid k l (r ∷ [])) (LineSaid k) (closing s) k (try_times (tries - 1) s (opened shards body))
    (tries_tells (tries - 1) k k s (opened shards body) mine (nothing_said k)) (λ l r h. h))

pub step_tells : (k : Known) (s : Session) → s.client ≡ k.client → Tells k k (step s) (LineSaid k)
step_tells k s mine =
    if_tells k s (steps s) (λ a. then_tells k (MovedSaid k) (LineSaid k) (stepped s) k (event (closed s) a)
    (event_tells k k (closed s) a mine (nothing_said k)) (λ l m h. by l m h))
  where
    by : (l : Known) (m : Moved) → MovedSaid k l m → Tells k l (stepped s m) (LineSaid k)
    by l (moved.More a r) h = plain_said k l (r ∷ []) (h.0, tt) h.1
    by l (moved.End a r) h = h

pub go_tells : (k : Known) (s : Session) → s.client ≡ k.client → Tells k k (go s) (LineSaid k)
go_tells k s mine =
    if_tells k s (goes_on s) (λ a. then_tells k (EndSaid k) (LineSaid k) (λ end. closing s end.1) k (drive (closed s) a)
    (drive_tells events k k (closed s) a mine (nothing_said k)) (λ l end h. h))

pub give_up_tells : (k : Known) (s : Session) → Tells k k (give_up s) (LineSaid k)
give_up_tells k s = if_tells k s (λ a. says (closed s) reply.Dropped) (λ a. plain_said k k (reply.Dropped ∷ []) (refl, tt) (nothing_said k))

-- ---- looks

-- a run reads alone
look_tells : (fuel n : ℕ) (k c : Known) (body : Checked) (snaps : SnapList) → HasSaid k c []
    → Tells k c (look_in fuel n body snaps) (λ l r. HasSaid k l (r ∷ []))
look_tells zero n k c body snaps before = tt
look_tells (suc fuel) n k c body snaps before = by (exec body.body (values_of snaps)) (λ l more h. look_tells fuel n k l body more h)
  where
    by : (r : Ran) → ((l : Known) (more : SnapList) → HasSaid k l [] → Tells k l (look_in fuel n body more) (λ l r. HasSaid k l (r ∷ [])))
        → Tells k c (look_by (look_in fuel n body) n snaps r) (λ l r. HasSaid k l (r ∷ []))
    by (need address) on = (before, λ answer l step ok. given answer l step)
      where
        given : (answer : Answer) (l : Known) → IsAnswered c (read_at address n) answer l
            → Tells k l (valued (look_in fuel n body) n snaps address answer) (λ l r. HasSaid k l (r ∷ []))
        given (value v) l step = on l _ (said_on k c l (read_at address n) (value v) (λ ready is. absurd (cc)) before step)
        given (late m horizon) l step = plain_said k l (reply.Late m horizon ∷ []) (refl, tt)
            (said_on k c l (read_at address n) (late m horizon) (λ ready is. absurd (cc)) before step)
        given answer l step = tt
    by (done run) on = plain_said k c (reply.At n run.outcome ∷ []) (refl, tt) before

-- from where it begins
from_tells : (k l : Known) (seen : ℕ) (upto : Option ℕ) (body : Checked) → HasSaid k l []
    → Tells k l (look_from upto body seen) (λ l r. HasSaid k l (r ∷ []))
from_tells k l seen None body h = look_tells events seen k l body [] h
from_tells k l seen (Some n) body h = by (nat_lt seen n)
  where
    by : (x : Bool) → Tells k l (cond x (Program.ends (reply.Ahead n seen)) (look_at n body)) (λ l r. HasSaid k l (r ∷ []))
    by true = plain_said k l (reply.Ahead n seen ∷ []) (refl, tt) h
    by false = look_tells events n k l body [] h

pub looks_tell : (k : Known) (s : Session) (upto : Option ℕ) (body : Checked) → Tells k k (bind (look upto body) (says s)) (LineSaid k)
looks_tell k s upto body =
    then_tells k (λ l r. HasSaid k l (r ∷ [])) (LineSaid k) (says s) k (look upto body)
    (refresh_tells k k (look_from upto body) (λ l r. HasSaid k l (r ∷ [])) (nothing_said k) (λ l n step h. from_tells k l n upto body h)) (λ l r h. h)
