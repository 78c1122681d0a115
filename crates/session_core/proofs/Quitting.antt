-- Only `quit` ends a session.
use Rattle.std.proofs.Common.{◌≡◌, ℕ, ◌-◌, Bool, true, false, cond, nat_lt, List, [], ◌∷◌, Option, Some, None, Result, Ok, Err, refl, ap, subst}
use Rattle.session_text.specs.declared.reply.Reply.{Reply}
use Rattle.session_text.specs.declared.reply.Reply.TheVariants as reply
use Rattle.txn_lang.specs.declared.checked.Checked.{Checked}
use Rattle.docc_prepare.specs.declared.attempt.Attempt.{Attempt}
use Rattle.docc_prepare.specs.Calls.{Known, Call, Answer}
use Rattle.docc_prepare.specs.Calls.Answer.{number}
use Rattle.docc_prepare.specs.Backends.{Goes}
use Rattle.call_programs.specs.Programs.{Program, bind, Leads}
use Rattle.client_watches.specs.Lines as watches
use Rattle.session_core.specs.declared.error.SessionError.{SessionError}
use Rattle.session_core.specs.declared.line.Line.{Line}
use Rattle.session_core.specs.declared.line.Line.TheVariants as asked
use Rattle.session_core.specs.declared.moved.Moved.{Moved}
use Rattle.session_core.specs.declared.moved.Moved.TheVariants as moved
use Rattle.session_core.specs.declared.session.Session.{Session}
use Rattle.session_core.specs.declared.turn.Turn.{Turn}
use Rattle.session_core.specs.declared.turn.Turn.TheVariants as turn
use Rattle.session_core.specs.Events.{closed, opened}
use Rattle.session_core.specs.LinePrograms.{leaves, of_watches, sync, wait_for, line, line_over}
use Rattle.session_core.specs.Sessions.{HasQuit}
use Rattle.session_core.specs.Verbs.{LineEnd, AttemptEnd, says, refreshed, event, drive, try_times, by_attempt, opens, closing, stepped, look, Plays}

-- ---- programs that end no session

-- a turn behind which the session goes on
abbrev GoesOn : Turn → Type 0
GoesOn (turn.Ended replies) = ⊥
GoesOn t = Unit {0}

-- whatever the program is answered, it ends with such a turn
abbrev EndsNone : Program LineEnd → Type 0
EndsNone (Program.ends end) = GoesOn end.1
EndsNone (Program.asks call next) = (answer : Answer) → EndsNone (next answer)
EndsNone Program.stuck = Unit {0}

-- so it is where that is made of what another ends with
none_bind : {A : Type 0} (f : A → Program LineEnd) (p : Program A) → ((a : A) → EndsNone (f a)) → EndsNone (bind p f)
none_bind f (Program.ends a) each = each a
none_bind f (Program.asks call next) each = λ answer. none_bind f (next answer) each
none_bind f Program.stuck each = tt

-- behind a refresh
none_refreshed : (next : ℕ → Program LineEnd) → ((n : ℕ) → EndsNone (next n)) → (answer : Answer) → EndsNone (refreshed next answer)
none_refreshed next each (number n) = each n
none_refreshed next each answer = tt

-- by whether an attempt is open
none_by : (o : Option Attempt) (p : Program LineEnd) (f : Attempt → Program LineEnd) → EndsNone p → ((a : Attempt) → EndsNone (f a))
    → EndsNone (by_attempt o p f)
none_by None p f first second = first
none_by (Some a) p f first second = second a

-- along its way
none_along : {S : Type 0} {goes : S → Call → Answer → S → Type 0} {s t : S} {p q : Program LineEnd} → EndsNone p → Leads goes s p t q → EndsNone q
none_along none Leads.stays = none
none_along none (Leads.by_call answer step ok rest) = none_along (none answer) rest

-- ---- lines

-- any other line
abbrev IsOther : Line → Type 0
IsOther asked.Quit = ⊥
IsOther l = Unit {0}

-- a row a form of line
other_lines : (shards seen : ℕ) (s : Session) (l : Line) → IsOther l → EndsNone (line shards seen s l)
other_lines shards seen s asked.Quiet other = tt
other_lines shards seen s (asked.Refused reason) other = tt
other_lines shards seen s (asked.Begin body) other =
    none_by s.attempt (opens shards s body) _ (none_refreshed _ (λ n. tt)) (λ a. tt)
other_lines shards seen s (asked.Try tries body) other =
    none_by s.attempt _ _ (none_bind (closing s) (try_times (tries - 1) s (opened shards body)) (λ r. tt)) (λ a. tt)
other_lines shards seen s asked.Step other = none_by s.attempt _ _ tt (λ a. none_bind (stepped s) (event (closed s) a) shown)
  where
    shown : (m : Moved) → EndsNone (stepped s m)
    shown (moved.More a r) = tt
    shown (moved.End a r) = tt
other_lines shards seen s asked.Go other =
    none_by s.attempt _ _ tt (λ a. none_bind (λ (end : AttemptEnd). closing s end.1) (drive (closed s) a) (λ end. tt))
other_lines shards seen s asked.Drop other = none_by s.attempt _ _ tt (λ a. tt)
other_lines shards seen s (asked.Look body) other = none_bind (says s) (look None body) (λ r. tt)
other_lines shards seen s (asked.At n body) other = none_bind (says s) (look (Some n) body) (λ r. tt)
other_lines shards seen s (asked.Watch name body) other = none_bind (leaves s) (watches.watch s.watching name body) (λ told. tt)
other_lines shards seen s (asked.Unwatch name) other = none_bind (leaves s) (watches.unwatch s.watching name) (λ told. tt)
other_lines shards seen s asked.Sync other = none_bind (leaves s) (watches.sync s.watching) (λ told. tt)
other_lines shards seen s asked.Wait other = none_refreshed (wait_for s seen) (λ n. by (nat_lt seen n))
  where
    by : (b : Bool) → EndsNone (cond b (sync s) (Program.ends (s, turn.WaitWanted)))
    by true = none_bind (leaves s) (watches.sync s.watching) (λ told. tt)
    by false = tt
other_lines shards seen s asked.Seen other = tt
other_lines shards seen s asked.Quit other = absurd other

-- ---- its end

-- from an end nothing leads on
no_more : {S A : Type 0} {goes : S → Call → Answer → S → Type 0} {s t : S} {p q : Program A} {a : A} → p ≡ Program.ends a → Leads goes s p t q
    → (t ≡ s) × (q ≡ p)
no_more is Leads.stays = (refl, refl)
no_more is (Leads.by_call answer step ok rest) = absurd (cc)

-- by the line
pub quits : {B : Type 0} (known : B → Known) (goes : B → Call → Answer → B → Type 0) (b c : B) (s t : Session) (l : Line)
    (r : Result Turn SessionError) (replies : List Reply) → r ≡ Ok (turn.Ended replies)
    → Plays known goes b (line_over (known b) s l) r (λ turn. (t, turn)) c → HasQuit l replies b c s t
quits known goes b c s t l r replies is plays =
    by l (subst (λ r. Plays known goes b (line_over (known b) s l) r (λ turn. (t, turn)) c) is plays)
  where
    by : (l : Line) → Leads (Goes known goes) b (line_over (known b) s l) c (Program.ends (t, turn.Ended replies)) → HasQuit l replies b c s t
    by asked.Quit led =
        let over = no_more {a = (closed s, turn.Ended (reply.Dropped ∷ []))} refl led in
        let is : Program.ends (t, turn.Ended replies) ≡ Program.ends (closed s, turn.Ended (reply.Dropped ∷ [])) = over.1 in
        let same : (t, turn.Ended replies) ≡ (closed s, turn.Ended (reply.Dropped ∷ [])) = cc in
        let said : turn.Ended replies ≡ turn.Ended (reply.Dropped ∷ []) = ap (λ (end : LineEnd). end.1) same in record {
          line = refl;
          replies = cc;
          backend = over.0;
          session = ap (λ (end : LineEnd). end.0) same;
        }
    by l led = absurd (none_along (other_lines (known b).shards (known b).seen s l tt) led)
