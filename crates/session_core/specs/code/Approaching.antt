-- What functions do that bring an attempt up to its append, and what hands it to the journal.
use Rattle.std.specs.Prelude.{◌≡◌, ℕ, suc, Option, Some, None, Result, Ok, Err}
use Rattle.session_text.specs.declared.reply.Reply.{Reply}
use Rattle.txn_lang.specs.declared.run.Run.{Run}
use Rattle.journal_core.specs.declared.ready.Ready.{Ready}
use Rattle.docc_prepare.specs.declared.attempt.Attempt.{Attempt}
use Rattle.docc_prepare.specs.declared.attempt.Next.TheVariants as next
use Rattle.docc_prepare.specs.Attempts.{next_event, ready_of}
use Rattle.docc_prepare.specs.Calls.{Known, Call, Answer}
use Rattle.docc_prepare.specs.Backends.{Goes}
use Rattle.call_programs.specs.Programs.{Program, Leads}
use Rattle.session_core.specs.declared.approach.LastRun.{LastRun}
use Rattle.session_core.specs.declared.approach.Approach.{Approach}
use Rattle.session_core.specs.declared.approach.Approach.TheVariants as approach
use Rattle.session_core.specs.declared.error.SessionError.{SessionError}
use Rattle.session_core.specs.declared.error.SessionError.TheVariants as error
use Rattle.session_core.specs.declared.session.Session.{Session}
use Rattle.session_core.specs.Events.{closed}
use Rattle.session_core.specs.Holding.{Attends, Holds}
use Rattle.session_core.specs.Remembering.{AreAllOf}
use Rattle.session_core.specs.Stopping.{StopsShort, Does}
use Rattle.session_core.specs.Verbs.{AttemptEnd, event_on, drive_in, drive}

-- ---- the append

-- what is handed to the journal is made of an attempt whose append is next
pub record IsReadyOf (s : Session) (a : Attempt) (ready : Ready) : Type 0 where
  pub run : Run
  pub next : next_event a ≡ next.Append run
  pub is : ready ≡ ready_of a run s.client s.seq

-- a function does a program that ends with an attempt's end, and gives the reply alone
abbrev pub DoesLast : {B : Type 0} → (B → Known) → (B → Call → Answer → B → Type 0) → B → Program AttemptEnd → Result Reply SessionError → B → Type 0
DoesLast known goes old p r new = (last : Attempt) × Does known goes old p r (λ reply. (last, reply)) new

-- ---- up to it

-- no event, or one behind which the attempt goes on
pub data OneAtMost {B : Type 0} (known : B → Known) (goes : B → Call → Answer → B → Type 0) (s : Session) : B → Attempt → B → Attempt → Type 0 where
  none_yet : {b : B} {a : Attempt} → OneAtMost known goes s b a b a
  one : {b c : B} {a on : Attempt} → Leads (Goes known goes) b (event_on s a) c (Program.ends (on, None)) → OneAtMost known goes s b a c on

-- One event of an attempt, unless that is the append: it goes on, or has ended, or the append is next.
abbrev pub Nears : {B : Type 0} → (B → Known) → (B → Call → Answer → B → Type 0) → Session → B → Attempt → Result (Option Approach) SessionError → B
    → Attempt → Type 0
Nears known goes s b a (Ok None) c on = Leads (Goes known goes) b (event_on s a) c (Program.ends (on, None))
Nears known goes s b a (Ok (Some (approach.End r))) c on = Leads (Goes known goes) b (event_on s a) c (Program.ends (on, Some r))
Nears known goes s b a (Ok (Some (approach.Append last))) c on =
    OneAtMost known goes s b a c on × ((next_event on ≡ next.Append last.run) × AreAllOf on last.run last.based)
Nears known goes s b a (Err e) c on = StopsShort (Goes known goes) b (event_on s a) (e ≡ error.StoreFault) c

-- the append of a run is next, by which the attempt ends
pub record IsNext {B : Type 0} (known : B → Known) (goes : B → Call → Answer → B → Type 0) (s : Session) (b : B) (a : Attempt) (last : LastRun)
    (c : B) (on : Attempt) : Type 0 where
  pub left : ℕ
  pub led : Leads (Goes known goes) b (drive s a) c (drive_in (suc left) s on)
  pub attends : Attends (known c) (closed s)
  pub holds : Holds (known c) on
  pub next : next_event on ≡ next.Append last.run
  pub all : AreAllOf on last.run last.based

-- EVENTS UNTIL THE APPEND is next, or the attempt has ended
abbrev pub Approaches : {B : Type 0} → (B → Known) → (B → Call → Answer → B → Type 0) → Session → B → Attempt → Result Approach SessionError → B
    → Attempt → Type 0
Approaches known goes s b a (Ok (approach.End r)) c on = Leads (Goes known goes) b (drive s a) c (Program.ends (on, r))
Approaches known goes s b a (Ok (approach.Append last)) c on = IsNext known goes s b a last c on
Approaches known goes s b a (Err e) c on = StopsShort (Goes known goes) b (drive s a) (e ≡ error.StoreFault) c
