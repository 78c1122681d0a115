-- What a line's program says of what was done, where it has ended and where it has stopped short; and of the session behind it.
use Rattle.std.proofs.Common.{◌≡◌, Bool, true, false, List, [], Option, Some, None, Result, Ok, Err, refl, sym, ap, ◌∙◌, subst}
use Rattle.std.specs.Prelude.{IfOk}
use Rattle.std.proofs.lemmas.List.{append-nil}
use Rattle.dio_core.proofs.Told.{WhereTold-map}
use Rattle.session_text.specs.declared.reply.Reply.{Reply}
use Rattle.txn_lang.specs.Journals.{own}
use Rattle.journal_core.specs.declared.ready.Ready.{Ready}
use Rattle.docc_prepare.specs.Calls.{Known, Call, Answer}
use Rattle.docc_prepare.specs.Backends.{IsAnswered, Goes}
use Rattle.call_programs.specs.Programs.{Program, Leads}
use Rattle.call_programs.specs.Safe.{MayAsk, IsSafe}
use Rattle.call_programs.proofs.Programs.{along, known_leads}
use Rattle.session_core.specs.declared.error.SessionError.{SessionError}
use Rattle.session_core.specs.declared.line.Line.{Line}
use Rattle.session_core.specs.declared.session.Session.{Session}
use Rattle.session_core.specs.declared.turn.Turn.{Turn}
use Rattle.session_core.specs.Explained.{replies_in}
use Rattle.session_core.specs.Holding.{BodyIsReady, Attends, UnlessOver, Follows}
use Rattle.session_core.specs.LineLaws.{AnswersFor}
use Rattle.session_core.specs.LinePrograms.{line_over}
use Rattle.session_core.specs.Sessions.{IsAccounted}
use Rattle.session_core.specs.Stopping.{owes_reply, StopsShort, Does}
use Rattle.session_core.specs.Verbs.{LineEnd}
use Rattle.session_core.proofs.Done.{led_attends, led_explained}
use Rattle.session_core.proofs.LinesSafe.{lines_are_safe}
use Rattle.session_core.proofs.LinesTell.{lines_tell, lines_answer_for_themselves}
use Rattle.session_core.proofs.Safe.{AttendsEnd}
use Rattle.session_core.proofs.Said.{Says}
use Rattle.session_core.proofs.Telling.{HasSaid, nothing_said, said_on, Tells, LineSaid}

-- ---- where it has stopped short

-- over a backend it stops so by what is known of that
short_known : {B A : Type 0} {known : B → Known} {goes : B → Call → Answer → B → Type 0} {b c : B} {p : Program A} {X : Type 0}
    → StopsShort (Goes known goes) b p X c → StopsShort IsAnswered (known b) p X (known c)
short_known {known} (StopsShort.at_once same want) = StopsShort.at_once (ap known same) want
short_known {known} {goes} (StopsShort.before led want) = StopsShort.before (known_leads known goes led) want
short_known {known} {goes} (StopsShort.behind answer led step ok quiet want) =
    StopsShort.behind answer (known_leads known goes led) step.answered ok quiet want
short_known {known} {goes} (StopsShort.fails by_fault led step cause) = StopsShort.fails by_fault (known_leads known goes led) step.answered cause

-- an answer that owes no reply says nothing
quiet_says : (P : List Reply → Type 0) (call : Call) (answer : Answer) → owes_reply call answer ≡ false → Says P call answer → P []
quiet_says P (Call.append ready) answer quiet h = absurd (cc)
quiet_says P call answer quiet h = h

-- nor does one that has failed
failed_says : (P : List Reply → Type 0) (call : Call) (by_fault : Bool) → Says P call (Answer.failed by_fault) → P []
failed_says P (Call.append ready) by_fault h = h
failed_says P call by_fault h = h

module _ (k : Known) (p : Program LineEnd) (tells : Tells k k p (LineSaid k)) (safe : IsSafe k p AttendsEnd) where
  -- at each call nothing was said, and what is appended is the client's
  said_there : {m l : Known} {call : Call} {next : Answer → Program LineEnd} (answer : Answer) → Leads IsAnswered k p m (Program.asks call next)
      → IsAnswered m call answer l → Says (HasSaid k l) call answer
  said_there {m} {l} {call} answer led step =
      said_on k m l call answer (λ ready is. ap (λ (r : Ready). r.client) (subst (MayAsk m) is (along MayAsk ⊥ AttendsEnd led safe).0).made)
      (along (λ l call. HasSaid k l []) (Unit {0}) (LineSaid k) led tells).0 step

  -- so nothing was said where it has stopped short
  nothing_there : {X : Type 0} {l : Known} → StopsShort IsAnswered k p X l → HasSaid k l []
  nothing_there (StopsShort.at_once same want) = subst (λ l. HasSaid k l []) (sym same) (nothing_said k)
  nothing_there (StopsShort.before led want) = (along (λ l call. HasSaid k l []) (Unit {0}) (LineSaid k) led tells).0
  nothing_there {l} (StopsShort.behind {call} answer led step ok quiet want) = quiet_says (HasSaid k l) call answer quiet (said_there answer led step)
  nothing_there {l} (StopsShort.fails {call} by_fault led step cause) =
      failed_says (HasSaid k l) call by_fault (said_there (Answer.failed by_fault) led step)

-- ---- lines over a backend

module _ {B : Type 0} (known : B → Known) (goes : B → Call → Answer → B → Type 0) (b c : B) (s t : Session) (l : Line) (is : Attends (known b) s)
    (ready : BodyIsReady l) where
  -- the session attends where it is answered
  pub line_attends : (r : Result Turn SessionError) → Does known goes b (line_over (known b) s l) r (λ turn. (t, turn)) c
      → IfOk r (λ turn. Attends (known c) t)
  line_attends (Ok turn) led = led_attends (known b) (known c) s t l turn is ready (known_leads known goes led)
  line_attends (Err e) short = tt

  -- what it is answered is explained, and tells of all that was done; after an error nothing was
  pub line_accounted : (r : Result Turn SessionError) → Does known goes b (line_over (known b) s l) r (λ turn. (t, turn)) c
      → IsAccounted (known b) (known c) s l r t
  line_accounted (Ok turn) led =
      let way = known_leads known goes led in
      let done = along (λ m call. AnswersFor (known b) m []) (Unit {0}) (λ m (end : LineEnd). AnswersFor (known b) m (replies_in end.1)) way
      (lines_answer_for_themselves (known b) s l is) in record {
        explained = led_explained (known b) (known c) s t l turn is ready way;
        owns = done.owns;
        denied = done.denied;
        knows = done.knows;
      }
  line_accounted (Err e) short =
      let none = nothing_there (known b) (line_over (known b) s l) (lines_tell (known b) s l is) (lines_are_safe (known b) s l is ready)
      (short_known short) in record {
        explained = tt;
        owns = WhereTold-map (known b).journal (known c).journal (λ old new h. h.own_is ∙ append-nil (own (known b).client old)) none.own;
        denied = none.denied.denied;
        knows = none.known.up;
      }

-- ---- the session behind a line

-- after an error nothing is owed
pub none-attends : (r : Result Turn SessionError) (e : SessionError) (P : Type 0) → r ≡ Err e → IfOk r (λ turn. P)
none-attends r e P is = subst (λ x. IfOk x (λ turn. P)) (sym is) tt

-- a session that attends isn't over, so that it attends is all that the next line asks
pub follows-on : (k : Known) (s : Session) → Attends k s → Follows k s
follows-on k s is = subst (λ o. UnlessOver o (Attends k s)) (sym is.on) is

-- what is owed after a turn holds where the result is no error
pub where-ok : (r : Result Turn SessionError) (P : Type 0) → ((e : SessionError) → r ≡ Err e → ⊥) → IfOk r (λ turn. P) → P
where-ok (Ok turn) P none h = h
where-ok (Err e) P none h = absurd (none e refl)
