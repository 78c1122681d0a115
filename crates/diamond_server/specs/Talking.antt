-- What a session over a link does with the lines that it reads, and what it answers them.
use Rattle.std.specs.Prelude.{◌≡◌, ◌≤◌, Bool, true, false, T, List, [], ◌∷◌, ◌++◌, length, Option, Some, None, codes, refl}
use Rattle.std.proofs.Common.{subst}
use Rattle.dio_core.specs.declared.line.TheConstants.{NEWLINE, LONGEST_LINE}
use Rattle.dio_core.specs.declared.line.Line.{Line}
use Rattle.dio_core.specs.declared.line.Line.TheVariants as line
use Rattle.session_text.specs.declared.reply.Reply.{Reply}
use Rattle.session_text.specs.declared.reply.Reply.TheVariants as reply
use Rattle.session_text.specs.declared.reply.Why.TheVariants as why
use Rattle.session_text.specs.Printing.{printed_reply}
use Rattle.txn_grammar.specs.Characters.{Text}
use Rattle.docc_prepare.specs.Calls.{Known, Call, Answer}
use Rattle.docc_prepare.specs.Backends.{Goes}
use Rattle.call_programs.specs.Programs.{Program, Leads, Succeeds, ask_length}
use Rattle.client_watches.specs.Watching.{none_yet}
use Rattle.session_core.specs.declared.session.Session.{Session}
use Rattle.session_core.specs.declared.turn.Turn.{Turn}
use Rattle.session_core.specs.declared.turn.Turn.TheVariants as turn
use Rattle.session_core.specs.LinePrograms.{line_over, sync}
use Rattle.session_core.specs.Lines.{line_of}
use Rattle.script_runner.specs.Play.{left}

-- ---- texts

-- a reply line: the reply's one printed form, and a newline
abbrev pub reply_line : Reply → Text
reply_line r = printed_reply r ++ NEWLINE ∷ []

-- replies in their order
abbrev pub reply_lines : List Reply → Text
reply_lines [] = []
reply_lines (r ∷ rest) = reply_line r ++ reply_lines rest

-- The text of a turn. (One that is to wait has none yet: its client is woken first.)
abbrev pub turn_text : Turn → Text
turn_text turn.Quiet = []
turn_text (turn.Replies replies) = reply_lines replies
turn_text turn.WaitWanted = []
turn_text (turn.Ended replies) = reply_lines replies

-- ---- what is told

-- WHAT IS TOLD OF A LINE.
pub data Told : Type 0 where
  -- it is too long, and is refused
  long : Told
  -- the session was asked for this, and answered this
  answered : Text → Turn → Told

-- the bytes that answer it
abbrev pub printed : Told → Text
printed Told.long = reply_line (reply.Refused why.Long)
printed (Told.answered text said) = turn_text said

-- those of all, in their order
abbrev pub output : List Told → Text
output [] = []
output (told ∷ rest) = printed told ++ output rest

-- the line of which it is told
abbrev pub line_told : Told → Line
line_told Told.long = line.TooLong
line_told (Told.answered text said) = line.Bytes text

-- the lines that a session was asked for, and their answers
abbrev pub texts_of : List Told → List Text
texts_of [] = []
texts_of (Told.long ∷ rest) = texts_of rest
texts_of (Told.answered text said ∷ rest) = text ∷ texts_of rest

-- the turns of the session: a line that is too long is none
abbrev pub turns_of : List Told → List Turn
turns_of [] = []
turns_of (Told.long ∷ rest) = turns_of rest
turns_of (Told.answered text said ∷ rest) = said ∷ turns_of rest

-- ---- where a session ends

-- whether a line has ended the session: it was `quit`
abbrev pub ends : Told → Bool
ends (Told.answered text (turn.Ended replies)) = true
ends told = false

-- whether a line was left to wait
abbrev pub waits : Told → Bool
waits (Told.answered text turn.WaitWanted) = true
waits told = false

-- IN ORDER: no line was left to wait, and none but the last has ended the session.
abbrev pub AreInOrder : List Told → Type 0
AreInOrder [] = Unit {0}
AreInOrder (told ∷ []) = waits told ≡ false
AreInOrder (told ∷ next ∷ rest) = (waits told ≡ false) × (ends told ≡ false) × AreInOrder (next ∷ rest)

-- whether the last line has ended the session
abbrev pub is_over : List Told → Bool
is_over [] = false
is_over (told ∷ []) = ends told
is_over (told ∷ next ∷ rest) = is_over (next ∷ rest)

-- ---- one line

-- A LINE OF THE SESSION IS ANSWERED: its program leads to its end, each call by a step of the backend's relation, and the turn is the one
-- that it ends with. Where that is to wait, the client waits until the backend answers, and then the line goes on as `sync` does.
pub data Answers {B : Type 0} (known : B → Known) (goes : B → Call → Answer → B → Type 0) (old : B) (s : Session) (text : Text) (said : Turn) (new : B)
    (t : Session) : Type 0 where
  at_once : (said ≡ turn.WaitWanted → ⊥)
      → Leads (Goes known goes) old (line_over (known old) s (line_of text)) new (Program.ends (t, said)) → Answers known goes old s text said new t
  woken : (there woke : B) (u : Session)
      → Leads (Goes known goes) old (line_over (known old) s (line_of text)) there (Program.ends (u, turn.WaitWanted))
      → Goes known goes there Call.wait Answer.done woke → Leads (Goes known goes) woke (sync u) new (Program.ends (t, said))
      → Answers known goes old s text said new t

-- a line that was short enough for the session, which goes on unless its turn ended it
pub record LineIsAnswered {B : Type 0} (known : B → Known) (goes : B → Call → Answer → B → Type 0) (old : B) (s : Session) (text : Text) (said : Turn) (new : B)
    (o : Option Session) : Type 0 where
  pub short : length text ≤ LONGEST_LINE
  pub after : Session
  pub answers : Answers known goes old s text said new after
  pub goes_on : o ≡ left after said

-- what a line does: too long a line does nothing
abbrev pub Does : {B : Type 0} → (B → Known) → (B → Call → Answer → B → Type 0) → B → Session → Told → B → Option Session → Type 0
Does known goes old s Told.long new o = (new ≡ old) × (o ≡ Some s)
Does known goes old s (Told.answered text said) new o = LineIsAnswered known goes old s text said new o

-- ---- line after line

-- the session of the backend's client, which has no commit
abbrev pub first_session : Known → Session
first_session k = record { client = k.client; seq = 1; at = k.seen; attempt = None; watching = none_yet k.seen; over = None }

-- A TALK: lines are done one after another, each on what the one before it left. No line is behind one that ended the session.
pub data Talks {B : Type 0} (known : B → Known) (goes : B → Call → Answer → B → Type 0) (old : B) (s : Session)
    : List Told → B → Option Session → Type 0 where
  silent : Talks known goes old s [] old (Some s)
  says : {before tolds : List Told} {mid new : B} {t : Session} {o : Option Session} (told : Told)
      → Talks known goes old s before mid (Some t) → Does known goes mid t told new o → tolds ≡ before ++ told ∷ []
      → Talks known goes old s tolds new o

-- ---- a line that is begun, and not answered

-- SOME FIRST CALLS OF A PROGRAM were made, each by a step of the relation: none, or one that failed, or one that was answered and then
-- some of those that follow.
pub data HasBegun {S A : Type 0} (goes : S → Call → Answer → S → Type 0) : S → Program A → S → Type 0 where
  no_more : {s : S} {p : Program A} → HasBegun goes s p s
  last_failed : {s t : S} {call : Call} {next : Answer → Program A} (by_fault : Bool) → goes s call (Answer.failed by_fault) t
      → HasBegun goes s (Program.asks call next) t
  then_more : {s m t : S} {call : Call} {next : Answer → Program A} (answer : Answer) → goes s call answer m → Succeeds answer
      → HasBegun goes m (next answer) t → HasBegun goes s (Program.asks call next) t

-- A LINE OF THE SESSION IS BEGUN: some first calls of its program were made, maybe all. Where it is to wait, the wait may have failed; or
-- the client was woken, and some first calls of `sync` were made.
pub data Begins {B : Type 0} (known : B → Known) (goes : B → Call → Answer → B → Type 0) (old : B) (s : Session) (text : Text) (new : B)
    : Type 0 where
  at_once : HasBegun (Goes known goes) old (line_over (known old) s (line_of text)) new → Begins known goes old s text new
  unwoken : (there : B) (u : Session) (by_fault : Bool)
      → Leads (Goes known goes) old (line_over (known old) s (line_of text)) there (Program.ends (u, turn.WaitWanted))
      → Goes known goes there Call.wait (Answer.failed by_fault) new → Begins known goes old s text new
  woken : (there woke : B) (u : Session)
      → Leads (Goes known goes) old (line_over (known old) s (line_of text)) there (Program.ends (u, turn.WaitWanted))
      → Goes known goes there Call.wait Answer.done woke → HasBegun (Goes known goes) woke (sync u) new → Begins known goes old s text new

-- Behind a talk a line was begun, where the session goes on, or none was.
abbrev pub MayBegin : {B : Type 0} → (B → Known) → (B → Call → Answer → B → Type 0) → B → Option Session → Option Text → B → Type 0
MayBegin known goes old o None new = new ≡ old
MayBegin known goes old None (Some text) new = ⊥
MayBegin known goes old (Some s) (Some text) new = (length text ≤ LONGEST_LINE) × Begins known goes old s text new

-- ---- worked lines

-- a call that fails is the last
begun-failing :
    {S : Type 0} {goes : S → Call → Answer → S → Type 0} {s t : S} → goes s Call.refresh (Answer.failed false) t → HasBegun goes s ask_length t
begun-failing step = HasBegun.last_failed false step

-- behind one that is answered others may come
begun-going_on :
    {S : Type 0} {goes : S → Call → Answer → S → Type 0} {s t : S} → goes s Call.refresh (Answer.number 3) t → HasBegun goes s ask_length t
begun-going_on step = HasBegun.then_more (Answer.number 3) step tt HasBegun.no_more

-- behind `quit` no line is begun
begun-behind-quit :
    {B : Type 0} (known : B → Known) (goes : B → Call → Answer → B → Type 0) (b c : B) (text : Text) → MayBegin known goes b None (Some text) c → ⊥
begun-behind-quit known goes b c text begun = begun

-- a reply has no client's number before it
reply-example : turn_text (turn.Replies (reply.Disk ∷ reply.Dropped ∷ [])) ≡ codes "disk" ++ NEWLINE ∷ codes "dropped" ++ NEWLINE ∷ []
reply-example = refl

long-example : printed Told.long ≡ codes "refused long" ++ NEWLINE ∷ []
long-example = refl

-- too long a line is none of the session's
texts-example : texts_of (Told.long ∷ Told.answered (codes "quit") (turn.Ended (reply.Dropped ∷ [])) ∷ []) ≡ codes "quit" ∷ []
texts-example = refl

-- `quit`, and its answer
abbrev pub quit : Told
quit = Told.answered (codes "quit") (turn.Ended (reply.Dropped ∷ []))

-- it ends a session
quit-ends : AreInOrder (Told.long ∷ quit ∷ []) × (is_over (Told.long ∷ quit ∷ []) ≡ true)
quit-ends = ((refl, refl, refl), refl)

-- nothing is done behind it
behind-quit : AreInOrder (quit ∷ Told.long ∷ []) → ⊥
behind-quit order = subst T order.1 tt

-- a `wait` is answered by something
left-waiting : AreInOrder (Told.answered (codes "wait") turn.WaitWanted ∷ []) → ⊥
left-waiting order = subst T order tt
