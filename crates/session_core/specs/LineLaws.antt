-- What lines of a session keep to, whatever they are answered: laws of their programs.
use Rattle.std.specs.Prelude.{◌≡◌, ◌≤◌, ℕ, List, [], Ok}
use Rattle.dio_core.specs.Told.{WhereTold}
use Rattle.session_text.specs.declared.reply.Reply.{Reply}
use Rattle.txn_grammar.specs.Characters.{Text}
use Rattle.docc_prepare.specs.Calls.{Known}
use Rattle.docc_prepare.specs.Backends.{IsAnswered}
use Rattle.call_programs.specs.Programs.{Always}
use Rattle.call_programs.specs.Safe.{IsSafe, AlwaysEnds, IsWithin}
use Rattle.client_watches.specs.Keeping.{AreDistinct}
use Rattle.session_core.specs.declared.limits.TheConstants.{MOST_CALLS}
use Rattle.session_core.specs.declared.line.Line.{Line}
use Rattle.session_core.specs.declared.session.Session.{Session}
use Rattle.session_core.specs.Bounds.{most_calls, IsPlain}
use Rattle.session_core.specs.Lines.{line_of}
use Rattle.session_core.specs.Holding.{BodyIsReady, Attends}
use Rattle.session_core.specs.Explained.{replies_in, IsExplained}
use Rattle.session_core.specs.Sessions.{OwnsAnswered, denied_by_all}
use Rattle.session_core.specs.LinePrograms.{line, line_over}

-- ---- how many calls

-- A law: whatever it is answered, a line makes no more calls than its form allows, where no two watches have one name.
abbrev pub LinesAskFew : Type 0
LinesAskFew =
    (shards seen : ℕ) (s : Session) (asked : Line) → AreDistinct s.watching.watches
    → IsWithin (most_calls s asked) (line shards seen s asked) (λ left end. Unit {0})

-- So each line without watches that was read makes no more than all lines may.
abbrev pub MostCallsAreEnough : Type 0
MostCallsAreEnough =
    (shards seen : ℕ) (s : Session) (text : Text) → IsPlain (line_of text) → AreDistinct s.watching.watches
    → IsWithin MOST_CALLS (line shards seen s (line_of text)) (λ left end. Unit {0})

-- ---- which calls

-- A law: whatever a backend answers by the clause of every call, each call of a line is one that may be made, the line is stuck nowhere,
-- and the session goes on behind it.
abbrev pub LinesAreSafe : Type 0
LinesAreSafe = (k : Known) (s : Session) (asked : Line) → Attends k s → BodyIsReady asked → IsSafe k (line_over k s asked) (λ l end. Attends l end.0)

-- ---- what is done, and said

-- What was done since, of which these replies tell: the client's commits are those before and the ones that are named, the disk has
-- denied it as many as are answered with `disk`, and each denial is one of those in the whole store that are known of.
pub record AnswersFor (k l : Known) (replies : List Reply) : Type 0 where
  pub owns : WhereTold (OwnsAnswered k.client replies) k.journal l.journal
  pub denied : l.denied ≡ denied_by_all k.denied replies
  pub knows : denied_by_all k.denials replies ≤ l.denials

-- A law: whatever a backend answers by the clause of every call, at each call of a line nothing was done yet, and at its end what its
-- replies tell.
abbrev pub LinesAnswerForThemselves : Type 0
LinesAnswerForThemselves =
    (k : Known) (s : Session) (asked : Line) → Attends k s
    → Always (λ l call. AnswersFor k l []) IsAnswered (Unit {0}) k (line_over k s asked) (λ l end. AnswersFor k l (replies_in end.1))

-- ---- what explains answers

-- A law: whatever a backend answers by the clause of every call, a line ends with an answer that passes, whatever was shown before, where
-- the journal is told.
abbrev pub LinesAreExplained : Type 0
LinesAreExplained =
    (k : Known) (s : Session) (asked : Line) → Attends k s → BodyIsReady asked
    → AlwaysEnds k (line_over k s asked) (λ l end. IsExplained k l s asked (Ok end.1) end.0)
