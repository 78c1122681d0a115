-- Whole sessions by their programs: the lines of one client, one after another, with others at work between them.
use Rattle.std.specs.Prelude.{◌≤◌, List, [], ◌∷◌, length}
use Rattle.dio_core.specs.declared.line.TheConstants.{LONGEST_LINE}
use Rattle.txn_grammar.specs.Characters.{Text}
use Rattle.docc_prepare.specs.Calls.{Known, Call, Answer}
use Rattle.docc_prepare.specs.Backends.{IsAnswered}
use Rattle.call_programs.specs.Programs.{Program, Leads}
use Rattle.session_core.specs.declared.session.Session.{Session}
use Rattle.session_core.specs.declared.turn.Turn.{Turn}
use Rattle.session_core.specs.declared.turn.Turn.TheVariants as turn
use Rattle.session_core.specs.Lines.{line_of}
use Rattle.session_core.specs.Holding.{Attends}
use Rattle.session_core.specs.LinePrograms.{sync, line_over}
use Rattle.session_core.specs.Sessions.{Finds, HasTalked}

-- A LINE AND ITS ANSWER: its program leads to its end, by calls that keep the clause of every call. Where it is to wait, the client
-- waits until its backend answers that there is a commit to tell of, and then all watches are brought up to date.
pub data IsDone (k : Known) (s : Session) (text : Text) (said : Turn) (l : Known) (t : Session) : Type 0 where
  at_once : Leads IsAnswered k (line_over k s (line_of text)) l (Program.ends (t, said)) → IsDone k s text said l t
  woken : (there woke : Known) (u : Session) → Leads IsAnswered k (line_over k s (line_of text)) there (Program.ends (u, turn.WaitWanted))
      → IsAnswered there Call.wait Answer.done woke → Leads IsAnswered woke (sync u) l (Program.ends (t, said)) → IsDone k s text said l t

-- LINES AND THEIR ANSWERS, one after another.
pub data AreDone : Known → Session → List Text → List Turn → Known → Session → Type 0 where
  silent : {k : Known} {s : Session} → AreDone k s [] [] k s
  done : {k here l m : Known} {s t u : Session} {text : Text} {said : Turn} {texts : List Text} {turns : List Turn}
      → Finds k here → length text ≤ LONGEST_LINE → IsDone here s text said l t → AreDone l t texts turns m u
      → AreDone k s (text ∷ texts) (said ∷ turns) m u

-- A law: over every backend that tells its journal, all answers of a session are explained by the journal at its end, whatever others
-- did between its lines; and the client's commits and denials are the answered ones.
abbrev pub DoneLinesAreExplained : Type 0
DoneLinesAreExplained = (k l : Known) (s t : Session) (texts : List Text) (turns : List Turn) → Attends k s → AreDone k s texts turns l t
    → HasTalked k l s t texts turns
