-- Laws of the lines of a script: each has its end, and each of a client who goes on its entry in the play.
use Rattle.std.specs.Prelude.{◌≡◌, ℕ, ◌≤◌, ◌<◌, true, false, List, length, Some}
use Rattle.dio_core.specs.declared.line.TheConstants.{LONGEST_LINE}
use Rattle.dio_core.specs.declared.line.Line.TheVariants as line
use Rattle.dio_core.specs.Lines.{line_of as cut_of}
use Rattle.rdt_types.specs.declared.settings.Settings.{Settings}
use Rattle.txn_grammar.specs.Characters.{Text}
use Rattle.docc_prepare.specs.declared.limits.TheConstants.{CLIENTS}
use Rattle.docc_prepare.specs.Stores.{Store, IsSound, known_by}
use Rattle.call_programs.specs.Played.{IsPlayedOut}
use Rattle.session_core.specs.declared.session.Session.{Session}
use Rattle.session_core.specs.Holding.{Attends}
use Rattle.session_core.specs.LinePrograms.{line_over}
use Rattle.session_core.specs.Lines.{line_of}
use Rattle.session_core.specs.Words.{trimmed_start, is_quiet}
use Rattle.script_runner.specs.Words.{first_word, client_named}
use Rattle.script_runner.specs.Play.{ScriptWorld, session_of, cut_line, played}
use Rattle.script_runner.specs.Explained.{is_to}

-- EVERY LINE IS OVER: over a sound store, the program of each line of a session that may have its next line is played to its end,
-- and the session behind it may have the next one.
abbrev pub LinesAreOver : Type 0
LinesAreOver =
    (s : Store) (client : ℕ) (session : Session) (text : Text) → IsSound s → client < CLIENTS → Attends (known_by s client) session
    → length text ≤ LONGEST_LINE
    → IsPlayedOut client s (line_over (known_by s client) session (line_of text)) (λ k end. Attends k end.0)

-- A line of a client who goes on, as it stands in the input: it isn't too long, it asks for something, and its first word names a
-- client who hasn't quit.
pub record IsOfClient (world : ScriptWorld) (raw : Text) (client : ℕ) : Type 0 where
  pub bytes : Text
  pub cut : cut_of raw ≡ line.Bytes bytes
  pub asks : is_quiet (trimmed_start bytes) ≡ false
  pub names : client_named (first_word (trimmed_start bytes)) ≡ Some client
  pub session : Session
  pub goes_on : session_of world client ≡ Some session

-- EACH LINE OF A CLIENT WHO GOES ON HAS ITS ENTRY in the play, behind any lines: something is told of it, to that client.
abbrev pub LinesHaveEntries : Type 0
LinesHaveEntries =
    (settings : Settings) (before : List Text) (raw : Text) (client : ℕ) → IsOfClient (played settings before).world raw client
    → is_to client (cut_line (played settings before).world raw).told ≡ true
