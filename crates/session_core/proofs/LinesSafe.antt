-- Lines of every form are safe.
use Rattle.std.proofs.Common.{ℕ, Bool, true, false, cond, nat_lt, Some, None}
use Rattle.docc_prepare.specs.Calls.{Known, Call, Answer}
use Rattle.call_programs.specs.Programs.{Program}
use Rattle.call_programs.specs.Safe.{IsSafe}
use Rattle.call_programs.proofs.Safe.{then_safe}
use Rattle.client_watches.specs.GoingOn.{WatchLine}
use Rattle.client_watches.specs.LineLaws.{program_of}
use Rattle.client_watches.specs.Lines.{Told}
use Rattle.session_core.specs.declared.line.Line.{Line}
use Rattle.session_core.specs.declared.line.Line.TheVariants as asked
use Rattle.session_core.specs.declared.session.Session.{Session}
use Rattle.session_core.specs.declared.turn.Turn.TheVariants as turn
use Rattle.session_core.specs.Holding.{BodyIsReady, WatchesAttend, Attends}
use Rattle.session_core.specs.LineLaws.{LinesAreSafe}
use Rattle.session_core.specs.LinePrograms.{leaves, of_watches, sync, wait_for}
use Rattle.session_core.proofs.Kept.{unwatched, unwatched-attends, watched-attends}
use Rattle.session_core.proofs.Moving.{closes}
use Rattle.session_core.proofs.Safe.{AttendsEnd, refresh_safe, refreshed_on, begin_safe, commit_safe, step_safe, go_safe, give_up_safe, looks_safe}
use Rattle.session_core.proofs.WatchesBehind.{watches_attend}
use Rattle.session_core.proofs.WatchCalls.{lines_ask_watch_calls, attends_behind}

-- a line of watches
watches_safe : (k : Known) (s : Session) (line : WatchLine) → Attends k s → IsSafe k (of_watches s (program_of line s.watching)) AttendsEnd
watches_safe k s line is =
    then_safe (λ l (told : Told). Attends l (unwatched s) × WatchesAttend l told.0) AttendsEnd (leaves s) k (program_of line s.watching)
    (attends_behind (λ l (told : Told). WatchesAttend l told.0) k s (program_of line s.watching) (lines_ask_watch_calls line s.watching)
    (unwatched-attends k s is) (watches_attend k s.watching line is.watches)) (λ l told h. watched-attends l s told.0 h.0 h.1)

-- a row a form of line
pub lines_are_safe : LinesAreSafe
lines_are_safe k s (asked.Begin body) is ready = begin_safe k s body is ready
lines_are_safe k s (asked.Try tries body) is ready = commit_safe k s tries body is ready
lines_are_safe k s asked.Step is ready = step_safe k s is
lines_are_safe k s asked.Go is ready = go_safe k s is
lines_are_safe k s asked.Drop is ready = give_up_safe k s is
lines_are_safe k s (asked.Look body) is ready = looks_safe k s None body is
lines_are_safe k s (asked.At n body) is ready = looks_safe k s (Some n) body is
lines_are_safe k s (asked.Watch name body) is ready = watches_safe k s (WatchLine.watch name body) is
lines_are_safe k s (asked.Unwatch name) is ready = watches_safe k s (WatchLine.unwatch name) is
lines_are_safe k s asked.Sync is ready = watches_safe k s WatchLine.sync is
lines_are_safe k s asked.Wait is ready =
    refresh_safe k (wait_for s k.seen) AttendsEnd (λ l n step. by l (refreshed_on k l s n step is) (nat_lt k.seen n))
  where
    by : (l : Known) → Attends l s → (b : Bool) → IsSafe l (cond b (sync s) (Program.ends (s, turn.WaitWanted))) AttendsEnd
    by l is true = watches_safe l s WatchLine.sync is
    by l is false = is
lines_are_safe k s asked.Quiet is ready = is
lines_are_safe k s (asked.Refused reason) is ready = is
lines_are_safe k s asked.Seen is ready = is
lines_are_safe k s asked.Quit is ready = closes k s is
