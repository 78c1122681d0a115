-- Lines of every form are within the calls that it allows.
use Rattle.std.proofs.Common.{◌≡◌, ℕ, suc, ◌+◌, ◌-◌, ◌≤◌, Bool, true, false, cond, nat_lt, Some, None, refl, sym, subst, arith}
use Rattle.txn_lang.specs.declared.checked.Checked.{Checked}
use Rattle.txn_lang.specs.declared.limits.TheConstants.{TICK_LIMIT}
use Rattle.docc_prepare.specs.Calls.{Call, Answer}
use Rattle.call_programs.specs.Programs.{Program, Always}
use Rattle.call_programs.specs.Safe.{CanSpend, Spends, IsWithin}
use Rattle.call_programs.proofs.Safe.{then_within}
use Rattle.client_watches.specs.Keeping.{AreDistinct}
use Rattle.client_watches.specs.GoingOn.{WatchLine}
use Rattle.client_watches.specs.Bounds.{most_calls as watch_calls}
use Rattle.client_watches.specs.Lines.{Told}
use Rattle.session_core.specs.declared.limits.TheConstants.{MOST_CALLS}
use Rattle.session_core.specs.declared.line.Line.{Line}
use Rattle.session_core.specs.declared.line.Line.TheVariants as asked
use Rattle.session_core.specs.declared.session.Session.{Session}
use Rattle.session_core.specs.declared.turn.Turn.TheVariants as turn
use Rattle.session_core.specs.Bounds.{most_calls}
use Rattle.session_core.specs.Lines.{line_of}
use Rattle.session_core.specs.LinePrograms.{leaves, of_watches, sync, line}
use Rattle.session_core.specs.LineLaws.{LinesAskFew, MostCallsAreEnough}
use Rattle.session_core.proofs.Bounds.{few-calls}
use Rattle.session_core.proofs.Tries.{tries_are_few}
use Rattle.session_core.proofs.Within.{Any, refresh_within, looks_within, begin_within, commit_within, step_within, go_within, give_up_within}
use Rattle.client_watches.specs.LineLaws.{program_of}
use Rattle.client_watches.proofs.Within.{lines_ask_few as watches_ask_few}

-- a line of watches
watches_within : (s : Session) (line : WatchLine) → AreDistinct s.watching.watches
    → IsWithin (watch_calls line s.watching) (of_watches s (program_of line s.watching)) Any
watches_within s line distinct =
    then_within Any Any (leaves s) (watch_calls line s.watching) (program_of line s.watching) (watches_ask_few s.watching line distinct) (λ m told is. tt)

-- a row a form of line
pub lines_ask_few : LinesAskFew
lines_ask_few shards seen s (asked.Begin body) distinct = begin_within shards s body
lines_ask_few shards seen s (asked.Try tries body) distinct = commit_within (most_calls s (asked.Try tries body)) shards tries s body (omega arith)
lines_ask_few shards seen s asked.Step distinct = step_within s
lines_ask_few shards seen s asked.Go distinct = go_within s
lines_ask_few shards seen s asked.Drop distinct = give_up_within 0 s
lines_ask_few shards seen s (asked.Look body) distinct = looks_within (TICK_LIMIT + 1) s None body (omega arith)
lines_ask_few shards seen s (asked.At n body) distinct = looks_within (TICK_LIMIT + 1) s (Some n) body (omega arith)
lines_ask_few shards seen s (asked.Watch name body) distinct = watches_within s (WatchLine.watch name body) distinct
lines_ask_few shards seen s (asked.Unwatch name) distinct = watches_within s (WatchLine.unwatch name) distinct
lines_ask_few shards seen s asked.Sync distinct = watches_within s WatchLine.sync distinct
lines_ask_few shards seen s asked.Wait distinct =
    refresh_within (1 + watch_calls WatchLine.sync s.watching) _ Any (omega arith) (λ m n e. by m (omega arith) (nat_lt seen n))
  where
    by : (m : ℕ) → m ≡ watch_calls WatchLine.sync s.watching → (b : Bool) → IsWithin m (cond b (sync s) (Program.ends (s, turn.WaitWanted))) Any
    by m e true = subst (λ (n : ℕ). IsWithin n (sync s) Any) (sym e) (watches_within s WatchLine.sync distinct)
    by m e false = tt
lines_ask_few shards seen s asked.Quiet distinct = tt
lines_ask_few shards seen s (asked.Refused reason) distinct = tt
lines_ask_few shards seen s asked.Seen distinct = tt
lines_ask_few shards seen s asked.Quit distinct = tt

-- more calls may be allowed
more_within : {A : Type 0} (p : Program A) (few most : ℕ) → few ≤ most → IsWithin few p Any → IsWithin most p Any
more_within (Program.ends a) few most up is = tt
more_within (Program.asks call next) few most up is =
    (omega (arith, is.0), λ answer left spent ok. more_within (next answer) (few - 1) left (omega arith) (is.1 answer (few - 1) (omega (arith, is.0)) ok))
more_within Program.stuck few most up is = tt

-- the bound of each form is below that of all lines, since tries are few
pub most_calls_are_enough : MostCallsAreEnough
most_calls_are_enough shards seen s text plain distinct =
    more_within (line shards seen s (line_of text)) (most_calls s (line_of text)) MOST_CALLS
    (few-calls s (line_of text) plain (λ tries body e. (tries_are_few text tries body e).1)) (lines_ask_few shards seen s (line_of text) distinct)
