-- What lines of every form have done, they say; and what functions that do them answer.
use Rattle.std.proofs.Common.{◌≡◌, ℕ, Bool, true, false, cond, nat_lt, List, [], ◌∷◌, Some, None, refl, subst}
use Rattle.std.specs.List.{AllByRecursion}
use Rattle.dio_core.proofs.Told.{WhereTold-map}
use Rattle.session_text.specs.declared.reply.Reply.{Reply}
use Rattle.session_text.specs.declared.reply.Reply.TheVariants as reply
use Rattle.docc_prepare.specs.Calls.{Known, Call, Answer}
use Rattle.docc_prepare.specs.Calls.Call.{append}
use Rattle.docc_prepare.specs.Backends.{IsAnswered}
use Rattle.call_programs.specs.Programs.{Program, Always}
use Rattle.call_programs.specs.Safe.{AsksAny, AlwaysEnds}
use Rattle.call_programs.proofs.Programs.{always_more}
use Rattle.client_watches.specs.GoingOn.{WatchLine}
use Rattle.client_watches.specs.LineLaws.{program_of}
use Rattle.client_watches.specs.Lines.{Told}
use Rattle.client_watches.specs.Saying.{IsOfWatches}
use Rattle.client_watches.proofs.Seen.{lines_say_what_is_seen}
use Rattle.session_core.specs.declared.line.Line.{Line}
use Rattle.session_core.specs.declared.line.Line.TheVariants as asked
use Rattle.session_core.specs.declared.session.Session.{Session}
use Rattle.session_core.specs.declared.turn.Turn.TheVariants as turn
use Rattle.session_core.specs.Explained.{replies_in}
use Rattle.session_core.specs.Holding.{Attends}
use Rattle.session_core.specs.LineLaws.{AnswersFor, LinesAnswerForThemselves}
use Rattle.session_core.specs.LinePrograms.{leaves, of_watches, sync, wait_for, line_over}
use Rattle.session_core.specs.Verbs.{LineEnd}
use Rattle.session_core.proofs.Safe.{refreshed_on}
use Rattle.session_core.proofs.Said.{ArePlain, Says, watch-plain}
use Rattle.session_core.proofs.Telling.{HasSaid, nothing_said, plain_said, said_on, Tells, then_tells, refresh_tells, LineSaid}
use Rattle.session_core.proofs.Telling.{begin_tells, commit_tells, step_tells, go_tells, give_up_tells, looks_tell}
use Rattle.session_core.proofs.WatchCalls.{IsWatchCall, AsksWatchCalls, lines_ask_watch_calls}

-- ---- watches

-- no call of theirs says anything
watch_says : (P : List Reply → Type 0) (call : Call) (answer : Answer) → IsWatchCall call → Says P call answer → P []
watch_says P Call.take answer one h = h
watch_says P (Call.read_at address n) answer one h = h
watch_says P (Call.subscribe address) answer one h = h
watch_says P (Call.unsubscribe address) answer one h = h
watch_says P call answer one h = absurd one

-- nor does a program that asks no others, but for what it ends with
watch_tells : (k c : Known) (p : Program Told) → AsksWatchCalls p → HasSaid k c [] → AlwaysEnds c p (λ l told. ArePlain told.1)
    → Tells k c p (λ l told. HasSaid k l told.1)
watch_tells k c (Program.ends told) asks before plain = plain_said k c told.1 plain before
watch_tells k c (Program.asks call next) asks before plain = (
  before,
  λ answer l step ok. watch_tells k l (next answer) (asks.1 answer)
      (watch_says (HasSaid k l) call answer asks.0
      (said_on k c l call answer (λ ready is. absurd (subst IsWatchCall is asks.0)) before step))
      (plain.1 answer l step ok),
)
watch_tells k c Program.stuck asks before plain = tt

-- a line of watches
watches_tell : (k c : Known) (s : Session) (line : WatchLine) → Attends c s → HasSaid k c []
    → Tells k c (of_watches s (program_of line s.watching)) (LineSaid k)
watches_tell k c s line is before =
    then_tells k (λ l (told : Told). HasSaid k l told.1) (LineSaid k) (leaves s) c (program_of line s.watching)
    (watch_tells k c (program_of line s.watching) (lines_ask_watch_calls line s.watching) before
    (always_more AsksAny IsAnswered (Unit {0}) (λ l (told : Told). AllByRecursion (IsOfWatches l.seen) told.1) (λ l (told : Told). ArePlain told.1) c
    (program_of line s.watching) (λ l told all. watch-plain l.seen told.1 all) (lines_say_what_is_seen c s.watching line is.watches.keeps)))
    (λ l told h. h)

-- ---- all lines

-- a row a form of line
pub lines_tell : (k : Known) (s : Session) (asked : Line) → Attends k s → Tells k k (line_over k s asked) (LineSaid k)
lines_tell k s (asked.Begin body) is = begin_tells k s k.shards body
lines_tell k s (asked.Try tries body) is = commit_tells k s k.shards tries body is.client
lines_tell k s asked.Step is = step_tells k s is.client
lines_tell k s asked.Go is = go_tells k s is.client
lines_tell k s asked.Drop is = give_up_tells k s
lines_tell k s (asked.Look body) is = looks_tell k s None body
lines_tell k s (asked.At n body) is = looks_tell k s (Some n) body
lines_tell k s (asked.Watch name body) is = watches_tell k k s (WatchLine.watch name body) is (nothing_said k)
lines_tell k s (asked.Unwatch name) is = watches_tell k k s (WatchLine.unwatch name) is (nothing_said k)
lines_tell k s asked.Sync is = watches_tell k k s WatchLine.sync is (nothing_said k)
lines_tell k s asked.Wait is =
    refresh_tells k k (wait_for s k.seen) (LineSaid k) (nothing_said k) (λ l n step h. by l (refreshed_on k l s n step is) h (nat_lt k.seen n))
  where
    by : (l : Known) → Attends l s → HasSaid k l [] → (b : Bool) → Tells k l (cond b (sync s) (Program.ends (s, turn.WaitWanted))) (LineSaid k)
    by l is h true = watches_tell k l s WatchLine.sync is h
    by l is h false = h
lines_tell k s asked.Quiet is = nothing_said k
lines_tell k s (asked.Refused reason) is = plain_said k k (reply.Refused reason ∷ []) (refl, tt) (nothing_said k)
lines_tell k s asked.Seen is = plain_said k k (reply.Seen k.seen ∷ []) (refl, tt) (nothing_said k)
lines_tell k s asked.Quit is = plain_said k k (reply.Dropped ∷ []) (refl, tt) (nothing_said k)

-- as it is read from outside
answers_for : (k l : Known) (replies : List Reply) → HasSaid k l replies → AnswersFor k l replies
answers_for k l replies h = record {
  owns = WhereTold-map k.journal l.journal (λ old new own. own.own_is) h.own;
  denied = h.denied.denied;
  knows = h.known.known;
}

-- of a whole program
all_answered : (k c : Known) (p : Program LineEnd) → Tells k c p (LineSaid k)
    → Always (λ l call. AnswersFor k l []) IsAnswered (Unit {0}) c p (λ l end. AnswersFor k l (replies_in end.1))
all_answered k c (Program.ends end) tells = answers_for k c (replies_in end.1) tells
all_answered k c (Program.asks call next) tells =
    (answers_for k c [] tells.0, λ answer l step ok. all_answered k l (next answer) (tells.1 answer l step ok))
all_answered k c Program.stuck tells = tt

pub lines_answer_for_themselves : LinesAnswerForThemselves
lines_answer_for_themselves k s asked is = all_answered k k (line_over k s asked) (lines_tell k s asked is)
