-- Looks and lines of watches owe nothing for any answer.
use Rattle.std.proofs.Common.{◌≡◌, ℕ, zero, suc, Bool, true, false, cond, nat_lt, [], Option, Some, None, refl}
use Rattle.session_text.specs.declared.reply.Reply.TheVariants as reply
use Rattle.txn_lang.specs.declared.checked.Checked.{Checked}
use Rattle.txn_lang.specs.Execution.{Ran, need, done, exec}
use Rattle.txn_eval.specs.Running.{values_of}
use Rattle.docc_prepare.specs.Attempts.{SnapList}
use Rattle.docc_prepare.specs.Calls.{Call, Answer}
use Rattle.docc_prepare.specs.Calls.Answer.{number, value, late}
use Rattle.call_programs.specs.Programs.{Program}
use Rattle.client_watches.specs.GoingOn.{WatchLine}
use Rattle.client_watches.specs.LineLaws.{program_of}
use Rattle.session_core.specs.declared.session.Session.{Session}
use Rattle.session_core.specs.declared.turn.Turn.TheVariants as turn
use Rattle.session_core.specs.LinePrograms.{leaves, of_watches, sync, wait_for, wait}
use Rattle.session_core.specs.Stopping.{owes_reply}
use Rattle.session_core.specs.Verbs.{events, refreshed, valued, look_by, look_in, look_at, look_from, look}
use Rattle.session_core.proofs.Stopping.{OwesNothing, owes_bind}
use Rattle.session_core.proofs.WatchCalls.{IsWatchCall, AsksWatchCalls, lines_ask_watch_calls}

-- ---- watches

-- no call of theirs does
watch_owes : (call : Call) → IsWatchCall call → (answer : Answer) → owes_reply call answer ≡ false
watch_owes (Call.append ready) is answer = absurd is
watch_owes (Call.prepare shard all) is answer = absurd is
watch_owes call is answer = refl

-- nor a program that asks no others
asks_owe : {A : Type 0} (p : Program A) → AsksWatchCalls p → OwesNothing p
asks_owe (Program.ends a) asks = tt
asks_owe (Program.asks call next) asks = (watch_owes call asks.0, λ answer. asks_owe (next answer) (asks.1 answer))
asks_owe Program.stuck asks = tt

-- so no line does
pub watches_owe : (s : Session) (line : WatchLine) → OwesNothing (of_watches s (program_of line s.watching))
watches_owe s line =
    owes_bind (leaves s) (program_of line s.watching) (asks_owe (program_of line s.watching) (lines_ask_watch_calls line s.watching)) (λ told. tt)

-- also where it is to wait first
pub wait_owes : (seen : ℕ) (s : Session) → OwesNothing (wait seen s)
wait_owes seen s = (λ answer. refl, by)
  where
    waits : (b : Bool) → OwesNothing (cond b (sync s) (Program.ends (s, turn.WaitWanted)))
    waits true = watches_owe s WatchLine.sync
    waits false = tt

    by : (answer : Answer) → OwesNothing (refreshed (wait_for s seen) answer)
    by (number n) = waits (nat_lt seen n)
    by answer = tt

-- ---- looks

-- round by round
look_owes : (fuel n : ℕ) (body : Checked) (snaps : SnapList) → OwesNothing (look_in fuel n body snaps)
look_owes zero n body snaps = tt
look_owes (suc fuel) n body snaps = by (exec body.body (values_of snaps)) (look_owes fuel n body)
  where
    by : (r : Ran) → ((more : SnapList) → OwesNothing (look_in fuel n body more)) → OwesNothing (look_by (look_in fuel n body) n snaps r)
    by (done run) on = tt
    by (need address) on = (λ answer. refl, given)
      where
        given : (answer : Answer) → OwesNothing (valued (look_in fuel n body) n snaps address answer)
        given (value v) = on _
        given (late m horizon) = tt
        given answer = tt

-- wherever it runs
pub looks_owe : (upto : Option ℕ) (body : Checked) → OwesNothing (look upto body)
looks_owe upto body = (λ answer. refl, by)
  where
    ahead : (b : Bool) (n seen : ℕ) → OwesNothing (cond b (Program.ends (reply.Ahead n seen)) (look_at n body))
    ahead true n seen = tt
    ahead false n seen = look_owes events n body []

    from : (upto : Option ℕ) (seen : ℕ) → OwesNothing (look_from upto body seen)
    from None seen = look_owes events seen body []
    from (Some n) seen = ahead (nat_lt seen n) n seen

    by : (answer : Answer) → OwesNothing (refreshed (look_from upto body) answer)
    by (number n) = from upto n
    by answer = tt
