-- Lines of watches ask four calls alone, and none of them adds a commit of the client's or gives up what was given.
use Rattle.std.proofs.Common.{◌≡◌, ℕ, zero, suc, Bool, true, false, cond, List, [], ◌∷◌, Option, Some, None, is_some}
use Rattle.plain_data.specs.Texts.{Bytes}
use Rattle.rdt_types.specs.declared.address.Address.{Address}
use Rattle.rdt_types.specs.declared.value.Value.{Value}
use Rattle.session_text.specs.declared.reply.Reply.{Reply}
use Rattle.session_text.specs.declared.reply.Reply.TheVariants as reply
use Rattle.session_text.specs.declared.reply.Why.TheVariants as why
use Rattle.txn_lang.specs.declared.checked.Checked.{Checked}
use Rattle.txn_lang.specs.declared.run.Run.{Run}
use Rattle.txn_lang.specs.Execution.{Ran, need, done, exec}
use Rattle.client_cache.specs.Cached.{held}
use Rattle.rerun_driver.specs.declared.rerun.Rerun.{Rerun}
use Rattle.rerun_driver.specs.declared.rerun.Rerun.TheVariants as rerun
use Rattle.rerun_driver.specs.Watches.{watch_of, next_rerun}
use Rattle.docc_prepare.specs.Calls.{Known, Call, Answer}
use Rattle.docc_prepare.specs.Backends.{IsAnswered}
use Rattle.call_programs.specs.Programs.{Program, bind}
use Rattle.call_programs.specs.Safe.{IsSafe, AlwaysEnds}
use Rattle.client_watches.specs.declared.watching.Watching.{Watching}
use Rattle.client_watches.specs.Watching.{without, is_idle, none_loose, stale_count}
use Rattle.client_watches.specs.GoingOn.{WatchLine}
use Rattle.client_watches.specs.LineLaws.{program_of}
use Rattle.client_watches.specs.Lines.{Told, With, fed, take_feed, kept, read, fetch, rounds, or_late, rerun_by, rerun_one, or_more, reruns, catch_up}
use Rattle.client_watches.specs.Lines.{let_go, drop_one, drop_each, drop_idle, run_by, run_body, made, first_run, current, say_current, then_first, make}
use Rattle.client_watches.specs.Lines.{ending, sync, watch, unwatch}
use Rattle.session_core.specs.declared.session.Session.{Session}
use Rattle.session_core.specs.Holding.{Attends}
use Rattle.session_core.proofs.Kept.{unwatched, unwatched-on}

-- the calls of watches
abbrev pub IsWatchCall : Call → Type 0
IsWatchCall Call.take = Unit {0}
IsWatchCall (Call.read_at address n) = Unit {0}
IsWatchCall (Call.subscribe address) = Unit {0}
IsWatchCall (Call.unsubscribe address) = Unit {0}
IsWatchCall call = ⊥

-- a program asks no others, whatever it is answered
abbrev pub AsksWatchCalls : {A : Type 0} → Program A → Type 0
AsksWatchCalls (Program.ends a) = Unit {0}
AsksWatchCalls (Program.asks call next) = IsWatchCall call × ((answer : Answer) → AsksWatchCalls (next answer))
AsksWatchCalls Program.stuck = Unit {0}

-- nor do two, one behind the other
asks_bind : {A C : Type 0} (f : A → Program C) (p : Program A) → AsksWatchCalls p → ((a : A) → AsksWatchCalls (f a)) → AsksWatchCalls (bind p f)
asks_bind f (Program.ends a) asks more = more a
asks_bind f (Program.asks call next) asks more = (asks.0, λ answer. asks_bind f (next answer) (asks.1 answer) more)
asks_bind f Program.stuck asks more = tt

-- ---- the parts of a line

take_asks : (w : Watching) → AsksWatchCalls (take_feed w)
take_asks w = (tt, by)
  where
    by : (answer : Answer) → AsksWatchCalls (fed w answer)
    by (Answer.feed feed) = tt
    by answer = tt

fetch_asks : (w : Watching) (address : Address) → AsksWatchCalls (fetch w address)
fetch_asks w address = (tt, by)
  where
    told : (value : Value) (answer : Answer) → AsksWatchCalls (kept w address value answer)
    told value Answer.done = tt
    told value answer = tt

    by : (answer : Answer) → AsksWatchCalls (read w address answer)
    by (Answer.value value) = (tt, told value)
    by (Answer.late n horizon) = tt
    by answer = tt

-- what was fetched, or was late
late_asks : {A : Type 0} (more : Watching → Program (With A)) (found : A) (said : List Reply) (o : Option Reply) (w : Watching)
    → ((v : Watching) → AsksWatchCalls (more v)) → AsksWatchCalls (or_late more found said (o, w))
late_asks more found said None w on = on w
late_asks more found said (Some late) w on = tt

rerun_asks : (n : ℕ) (said : List Reply) (w : Watching) → AsksWatchCalls (rerun_one n said w)
rerun_asks zero said w = tt
rerun_asks (suc n) said w = by (next_rerun (held w.cache) w.watches) (λ v. rerun_asks n said v)
  where
    by : (r : Rerun) → ((v : Watching) → AsksWatchCalls (rerun_one n said v)) → AsksWatchCalls (rerun_by (rerun_one n said) w said r)
    by (rerun.Need address) on = asks_bind (or_late (rerun_one n said) (Some false) said) (fetch w address) (fetch_asks w address)
        (λ r. late_asks (rerun_one n said) (Some false) said r.0 r.1 on)
    by (rerun.Ran name run) on = tt
    by rerun.NoneLeft on = tt

reruns_asks : (n : ℕ) (w : Watching) (said : List Reply) → AsksWatchCalls (reruns n w said)
reruns_asks zero w said = tt
reruns_asks (suc n) w said =
    asks_bind (or_more (reruns n)) (rerun_one rounds said w) (rerun_asks rounds said w) (λ r. by (λ v told. reruns_asks n v told) r.0 r.1 r.2)
  where
    by : ((v : Watching) (told : List Reply) → AsksWatchCalls (reruns n v told)) → (o : Option Bool) (v : Watching) (told : List Reply)
        → AsksWatchCalls (or_more (reruns n) (o, v, told))
    by on None v told = on v told
    by on (Some all) v told = tt

drop_asks : (w : Watching) (address : Address) → AsksWatchCalls (drop_one w address)
drop_asks w address = by (is_idle w address)
  where
    gone : (answer : Answer) → AsksWatchCalls (let_go w address answer)
    gone Answer.done = tt
    gone answer = tt

    by : (b : Bool) → AsksWatchCalls (cond b (Program.asks (Call.unsubscribe address) (let_go w address)) (Program.ends w))
    by true = (tt, gone)
    by false = tt

drops_asks : (rest : List Address) (w : Watching) → AsksWatchCalls (drop_each rest w)
drops_asks [] w = tt
drops_asks (address ∷ rest) w = asks_bind (drop_each rest) (drop_one w address) (drop_asks w address) (λ v. drops_asks rest v)

run_asks : (n : ℕ) (body : Checked) (said : List Reply) (w : Watching) → AsksWatchCalls (run_body n body said w)
run_asks zero body said w = tt
run_asks (suc n) body said w = by (exec body.body (held w.cache)) (λ v. run_asks n body said v)
  where
    by : (r : Ran) → ((v : Watching) → AsksWatchCalls (run_body n body said v)) → AsksWatchCalls (run_by (run_body n body said) w said r)
    by (need address) on = asks_bind (or_late (run_body n body said) None said) (fetch w address) (fetch_asks w address)
        (λ r. late_asks (run_body n body said) None said r.0 r.1 on)
    by (done run) on = tt

first_asks : (name : Bytes) (body : Checked) (said : List Reply) (w : Watching) → AsksWatchCalls (first_run name body said w)
first_asks name body said w =
    asks_bind (λ found. Program.ends (made name body found)) (run_body rounds body said w) (run_asks rounds body said w) (λ found. tt)

-- ---- lines

current_asks : (said : List Reply) (w : Watching) → AsksWatchCalls (say_current said w)
current_asks said w = asks_bind (λ found. Program.ends (current found)) (catch_up w said) (reruns_asks (suc (stale_count w.watches)) w said) (λ found. tt)

make_asks : (name : Bytes) (body : Checked) (said : List Reply) (w : Watching) → AsksWatchCalls (make name body said w)
make_asks name body said w =
    asks_bind (then_first name body) (catch_up w said) (reruns_asks (suc (stale_count w.watches)) w said) (λ r. by r.0 r.1 r.2)
  where
    by : (b : Bool) (v : Watching) (told : List Reply) → AsksWatchCalls (then_first name body (b, v, told))
    by true v told = asks_bind (first_run name body told) (drop_idle v) (drops_asks v.loose (none_loose v)) (λ u. first_asks name body told u)
    by false v told = tt

ending_asks : (told : Told) → AsksWatchCalls (ending told)
ending_asks told = asks_bind (λ w. Program.ends (w, told.1)) (drop_idle told.0) (drops_asks told.0.loose (none_loose told.0)) (λ w. tt)

pub lines_ask_watch_calls : (line : WatchLine) (w : Watching) → AsksWatchCalls (program_of line w)
lines_ask_watch_calls WatchLine.sync w =
    asks_bind (λ v. bind (say_current [] v) ending) (take_feed w) (take_asks w)
    (λ v. asks_bind ending (say_current [] v) (current_asks [] v) ending_asks)
lines_ask_watch_calls (WatchLine.watch name body) w = by (is_some (watch_of w.watches name))
  where
    by : (b : Bool) → AsksWatchCalls (cond b (Program.ends (w, reply.Refused why.Name ∷ []))
        (bind (take_feed w) (λ v. bind (make name body [] v) ending)))
    by true = tt
    by false = asks_bind (λ v. bind (make name body [] v) ending) (take_feed w) (take_asks w)
        (λ v. asks_bind ending (make name body [] v) (make_asks name body [] v) ending_asks)
lines_ask_watch_calls (WatchLine.unwatch name) w = by (is_some (watch_of w.watches name))
  where
    by : (b : Bool) → AsksWatchCalls (cond b (ending (without w name, reply.Dropped ∷ [])) (Program.ends (w, reply.Refused why.NoAttempt ∷ [])))
    by true = ending_asks (without w name, reply.Dropped ∷ [])
    by false = tt

-- ---- the session meanwhile

-- without its watches it attends behind each of these calls
watch_on : (k l : Known) (s : Session) (call : Call) (answer : Answer) → IsWatchCall call → IsAnswered k call answer l → Attends k (unwatched s)
    → Attends l (unwatched s)
watch_on k l s Call.take answer one step is = unwatched-on k l s Call.take answer step (λ old new own. own) step.keeps is
watch_on k l s (Call.read_at address n) answer one step is = unwatched-on k l s (Call.read_at address n) answer step (λ old new own. own) step.keeps is
watch_on k l s (Call.subscribe address) answer one step is = unwatched-on k l s (Call.subscribe address) answer step (λ old new own. own) step.keeps is
watch_on k l s (Call.unsubscribe address) answer one step is = unwatched-on k l s (Call.unsubscribe address) answer step (λ old new own. own) step.keeps is
watch_on k l s call answer one step is = absurd one

-- so it does at the end of a safe program that asks no others, besides what holds there
pub attends_behind : {A : Type 0} (holds : Known → A → Type 0) (k : Known) (s : Session) (p : Program A) → AsksWatchCalls p → Attends k (unwatched s)
    → IsSafe k p holds → IsSafe k p (λ l a. Attends l (unwatched s) × holds l a)
attends_behind holds k s (Program.ends a) asks is safe = (is, safe)
attends_behind holds k s (Program.asks call next) asks is safe = (
  safe.0,
  λ answer l step ok. attends_behind holds l s (next answer) (asks.1 answer) (watch_on k l s call answer asks.0 step is) (safe.1 answer l step ok),
)
attends_behind holds k s Program.stuck asks is safe = safe
