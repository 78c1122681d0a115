-- What a line of watches does: programs of calls, a function of the code each. There is no journal in them, and no store.
use Rattle.std.specs.Prelude.{◌≡◌, ℕ, zero, suc, ◌+◌, ◌-◌, Bool, true, false, if◌then◌else◌, List, [], ◌∷◌, ◌++◌}
use Rattle.std.specs.Prelude.{Option, Some, None, is_some, Result, Ok, Err, codes, refl}
use Rattle.std.proofs.Common.{ap}
use Rattle.plain_data.specs.Texts.{Bytes}
use Rattle.rdt_types.specs.declared.address.Address.{Address}
use Rattle.rdt_types.specs.declared.value.Value.{Value}
use Rattle.change_feed.specs.Feeds.{Fed}
use Rattle.session_text.specs.declared.reply.Reply.{Reply}
use Rattle.session_text.specs.declared.reply.Reply.TheVariants as reply
use Rattle.session_text.specs.declared.reply.Why.TheVariants as why
use Rattle.txn_lang.specs.declared.checked.Checked.{Checked}
use Rattle.txn_lang.specs.declared.limits.TheConstants.{TICK_LIMIT}
use Rattle.txn_lang.specs.declared.run.Run.{Run}
use Rattle.txn_lang.specs.Execution.{Ran, need, done, exec}
use Rattle.client_cache.specs.Cached.{held}
use Rattle.rerun_driver.specs.declared.rerun.Rerun.{Rerun}
use Rattle.rerun_driver.specs.declared.rerun.Rerun.TheVariants as rerun
use Rattle.rerun_driver.specs.declared.watch.Watch.{Watch}
use Rattle.rerun_driver.specs.Watches.{watch_of, next_rerun}
use Rattle.docc_prepare.specs.Calls.{Known, Call, Answer}
use Rattle.docc_prepare.specs.Backends.{Goes}
use Rattle.call_programs.specs.Programs.{Program, bind, Leads, Stops, Performs}
use Rattle.client_watches.specs.declared.error.WatchError.{WatchError}
use Rattle.client_watches.specs.declared.error.WatchError.TheVariants as error
use Rattle.client_watches.specs.declared.watching.Watching.{Watching}
use Rattle.client_watches.specs.Watching.{none_yet, none_loose, after_feed, with_value, with_rerun, with_first, without, is_idle, without_value}
use Rattle.client_watches.specs.Watching.{stale_count}

-- what is kept, and the replies so far
abbrev pub Told : Type 0
Told = Watching × List Reply

-- the same, behind what a part of a line has found
abbrev pub With : Type 0 → Type 0
With A = A × Watching × List Reply

-- ---- changes and values

-- what changed is told to all watches and values
abbrev pub fed : Watching → Answer → Program Watching
fed w (Answer.feed feed) = Program.ends (after_feed w feed)
fed w answer = Program.stuck

-- TAKE: what changed since the last take is asked for, and told.
abbrev pub take_feed : Watching → Program Watching
take_feed w = Program.asks Call.take (fed w)

-- once its changes are told, a value is held
abbrev pub kept : Watching → Address → Value → Answer → Program (Option Reply × Watching)
kept w address value Answer.done = Program.ends (None, with_value w address value)
kept w address value answer = Program.stuck

-- a value that was read is to have its changes told; one that is below a shard's horizon is late, and that is the reply
abbrev pub read : Watching → Address → Answer → Program (Option Reply × Watching)
read w address (Answer.value value) = Program.asks (Call.subscribe address) (kept w address value)
read w address (Answer.late n horizon) = Program.ends (Some (reply.Late n horizon), w)
read w address answer = Program.stuck

-- FETCH: the value that a run needs is read, as of the number of the values that are held. It is held then, or it was late.
abbrev pub fetch : Watching → Address → Program (Option Reply × Watching)
fetch w address = Program.asks (Call.read_at address w.cache.at) (read w address)

-- ---- reruns

-- A run reads so many values at most, each in a round of its own, and one round more ends it.
unfoldable pub rounds : ℕ
rounds = TICK_LIMIT + 1

-- where a value was late that is said, and nothing more runs
abbrev pub or_late : {A : Type 0} → (Watching → Program (With A)) → A → List Reply → Option Reply × Watching → Program (With A)
or_late more found said (None, w) = more w
or_late more found said (Some late, w) = Program.ends (found, w, said ++ late ∷ [])

-- The first stale watch needs a value, which is fetched; or it has run, which is reported; or no watch is stale.
abbrev pub rerun_by : (Watching → Program (With (Option Bool))) → Watching → List Reply → Rerun → Program (With (Option Bool))
rerun_by more w said (rerun.Need address) = bind (fetch w address) (or_late more (Some false) said)
rerun_by more w said (rerun.Ran name run) = Program.ends (None, with_rerun w name run, said ++ reply.Ran name w.cache.at run.outcome ∷ [])
rerun_by more w said rerun.NoneLeft = Program.ends (Some true, w, said)

-- ONE RERUN, in so many rounds at most. It finds whether all watches are current, or nothing yet, where one was reported.
abbrev pub rerun_one : ℕ → List Reply → Watching → Program (With (Option Bool))
rerun_one zero said w = Program.stuck
rerun_one (suc n) said w = rerun_by (rerun_one n said) w said (next_rerun (held w.cache) w.watches)

-- the next watch runs, until it is known whether all are current
abbrev pub or_more : (Watching → List Reply → Program (With Bool)) → With (Option Bool) → Program (With Bool)
or_more more (None, w, said) = more w said
or_more more (Some all, w, said) = Program.ends (all, w, said)

-- so many reruns at most
abbrev pub reruns : ℕ → Watching → List Reply → Program (With Bool)
reruns zero w said = Program.stuck
reruns (suc n) w said = bind (rerun_one rounds said w) (or_more (reruns n))

-- CATCH UP: the stale watches run, in the order of their making. It finds that all are current, or that a value was late.
abbrev pub catch_up : Watching → List Reply → Program (With Bool)
catch_up w said = reruns (suc (stale_count w.watches)) w said

-- ---- values that no watch observes

-- a value is held no longer, once its changes are told no longer
abbrev pub let_go : Watching → Address → Answer → Program Watching
let_go w address Answer.done = Program.ends (without_value w address)
let_go w address answer = Program.stuck

-- DROP ONE: what is held at an address is let go where no watch observes it; else nothing is done.
abbrev pub drop_one : Watching → Address → Program Watching
drop_one w address = if is_idle w address then Program.asks (Call.unsubscribe address) (let_go w address) else Program.ends w

-- the same of each of some addresses
abbrev pub drop_each : List Address → Watching → Program Watching
drop_each [] w = Program.ends w
drop_each (address ∷ rest) w = bind (drop_one w address) (drop_each rest)

-- and of all that are loose; none is loose then
abbrev pub drop_idle : Watching → Program Watching
drop_idle w = drop_each w.loose (none_loose w)

-- ---- a new watch

-- a body needs a value, which is fetched; or it has run
abbrev pub run_by : (Watching → Program (With (Option Run))) → Watching → List Reply → Ran → Program (With (Option Run))
run_by more w said (need address) = bind (fetch w address) (or_late more None said)
run_by more w said (done run) = Program.ends (Some run, w, said)

-- A body runs on the values that are held, in so many rounds at most. It finds its run, or none where a value was late.
abbrev pub run_body : ℕ → Checked → List Reply → Watching → Program (With (Option Run))
run_body zero body said w = Program.stuck
run_body (suc n) body said w = run_by (run_body n body said) w said (exec body.body (held w.cache))

-- what has run is a watch from now on, and is reported
abbrev pub made : Bytes → Checked → With (Option Run) → Told
made name body (None, w, said) = (w, said)
made name body (Some run, w, said) = (with_first w name body run, said ++ reply.Ran name w.cache.at run.outcome ∷ [])

-- FIRST RUN: a body runs, and is watched by a name from then on.
abbrev pub first_run : Bytes → Checked → List Reply → Watching → Program Told
first_run name body said w = bind (run_body rounds body said w) (λ found. Program.ends (made name body found))

-- ---- the lines

-- where all are current it is said that they hold
abbrev pub current : With Bool → Told
current (true, w, said) = (w, said ++ reply.Current w.cache.at ∷ [])
current (false, w, said) = (w, said)

-- all are brought up to date, and that is said
abbrev pub say_current : List Reply → Watching → Program Told
say_current said w = bind (catch_up w said) (λ found. Program.ends (current found))

-- where all are current a new one is made, on values that some watch observes
abbrev pub then_first : Bytes → Checked → With Bool → Program Told
then_first name body (true, w, said) = bind (drop_idle w) (first_run name body said)
then_first name body (false, w, said) = Program.ends (w, said)

-- all are brought up to date, and then a new one is made
abbrev pub make : Bytes → Checked → List Reply → Watching → Program Told
make name body said w = bind (catch_up w said) (then_first name body)

-- a line ends once what no watch observes is let go
abbrev pub ending : Told → Program Told
ending told = bind (drop_idle told.0) (λ w. Program.ends (w, told.1))

-- SYNC, and `wait` once there is a commit to wait for
abbrev pub sync : Watching → Program Told
sync w = bind (take_feed w) (λ v. bind (say_current [] v) ending)

-- WATCH: a name that is in use is refused
abbrev pub watch : Watching → Bytes → Checked → Program Told
watch w name body = if is_some (watch_of w.watches name) then Program.ends (w, reply.Refused why.Name ∷ [])
    else bind (take_feed w) (λ v. bind (make name body [] v) ending)

-- UNWATCH: a name that no watch has is refused
abbrev pub unwatch : Watching → Bytes → Program Told
unwatch w name = if is_some (watch_of w.watches name) then ending (without w name, reply.Dropped ∷ [])
    else Program.ends (w, reply.Refused why.NoAttempt ∷ [])

-- ---- what functions do

-- A function that may fail as a line of watches does performs a program over its backend.
abbrev pub Plays : {B A T : Type 0} → (B → Known) → (B → Call → Answer → B → Type 0) → B → Program A → Result T WatchError → (T → A) → B
    → Type 0
Plays known goes old p result give new = Performs (Goes known goes) error.StoreFault old p result give new

-- A function that may fail has done a part of a line's reruns: they have ended with what it has found, or, where that is nothing yet,
-- those of what is kept then are left.
abbrev pub GoesOn : {B : Type 0} → (B → Known) → (B → Call → Answer → B → Type 0) → B → Told → Result (Option Bool) WatchError → B → Told → Type 0
GoesOn known goes old before (Ok found) new after =
    Leads (Goes known goes) old (catch_up before.0 before.1) new (or_more catch_up (found, after.0, after.1))
GoesOn known goes old before (Err e) new after = Stops (Goes known goes) old (catch_up before.0 before.1) (e ≡ error.StoreFault) new

-- ---- worked lines

-- one watch, of which nothing is held
abbrev one_watch : Bytes → Watch → Watching
one_watch name x = record { watches = (name, x) ∷ []; cache = (none_yet 0).cache; loose = [] }

-- `sync` first asks for what changed
sync-takes : (w : Watching) → sync w ≡ Program.asks Call.take (λ answer. bind (fed w answer) (λ v. bind (say_current [] v) ending))
sync-takes w = refl

-- there is a first round
first_round : rounds ≡ suc (rounds - 1)
unfolding rounds
first_round = refl

-- where no watch is stale then, no more is asked for: all hold at the number up to which changes were taken
sync-current : (at : ℕ) (feed : Fed) → bind (fed (none_yet at) (Answer.feed feed)) (λ v. bind (say_current [] v) ending)
    ≡ Program.ends (after_feed (none_yet at) feed, reply.Current feed.to ∷ [])
sync-current at feed =
    let w = after_feed (none_yet at) feed in
    ap (λ (n : ℕ). bind (bind (bind (rerun_one n [] w) (or_more (reruns 0))) (λ found. Program.ends (current found))) ending) first_round

-- a value that is late is the reply, and nothing of it is held
fetch-late : (w : Watching) (address : Address) (horizon : ℕ)
    → read w address (Answer.late w.cache.at horizon) ≡ Program.ends (Some (reply.Late w.cache.at horizon), w)
fetch-late w address horizon = refl

-- with it the reruns end, and it isn't said that all hold
late-ends : (n : ℕ) (w : Watching) (said : List Reply) (late : Reply)
    → bind (or_late (rerun_one n said) (Some false) said (Some late, w)) (or_more (reruns n)) ≡ Program.ends (false, w, said ++ late ∷ [])
late-ends n w said late = refl

late-alone : (w : Watching) (said : List Reply) → current (false, w, said) ≡ (w, said)
late-alone w said = refl

-- a name that is in use is refused, and nothing is asked for
watch-in-use : (x : Watch) (body : Checked)
    → watch (one_watch (codes "v") x) (codes "v") body ≡ Program.ends (one_watch (codes "v") x, reply.Refused why.Name ∷ [])
watch-in-use x body = refl

-- another name is free, and what changed is asked for
watch-free : (x : Watch) (body : Checked) → watch (one_watch (codes "v") x) (codes "w") body
    ≡ bind (take_feed (one_watch (codes "v") x)) (λ v. bind (make (codes "w") body [] v) ending)
watch-free x body = refl

-- a name that no watch has is refused
unwatch-unknown : (x : Watch) → unwatch (one_watch (codes "v") x) (codes "w") ≡ Program.ends (one_watch (codes "v") x, reply.Refused why.NoAttempt ∷ [])
unwatch-unknown x = refl

-- where nothing was observed nothing is let go, and the watch is gone
unwatch-named : (body : Checked) (n : ℕ) (stale : Bool)
    → unwatch (one_watch (codes "v") (record { body = body; number = n; observations = []; stale = stale })) (codes "v")
    ≡ Program.ends (none_yet 0, reply.Dropped ∷ [])
unwatch-named body n stale = refl

-- an address at which nothing is held is passed
drop-nothing : (at : ℕ) (address : Address) → drop_one (none_yet at) address ≡ Program.ends (none_yet at)
drop-nothing at address = refl
