-- Lines are safe: part by part, by what is kept.
use Rattle.std.proofs.Common.{◌≡◌, ℕ, zero, suc, ◌+◌, ◌≤◌, ◌<◌, Bool, true, false, cond, List, [], ◌∷◌, Option, Some, None, is_some}
use Rattle.std.proofs.Common.{refl, sym, ap, ◌∙◌, subst, arith}
use Rattle.std.specs.Prelude.{IfNone, IfSome}
use Rattle.std.specs.List.{AllByRecursion}
use Rattle.plain_data.specs.Texts.{Bytes}
use Rattle.rdt_types.specs.declared.address.Address.{Address}
use Rattle.rdt_types.specs.declared.value.Value.{Value}
use Rattle.session_text.specs.declared.reply.Reply.{Reply}
use Rattle.session_text.specs.declared.reply.Reply.TheVariants as reply
use Rattle.session_text.specs.declared.reply.Why.TheVariants as why
use Rattle.txn_lang.specs.declared.checked.Checked.{Checked}
use Rattle.txn_lang.specs.declared.limits.TheConstants.{TICK_LIMIT}
use Rattle.txn_lang.specs.declared.run.Run.{Run}
use Rattle.txn_lang.specs.Execution.{Ran, need, done, exec}
use Rattle.txn_lang.specs.Few.{AreReadInTurn}
use Rattle.txn_lang.specs.Short.{IsShortAddress}
use Rattle.txn_lang.proofs.Few.{reads_are_few}
use Rattle.txn_lang.proofs.Observed.{runs_ask_short}
use Rattle.client_cache.specs.Cached.{held}
use Rattle.rerun_driver.specs.declared.rerun.Rerun.{Rerun}
use Rattle.rerun_driver.specs.declared.rerun.Rerun.TheVariants as rerun
use Rattle.rerun_driver.specs.Watches.{Watches, watch_of, first_stale, next_rerun}
use Rattle.docc_prepare.specs.Calls.{Known, Call, Answer}
use Rattle.docc_prepare.specs.Backends.{IsAnswered}
use Rattle.call_programs.specs.Programs.{Program, bind, Succeeds}
use Rattle.call_programs.specs.Safe.{IsSafe}
use Rattle.call_programs.proofs.Safe.{then_safe}
use Rattle.client_watches.specs.declared.watching.Watching.{Watching}
use Rattle.client_watches.specs.Watching.{none_loose, with_value, without, is_idle, without_value, stale_count}
use Rattle.client_watches.specs.Keeping.{Keeps}
use Rattle.client_watches.specs.GoingOn.{WatchLine}
use Rattle.client_watches.specs.LineLaws.{LinesAreSafe}
use Rattle.client_watches.specs.Lines.{Told, With, fed, take_feed, kept, read, fetch, rounds, or_late, rerun_by, rerun_one, or_more, reruns, catch_up}
use Rattle.client_watches.specs.Lines.{let_go, drop_one, drop_each, drop_idle, run_by, run_body, made, first_run, current, say_current, then_first, make, ending}
use Rattle.client_watches.proofs.Names.{none-told, none-report}
use Rattle.client_watches.proofs.Stale.{it-needs, one-fewer}
use Rattle.client_watches.proofs.Bounds.{HasRead, none-read, reads-few, rerun-reads-more, filled-next}
use Rattle.client_watches.proofs.Kept.{keeps-on, keeps-value, keeps-values, keeps-feed, keeps-rerun, keeps-first, keeps-without, keeps-none_loose}
use Rattle.client_watches.proofs.Lined.{free-name}
use Rattle.client_watches.proofs.Parts.{IsFetched}

-- ---- what parts leave

-- what is kept is kept to, and no name is in use that was free among these watches
abbrev pub KeepsAll : Watches → Known → Watching → Type 0
KeepsAll ws l v = Keeps l v × ((name : Bytes) → watch_of ws name ≡ None → watch_of v.watches name ≡ None)

-- what is kept is kept to, and the watches are these
abbrev pub KeepsThese : Watches → Known → Watching → Type 0
KeepsThese ws l v = Keeps l v × (v.watches ≡ ws)

-- what is kept is kept to at a line's end
abbrev pub KeepsTold : Known → Told → Type 0
KeepsTold l told = Keeps l told.0

-- ---- changes and values

-- what changed is taken
take_safe : (k : Known) (w : Watching) → Keeps k w → IsSafe k (take_feed w) (λ l v. KeepsAll w.watches l v)
take_safe k w is = (tt, by)
  where
    by : (answer : Answer) (l : Known) → IsAnswered k Call.take answer l → Succeeds answer → IsSafe l (fed w answer) (λ l v. KeepsAll w.watches l v)
    by (Answer.feed feed) l step ok = (keeps-feed k l w feed is step.shows.0, λ name free. none-told name feed.changes w.watches free)
    by (Answer.failed by_fault) l step ok = absurd ok
    by answer l step ok = absurd step.shows

-- what a value that was asked for leaves
pub record Fetched (w : Watching) (address : Address) (l : Known) (r : Option Reply × Watching) : Type 0 where
  pub keeps : Keeps l r.1
  pub is : IsFetched w address r.0 r.1

-- a value of a short address is asked for
fetch_safe : (k : Known) (w : Watching) (address : Address) → Keeps k w → IsShortAddress address → IsSafe k (fetch w address) (Fetched w address)
fetch_safe k w address is short = ((short, is.seen), by)
  where
    told : (l : Known) (value : Value) → k.seen ≤ l.seen → (answer : Answer) (m : Known) → IsAnswered l (Call.subscribe address) answer m
        → Succeeds answer → IsSafe m (kept w address value answer) (Fetched w address)
    told l value up Answer.done m step ok =
        record { keeps = keeps-value k m w (let on = step.goes_on.seen in omega arith) is address value short; is = (value, refl) }
    told l value up (Answer.failed by_fault) m step ok = absurd ok
    told l value up answer m step ok = absurd step.shows

    by : (answer : Answer) (l : Known) → IsAnswered k (Call.read_at address w.cache.at) answer l
        → Succeeds answer → IsSafe l (read w address answer) (Fetched w address)
    by (Answer.value value) l step ok = (short, told l value step.goes_on.seen)
    by (Answer.late n horizon) l step ok = record { keeps = keeps-on k l w step.goes_on.seen is; is = refl }
    by (Answer.failed by_fault) l step ok = absurd ok
    by answer l step ok = absurd step.shows

-- ---- reruns

-- what one rerun leaves of these watches: one that is stale is fewer, unless it is known whether all are current
pub record IsRerun (ws : Watches) (l : Known) (r : With (Option Bool)) : Type 0 where
  pub keeps : Keeps l r.1
  pub free : (name : Bytes) → watch_of ws name ≡ None → watch_of r.1.watches name ≡ None
  pub fewer : IfNone r.0 (stale_count ws ≡ suc (stale_count r.1.watches))

-- so many rounds are enough, since a run reads fewer values
all_rounds : (reads : ℕ) → reads ≡ rounds → reads ≤ TICK_LIMIT → ⊥
unfolding rounds
all_rounds reads e few = omega arith

-- round by round, where as many values were read as rounds are over
rerun_safe : (n reads : ℕ) (k : Known) (said : List Reply) (w : Watching) → n + reads ≡ rounds → HasRead (first_stale w.watches) reads (held w.cache)
    → Keeps k w → IsSafe k (rerun_one n said w) (IsRerun w.watches)
rerun_safe zero reads k said w e had is = absurd (all_rounds reads (omega arith) (reads-few (first_stale w.watches) reads (held w.cache) had))
rerun_safe (suc n) reads k said w e had is = by (next_rerun (held w.cache) w.watches) refl (λ l v. rerun_safe n (suc reads) l said v (omega arith))
  where
    more : (address : Address) → next_rerun (held w.cache) w.watches ≡ rerun.Need address
        → ((l : Known) (v : Watching) → HasRead (first_stale v.watches) (suc reads) (held v.cache) → Keeps l v
        → IsSafe l (rerun_one n said v) (IsRerun v.watches))
        → (l : Known) (o : Option Reply) (v : Watching) → Keeps l v → IsFetched w address o v
        → IsSafe l (or_late (rerun_one n said) (Some false) said (o, v)) (IsRerun w.watches)
    more address next on l None v keeps got =
        subst (λ (v : Watching). Keeps l v → IsSafe l (rerun_one n said v) (IsRerun w.watches)) (sym got.1)
        (λ keeps. on l (with_value w address got.0) (rerun-reads-more w address got.0 reads next had) keeps) keeps
    more address next on l (Some late) v keeps got = record {
      keeps = keeps;
      free = λ name none. ap (λ (v : Watching). watch_of v.watches name) got ∙ none;
      fewer = tt;
    }

    by : (r : Rerun) → next_rerun (held w.cache) w.watches ≡ r
        → ((l : Known) (v : Watching) → HasRead (first_stale v.watches) (suc reads) (held v.cache) → Keeps l v
        → IsSafe l (rerun_one n said v) (IsRerun v.watches))
        → IsSafe k (rerun_by (rerun_one n said) w said r) (IsRerun w.watches)
    by (rerun.Need address) next on =
        let needs = it-needs (held w.cache) w.watches address next in
        then_safe (Fetched w address) (IsRerun w.watches) (or_late (rerun_one n said) (Some false) said) k (fetch w address)
        (fetch_safe k w address is (runs_ask_short.needed needs.entry.1.body.body (held w.cache) address needs.needed))
        (λ l r h. more address next on l r.0 r.1 h.keeps h.is)
    by (rerun.Ran name run) next on = record {
      keeps = keeps-rerun k w is name run next;
      free = λ own none. none-report own w.watches name w.cache.at run none;
      fewer = one-fewer (held w.cache) w.watches name w.cache.at run is.names next;
    }
    by rerun.NoneLeft next on = record { keeps = is; free = λ name none. none; fewer = tt }

-- one watch after another, of which fewer are stale than reruns are left
reruns_safe : (n : ℕ) (k : Known) (ws : Watches) (w : Watching) (said : List Reply) → stale_count w.watches < n → KeepsAll ws k w
    → IsSafe k (reruns n w said) (λ l (r : With Bool). KeepsAll ws l r.1)
reruns_safe zero k ws w said few is = absurd (omega arith)
reruns_safe (suc n) k ws w said few is =
    then_safe (IsRerun w.watches) (λ l (r : With Bool). KeepsAll ws l r.1) (or_more (reruns n)) k (rerun_one rounds said w)
    (rerun_safe rounds 0 k said w (omega arith) (none-read (first_stale w.watches) (held w.cache)) is.0)
    (λ l r h. more (λ m v told. reruns_safe n m ws v told) l r.0 r.1 r.2 h.keeps h.free h.fewer)
  where
    more : ((l : Known) (v : Watching) (told : List Reply) → stale_count v.watches < n → KeepsAll ws l v
        → IsSafe l (reruns n v told) (λ l (r : With Bool). KeepsAll ws l r.1))
        → (l : Known) (o : Option Bool) (v : Watching) (told : List Reply) → Keeps l v
        → ((name : Bytes) → watch_of w.watches name ≡ None → watch_of v.watches name ≡ None)
        → IfNone o (stale_count w.watches ≡ suc (stale_count v.watches))
        → IsSafe l (or_more (reruns n) (o, v, told)) (λ l (r : With Bool). KeepsAll ws l r.1)
    more next l None v told keeps free fewer = next l v told (omega arith) (keeps, λ name none. free name (is.1 name none))
    more next l (Some all) v told keeps free fewer = (keeps, λ name none. free name (is.1 name none))

-- all of them
catch_safe : (k : Known) (w : Watching) (said : List Reply) → Keeps k w → IsSafe k (catch_up w said) (λ l (r : With Bool). KeepsAll w.watches l r.1)
catch_safe k w said is = reruns_safe (suc (stale_count w.watches)) k w.watches w said (omega arith) (is, λ name none. none)

-- ---- values that no watch observes

-- one is let go
drop_safe : (k : Known) (w : Watching) (address : Address) → Keeps k w → IsShortAddress address
    → IsSafe k (drop_one w address) (λ l v. KeepsThese w.watches l v)
drop_safe k w address is short = by (is_idle w address)
  where
    gone : (answer : Answer) (l : Known) → IsAnswered k (Call.unsubscribe address) answer l
        → Succeeds answer → IsSafe l (let_go w address answer) (λ l v. KeepsThese w.watches l v)
    gone Answer.done l step ok =
        (keeps-values k l w step.goes_on.seen is (without_value w address) (record { watches = refl; at = refl; loose = refl }), refl)
    gone (Answer.failed by_fault) l step ok = absurd ok
    gone answer l step ok = absurd step.shows

    by : (b : Bool) → IsSafe k (cond b (Program.asks (Call.unsubscribe address) (let_go w address)) (Program.ends w)) (λ l v. KeepsThese w.watches l v)
    by true = (short, gone)
    by false = (is, refl)

-- address by address
drops_safe : (rest : List Address) (k : Known) (ws : Watches) (w : Watching) → KeepsThese ws k w → AllByRecursion IsShortAddress rest
    → IsSafe k (drop_each rest w) (λ l v. KeepsThese ws l v)
drops_safe [] k ws w is short = is
drops_safe (address ∷ rest) k ws w is short =
    then_safe (λ l v. KeepsThese w.watches l v) (λ l v. KeepsThese ws l v) (drop_each rest) k (drop_one w address)
    (drop_safe k w address is.0 short.0) (λ l v h. drops_safe rest l ws v (h.0, h.1 ∙ is.1) short.1)

-- all the loose ones
idle_safe : (k : Known) (w : Watching) → Keeps k w → IsSafe k (drop_idle w) (λ l v. KeepsThese w.watches l v)
idle_safe k w is = drops_safe w.loose k w.watches (none_loose w) (keeps-none_loose k w is, refl) is.loose

-- ---- a new watch

-- what the first run of a body leaves of these watches
pub record HasRunFirst (body : Checked) (ws : Watches) (l : Known) (r : With (Option Run)) : Type 0 where
  pub keeps : Keeps l r.1
  pub same : r.1.watches ≡ ws
  pub run : IfSome r.0 (λ run. exec body.body (held r.1.cache) ≡ done run)

-- round by round
run_safe : (n reads : ℕ) (k : Known) (body : Checked) (said : List Reply) (w : Watching) → n + reads ≡ rounds
    → AreReadInTurn body.body reads (held w.cache) → Keeps k w → IsSafe k (run_body n body said w) (HasRunFirst body w.watches)
run_safe zero reads k body said w e turn is = absurd (all_rounds reads (omega arith) (reads_are_few body.body reads (held w.cache) turn))
run_safe (suc n) reads k body said w e turn is = by (exec body.body (held w.cache)) refl (λ l v. run_safe n (suc reads) l body said v (omega arith))
  where
    more : (address : Address) → exec body.body (held w.cache) ≡ need address
        → ((l : Known) (v : Watching) → AreReadInTurn body.body (suc reads) (held v.cache) → Keeps l v
        → IsSafe l (run_body n body said v) (HasRunFirst body v.watches))
        → (l : Known) (o : Option Reply) (v : Watching) → Keeps l v → IsFetched w address o v
        → IsSafe l (or_late (run_body n body said) None said (o, v)) (HasRunFirst body w.watches)
    more address needed on l None v keeps got =
        subst (λ (v : Watching). Keeps l v → IsSafe l (run_body n body said v) (HasRunFirst body w.watches)) (sym got.1)
        (λ keeps. on l (with_value w address got.0) (held w.cache, turn, filled-next body.body w.cache address got.0 needed) keeps) keeps
    more address needed on l (Some late) v keeps got = record { keeps = keeps; same = ap (λ (v : Watching). v.watches) got; run = tt }

    by : (r : Ran) → exec body.body (held w.cache) ≡ r
        → ((l : Known) (v : Watching) → AreReadInTurn body.body (suc reads) (held v.cache) → Keeps l v
        → IsSafe l (run_body n body said v) (HasRunFirst body v.watches))
        → IsSafe k (run_by (run_body n body said) w said r) (HasRunFirst body w.watches)
    by (need address) ran on =
        then_safe (Fetched w address) (HasRunFirst body w.watches) (or_late (run_body n body said) None said) k (fetch w address)
        (fetch_safe k w address is (runs_ask_short.needed body.body (held w.cache) address ran)) (λ l r h. more address ran on l r.0 r.1 h.keeps h.is)
    by (done run) ran on = record { keeps = is; same = refl; run = ran }

-- the watch is kept
first_safe : (k : Known) (name : Bytes) (body : Checked) (said : List Reply) (w : Watching) → Keeps k w → watch_of w.watches name ≡ None
    → IsSafe k (first_run name body said w) KeepsTold
first_safe k name body said w is free =
    then_safe (HasRunFirst body w.watches) KeepsTold (λ found. Program.ends (made name body found)) k (run_body rounds body said w)
    (run_safe rounds 0 k body said w (omega arith) tt is) (λ l r h. by l r.0 r.1 r.2 h.keeps h.same h.run)
  where
    by : (l : Known) (o : Option Run) (v : Watching) (told : List Reply) → Keeps l v → v.watches ≡ w.watches
        → IfSome o (λ run. exec body.body (held v.cache) ≡ done run) → Keeps l (made name body (o, v, told)).0
    by l None v told keeps same ran = keeps
    by l (Some run) v told keeps same ran = keeps-first l v keeps name body run (ap (λ (ws : Watches). watch_of ws name) same ∙ free) ran

-- ---- lines

-- what no watch observes is let go
ending_safe : (k : Known) (told : Told) → Keeps k told.0 → IsSafe k (ending told) KeepsTold
ending_safe k told is =
    then_safe (λ l v. KeepsThese told.0.watches l v) KeepsTold (λ w. Program.ends (w, told.1)) k (drop_idle told.0) (idle_safe k told.0 is)
    (λ l v h. h.0)

-- all are current, or a value was late
current_safe : (k : Known) (said : List Reply) (w : Watching) → Keeps k w → IsSafe k (say_current said w) KeepsTold
current_safe k said w is =
    then_safe (λ l (r : With Bool). KeepsAll w.watches l r.1) KeepsTold (λ found. Program.ends (current found)) k (catch_up w said)
    (catch_safe k w said is) (λ l r h. by l r.0 r.1 r.2 h.0)
  where
    by : (l : Known) (b : Bool) (v : Watching) (told : List Reply) → Keeps l v → Keeps l (current (b, v, told)).0
    by l true v told keeps = keeps
    by l false v told keeps = keeps

-- a new one is made
make_safe : (k : Known) (name : Bytes) (body : Checked) (said : List Reply) (w : Watching) → Keeps k w → watch_of w.watches name ≡ None
    → IsSafe k (make name body said w) KeepsTold
make_safe k name body said w is free =
    then_safe (λ l (r : With Bool). KeepsAll w.watches l r.1) KeepsTold (then_first name body) k (catch_up w said) (catch_safe k w said is)
    (λ l r h. by l r.0 r.1 r.2 h.0 (h.1 name free))
  where
    by : (l : Known) (b : Bool) (v : Watching) (told : List Reply) → Keeps l v → watch_of v.watches name ≡ None
        → IsSafe l (then_first name body (b, v, told)) KeepsTold
    by l true v told keeps open_ =
        then_safe (λ l u. KeepsThese v.watches l u) KeepsTold (first_run name body told) l (drop_idle v) (idle_safe l v keeps)
        (λ m u h. first_safe m name body told u h.0 (ap (λ (ws : Watches). watch_of ws name) h.1 ∙ open_))
    by l false v told keeps open_ = keeps

-- LINES ARE SAFE
pub lines_are_safe : LinesAreSafe
lines_are_safe k w WatchLine.sync is =
    then_safe (λ l v. KeepsAll w.watches l v) KeepsTold (λ v. bind (say_current [] v) ending) k (take_feed w) (take_safe k w is)
    (λ l v h. then_safe KeepsTold KeepsTold ending l (say_current [] v) (current_safe l [] v h.0) ending_safe)
lines_are_safe k w (WatchLine.watch name body) is = by (is_some (watch_of w.watches name)) refl
  where
    by : (b : Bool) → is_some (watch_of w.watches name) ≡ b → IsSafe k (cond b (Program.ends (w, reply.Refused why.Name ∷ []))
        (bind (take_feed w) (λ v. bind (make name body [] v) ending))) KeepsTold
    by true e = is
    by false e =
        then_safe (λ l v. KeepsAll w.watches l v) KeepsTold (λ v. bind (make name body [] v) ending) k (take_feed w) (take_safe k w is)
        (λ l v h. then_safe KeepsTold KeepsTold ending l (make name body [] v)
        (make_safe l name body [] v h.0 (h.1 name (free-name (watch_of w.watches name) e))) ending_safe)
lines_are_safe k w (WatchLine.unwatch name) is = by (is_some (watch_of w.watches name))
  where
    by : (b : Bool) → IsSafe k (cond b (ending (without w name, reply.Dropped ∷ [])) (Program.ends (w, reply.Refused why.NoAttempt ∷ []))) KeepsTold
    by true = ending_safe k (without w name, reply.Dropped ∷ []) (keeps-without k w is name)
    by false = is
