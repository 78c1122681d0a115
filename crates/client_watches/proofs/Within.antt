-- Lines ask few calls, part by part: each value that is read goes to the run that needs it, and each run is of one stale watch.
use Rattle.std.proofs.Common.{◌≡◌, ℕ, zero, suc, ◌+◌, ◌*◌, ◌≤◌, Bool, true, false, cond, List, [], ◌∷◌, length, Option, Some, None}
use Rattle.std.proofs.Common.{is_some, refl, sym, ap, ◌∙◌, subst, arith}
use Rattle.std.specs.Prelude.{IfNone}
use Rattle.std.specs.Map.{set_value}
use Rattle.std.specs.Str.{bytes_eq}
use Rattle.plain_data.specs.Texts.{Bytes}
use Rattle.rdt_types.specs.declared.address.Address.{Address}
use Rattle.rdt_types.specs.declared.value.Value.{Value}
use Rattle.session_text.specs.declared.reply.Reply.{Reply}
use Rattle.session_text.specs.declared.reply.Reply.TheVariants as reply
use Rattle.session_text.specs.declared.reply.Why.TheVariants as why
use Rattle.txn_lang.specs.declared.checked.Checked.{Checked}
use Rattle.txn_lang.specs.declared.run.Run.{Run}
use Rattle.txn_lang.specs.Execution.{Ran, need, done, exec}
use Rattle.txn_lang.specs.Few.{AreReadInTurn}
use Rattle.txn_lang.proofs.Few.{reads_are_few}
use Rattle.client_cache.specs.Cached.{held}
use Rattle.rerun_driver.specs.declared.rerun.Rerun.{Rerun}
use Rattle.rerun_driver.specs.declared.rerun.Rerun.TheVariants as rerun
use Rattle.rerun_driver.specs.Watches.{watch_of, settled, first_stale, next_rerun}
use Rattle.docc_prepare.specs.Calls.{Call, Answer}
use Rattle.client_watches.specs.declared.watching.Watching.{Watching}
use Rattle.client_watches.specs.Watching.{none_loose, observed_by, with_value, with_rerun, without, is_idle, stale_count}
use Rattle.client_watches.specs.Keeping.{AreDistinct}
use Rattle.client_watches.specs.GoingOn.{WatchLine}
use Rattle.client_watches.specs.Bounds.{run_calls, most_dropped, most_calls}
use Rattle.client_watches.proofs.Names.{reported_in, distinct-told, distinct-report}
use Rattle.client_watches.proofs.Stale.{first-among, has-run, it-needs}
use Rattle.client_watches.proofs.Bounds.{length-behind, as-many, cost, first-costs, told-costs, observed-within, reads-left, read-paid, filled-next}
use Rattle.client_watches.proofs.Bounds.{HasRead, none-read, rerun-reads-left, rerun-reads-more}
use Rattle.call_programs.specs.Programs.{Program, bind, Succeeds}
use Rattle.call_programs.specs.Safe.{IsWithin}
use Rattle.call_programs.proofs.Safe.{then_within}
use Rattle.client_watches.specs.Lines.{Told, With, fed, take_feed, kept, read, fetch, rounds, or_late, rerun_by, rerun_one, or_more, reruns, catch_up}
use Rattle.client_watches.specs.Lines.{let_go, drop_one, drop_each, drop_idle, run_by, run_body, made, first_run, current, say_current, then_first, make, ending}
use Rattle.client_watches.specs.LineLaws.{LinesAskFew}
use Rattle.client_watches.proofs.Parts.{IsFetched}

-- so many calls are left as the stale watches and the loose addresses may cost, and so many more
pub record Pays (extra n : ℕ) (w : Watching) : Type 0 where
  pub names : AreDistinct w.watches
  pub enough : cost w.watches + length w.loose + extra ≤ n

-- what changed is taken by one call, and each watch is stale at most once then
take_within : (n extra : ℕ) (w : Watching) → AreDistinct w.watches → 1 + length w.watches * run_calls + most_dropped w + extra ≤ n
    → IsWithin n (take_feed w) (λ m v. Pays extra m v)
take_within n extra w names h = (omega arith, by)
  where
    by : (answer : Answer) (m : ℕ) → n ≡ suc m → Succeeds answer → IsWithin m (fed w answer) (λ m v. Pays extra m v)
    by (Answer.feed feed) m e ok = let costs = told-costs feed.changes w.watches in
        record { names = distinct-told feed.changes w.watches names; enough = omega arith }
    by answer m e ok = tt

-- what a value that was asked for leaves, by two calls at most
pub record Fetched (n : ℕ) (w : Watching) (address : Address) (m : ℕ) (r : Option Reply × Watching) : Type 0 where
  pub is : IsFetched w address r.0 r.1
  pub few : n ≤ m + 2

fetch_within : (n : ℕ) (w : Watching) (address : Address) → 2 ≤ n → IsWithin n (fetch w address) (Fetched n w address)
fetch_within n w address h = (omega arith, by)
  where
    told : (m : ℕ) (value : Value) → n ≡ suc m → (answer : Answer) (l : ℕ) → m ≡ suc l
        → Succeeds answer → IsWithin l (kept w address value answer) (Fetched n w address)
    told m value e Answer.done l e' ok = record { is = (value, refl); few = omega arith }
    told m value e answer l e' ok = tt

    by : (answer : Answer) (m : ℕ) → n ≡ suc m → Succeeds answer → IsWithin m (read w address answer) (Fetched n w address)
    by (Answer.value value) m e ok = (omega arith, told m value e)
    by (Answer.late k horizon) m e ok = record { is = refl; few = omega arith }
    by answer m e ok = tt

-- ---- reruns

-- what a rerun leaves: enough for what is loose, and where more may follow for that
pub record Reran (extra m : ℕ) (r : With (Option Bool)) : Type 0 where
  pub names : AreDistinct r.1.watches
  pub left : length r.1.loose + extra ≤ m
  pub more : IfNone r.0 (cost r.1.watches + length r.1.loose + extra ≤ m)

-- round by round, where so many values were read, each by two calls; a third may let it go
rerun_within : (fuel n extra reads : ℕ) (said : List Reply) (w : Watching) → AreDistinct w.watches → HasRead (first_stale w.watches) reads (held w.cache)
    → cost w.watches + length w.loose + extra ≤ n + 3 * reads → IsWithin n (rerun_one fuel said w) (Reran extra)
rerun_within zero n extra reads said w names had h = tt
rerun_within (suc fuel) n extra reads said w names had h = by (next_rerun (held w.cache) w.watches) refl
    (λ m v. rerun_within fuel m extra (suc reads) said v)
  where
    more : (address : Address) → next_rerun (held w.cache) w.watches ≡ rerun.Need address → length w.loose + extra + 3 ≤ n
        → ((m : ℕ) (v : Watching) → AreDistinct v.watches → HasRead (first_stale v.watches) (suc reads) (held v.cache)
        → cost v.watches + length v.loose + extra ≤ m + 3 * suc reads → IsWithin m (rerun_one fuel said v) (Reran extra))
        → (m : ℕ) (o : Option Reply) (v : Watching) → n ≤ m + 2 → IsFetched w address o v
        → IsWithin m (or_late (rerun_one fuel said) (Some false) said (o, v)) (Reran extra)
    more address next spare on m None v few got =
        let behind = length-behind w.loose (address ∷ []) in
        subst (λ (v : Watching). IsWithin m (rerun_one fuel said v) (Reran extra)) (sym got.1)
        (on m (with_value w address got.0) names (rerun-reads-more w address got.0 reads next had) (omega arith))
    more address next spare on m (Some late) v few got = record {
      names = subst (λ (v : Watching). AreDistinct v.watches) (sym got) names;
      left = subst (λ (v : Watching). length v.loose + extra ≤ m) (sym got) (omega arith);
      more = tt;
    }

    by : (r : Rerun) → next_rerun (held w.cache) w.watches ≡ r
        → ((m : ℕ) (v : Watching) → AreDistinct v.watches → HasRead (first_stale v.watches) (suc reads) (held v.cache)
        → cost v.watches + length v.loose + extra ≤ m + 3 * suc reads → IsWithin m (rerun_one fuel said v) (Reran extra))
        → IsWithin n (rerun_by (rerun_one fuel said) w said r) (Reran extra)
    by (rerun.Need address) next on =
        let needs = it-needs (held w.cache) w.watches address next in
        let few = rerun-reads-left w address reads next had in
        let less = (first-costs w.watches needs.entry names needs.first).less (record needs.entry.1 { stale = false }) refl in
        let spare : length w.loose + extra + 3 ≤ n = omega arith in
        then_within (Fetched n w address) (Reran extra) (or_late (rerun_one fuel said) (Some false) said) n (fetch w address)
        (fetch_within n w address (omega arith)) (λ m r h. more address next spare on m r.0 r.1 h.few h.is)
    by (rerun.Ran name run) next on =
        let has = has-run (held w.cache) w.watches name run next in
        let turn : AreReadInTurn has.watch.body.body reads (held w.cache) = subst (λ o. HasRead o reads (held w.cache)) has.first had in
        let few = reads_are_few has.watch.body.body reads (held w.cache) turn in
        let less = (first-costs w.watches (name, has.watch) names has.first).less (settled w.cache.at run has.watch) refl in
        let found = (first-among w.watches (name, has.watch) names has.first).found in
        let later : cost (with_rerun w name run).watches ≡ cost (set_value (bytes_eq name) w.watches (settled w.cache.at run has.watch)) =
        ap (λ o. cost (reported_in w.watches name w.cache.at run o)) found in
        let behind = length-behind w.loose (observed_by (watch_of w.watches name)) in
        let many : length (observed_by (watch_of w.watches name)) ≡ length has.watch.observations =
        ap (λ o. length (observed_by o)) found ∙ as-many has.watch.observations in
        record { names = distinct-report w.watches name w.cache.at run names; left = omega arith; more = omega arith }
    by rerun.NoneLeft next on =
        let paid = read-paid w.watches reads (held w.cache) names had in record { names = names; left = omega arith; more = tt }

-- one watch after another
reruns_within : (fuel n extra : ℕ) (w : Watching) (said : List Reply) → Pays extra n w
    → IsWithin n (reruns fuel w said) (λ m (r : With Bool). length r.1.loose + extra ≤ m)
reruns_within zero n extra w said h = tt
reruns_within (suc fuel) n extra w said h =
    let enough = h.enough in
    then_within (Reran extra) (λ m (r : With Bool). length r.1.loose + extra ≤ m) (or_more (reruns fuel)) n (rerun_one rounds said w)
    (rerun_within rounds n extra 0 said w h.names (none-read (first_stale w.watches) (held w.cache)) (omega arith))
    (λ m r h. more (λ m v told. reruns_within fuel m extra v told) m r.0 r.1 r.2 h.names h.left h.more)
  where
    more : ((m : ℕ) (v : Watching) (told : List Reply) → Pays extra m v
        → IsWithin m (reruns fuel v told) (λ m (r : With Bool). length r.1.loose + extra ≤ m))
        → (m : ℕ) (o : Option Bool) (v : Watching) (told : List Reply) → AreDistinct v.watches → length v.loose + extra ≤ m
        → IfNone o (cost v.watches + length v.loose + extra ≤ m)
        → IsWithin m (or_more (reruns fuel) (o, v, told)) (λ m (r : With Bool). length r.1.loose + extra ≤ m)
    more next m None v told names left costs = next m v told (record { names = names; enough = costs })
    more next m (Some all) v told names left costs = left

-- ---- values that no watch observes

-- one is, by one call
drop_within : (n : ℕ) (w : Watching) (address : Address) → 1 ≤ n → IsWithin n (drop_one w address) (λ m v. (n ≤ m + 1) × (v.loose ≡ w.loose))
drop_within n w address h = by (is_idle w address)
  where
    gone : (answer : Answer) (m : ℕ) → n ≡ suc m
        → Succeeds answer → IsWithin m (let_go w address answer) (λ m v. (n ≤ m + 1) × (v.loose ≡ w.loose))
    gone Answer.done m e ok = (omega arith, refl)
    gone answer m e ok = tt

    by : (b : Bool) → IsWithin n (cond b (Program.asks (Call.unsubscribe address) (let_go w address)) (Program.ends w))
        (λ m v. (n ≤ m + 1) × (v.loose ≡ w.loose))
    by true = (omega arith, gone)
    by false = (omega arith, refl)

-- address by address
drops_within : (rest : List Address) (n extra : ℕ) (loose : List Address) (w : Watching) → length rest + extra ≤ n → w.loose ≡ loose
    → IsWithin n (drop_each rest w) (λ m v. (extra ≤ m) × (v.loose ≡ loose))
drops_within [] n extra loose w h same = (omega arith, same)
drops_within (address ∷ rest) n extra loose w h same =
    then_within (λ m v. (n ≤ m + 1) × (v.loose ≡ w.loose)) (λ m v. (extra ≤ m) × (v.loose ≡ loose)) (drop_each rest) n (drop_one w address)
    (drop_within n w address (omega arith)) (λ m v is. let few = is.0 in drops_within rest m extra loose v (omega arith) (is.1 ∙ same))

-- ---- a new watch

-- round by round
run_within : (fuel n reads : ℕ) (body : Checked) (said : List Reply) (w : Watching) → AreReadInTurn body.body reads (held w.cache)
    → run_calls + length w.loose ≤ n + 3 * reads → IsWithin n (run_body fuel body said w) (λ m (r : With (Option Run)). length r.1.loose ≤ m)
run_within zero n reads body said w turn h = tt
run_within (suc fuel) n reads body said w turn h = by (exec body.body (held w.cache)) refl (λ m v. run_within fuel m (suc reads) body said v)
  where
    more : (address : Address) → exec body.body (held w.cache) ≡ need address → length w.loose + 3 ≤ n
        → ((m : ℕ) (v : Watching) → AreReadInTurn body.body (suc reads) (held v.cache) → run_calls + length v.loose ≤ m + 3 * suc reads
        → IsWithin m (run_body fuel body said v) (λ m (r : With (Option Run)). length r.1.loose ≤ m))
        → (m : ℕ) (o : Option Reply) (v : Watching) → n ≤ m + 2 → IsFetched w address o v
        → IsWithin m (or_late (run_body fuel body said) None said (o, v)) (λ m (r : With (Option Run)). length r.1.loose ≤ m)
    more address needed spare on m None v few got =
        let behind = length-behind w.loose (address ∷ []) in
        subst (λ (v : Watching). IsWithin m (run_body fuel body said v) (λ m (r : With (Option Run)). length r.1.loose ≤ m)) (sym got.1)
        (on m (with_value w address got.0) (held w.cache, turn, filled-next body.body w.cache address got.0 needed) (omega arith))
    more address needed spare on m (Some late) v few got = subst (λ (v : Watching). length v.loose ≤ m) (sym got) (omega arith)

    by : (r : Ran) → exec body.body (held w.cache) ≡ r
        → ((m : ℕ) (v : Watching) → AreReadInTurn body.body (suc reads) (held v.cache) → run_calls + length v.loose ≤ m + 3 * suc reads
        → IsWithin m (run_body fuel body said v) (λ m (r : With (Option Run)). length r.1.loose ≤ m))
        → IsWithin n (run_by (run_body fuel body said) w said r) (λ m (r : With (Option Run)). length r.1.loose ≤ m)
    by (need address) ran on =
        let few = reads-left body.body w.cache address reads ran turn in
        let spare : length w.loose + 3 ≤ n = omega arith in
        then_within (Fetched n w address) (λ m (r : With (Option Run)). length r.1.loose ≤ m) (or_late (run_body fuel body said) None said) n (fetch w address)
        (fetch_within n w address (omega arith)) (λ m r h. more address ran spare on m r.0 r.1 h.few h.is)
    by (done run) ran on = let few = reads_are_few body.body reads (held w.cache) turn in omega arith

-- keeping the watch asks for nothing
first_within : (n : ℕ) (name : Bytes) (body : Checked) (said : List Reply) (w : Watching) → run_calls + length w.loose ≤ n
    → IsWithin n (first_run name body said w) (λ m told. length told.0.loose ≤ m)
first_within n name body said w h =
    then_within (λ m (r : With (Option Run)). length r.1.loose ≤ m) (λ m (told : Told). length told.0.loose ≤ m)
    (λ r. Program.ends (made name body r)) n (run_body rounds body said w) (run_within rounds n 0 body said w tt (omega arith))
    (λ m r h. by m r.0 r.1 r.2 h)
  where
    by : (m : ℕ) (o : Option Run) (v : Watching) (told : List Reply) → length v.loose ≤ m → length (made name body (o, v, told)).0.loose ≤ m
    by m None v told h = h
    by m (Some run) v told h = h

-- ---- the lines

-- each loose address is let go by one call at most
ending_within : (n : ℕ) (told : Told) → length told.0.loose ≤ n → IsWithin n (ending told) (λ m told. Unit {0})
ending_within n told h =
    then_within (λ m v. (0 ≤ m) × (v.loose ≡ [])) (λ m (told : Told). Unit {0}) (λ w. Program.ends (w, told.1)) n (drop_idle told.0)
    (drops_within told.0.loose n 0 [] (none_loose told.0) (omega arith) refl) (λ m v h. tt)

-- saying that all hold asks for nothing
current_within : (n : ℕ) (said : List Reply) (w : Watching) → Pays 0 n w → IsWithin n (say_current said w) (λ m told. length told.0.loose ≤ m)
current_within n said w h =
    then_within (λ m (r : With Bool). length r.1.loose + 0 ≤ m) (λ m (told : Told). length told.0.loose ≤ m) (λ r. Program.ends (current r)) n (catch_up w said)
    (reruns_within (suc (stale_count w.watches)) n 0 w said h) (λ m r h. by m r.0 r.1 r.2 h)
  where
    by : (m : ℕ) (b : Bool) (v : Watching) (told : List Reply) → length v.loose + 0 ≤ m → length (current (b, v, told)).0.loose ≤ m
    by m true v told h = omega arith
    by m false v told h = omega arith

-- a new one is made
make_within : (n : ℕ) (name : Bytes) (body : Checked) (said : List Reply) (w : Watching) → Pays run_calls n w
    → IsWithin n (make name body said w) (λ m told. length told.0.loose ≤ m)
make_within n name body said w h =
    then_within (λ m (r : With Bool). length r.1.loose + run_calls ≤ m) (λ m (told : Told). length told.0.loose ≤ m) (then_first name body) n (catch_up w said)
    (reruns_within (suc (stale_count w.watches)) n run_calls w said h) (λ m r h. by m r.0 r.1 r.2 h)
  where
    by : (m : ℕ) (b : Bool) (v : Watching) (told : List Reply) → length v.loose + run_calls ≤ m
        → IsWithin m (then_first name body (b, v, told)) (λ m told. length told.0.loose ≤ m)
    by m true v told h =
        then_within (λ l u. (run_calls ≤ l) × (u.loose ≡ [])) (λ m (told : Told). length told.0.loose ≤ m) (first_run name body told) m (drop_idle v)
        (drops_within v.loose m run_calls [] (none_loose v) h refl)
        (λ l u is. let enough = is.0 in let none = ap length is.1 in first_within l name body told u (omega arith))
    by m false v told h = omega arith

-- LINES ASK FEW CALLS
pub lines_ask_few : LinesAskFew
lines_ask_few w WatchLine.sync names =
    then_within (λ m v. Pays 0 m v) (λ m (told : Told). Unit {0}) (λ v. bind (say_current [] v) ending) (most_calls WatchLine.sync w) (take_feed w)
    (take_within (most_calls WatchLine.sync w) 0 w names (omega arith))
    (λ m v h. then_within (λ m (told : Told). length told.0.loose ≤ m) (λ m (told : Told). Unit {0}) ending m (say_current [] v) (current_within m [] v h)
    (λ l told h. ending_within l told h))
lines_ask_few w (WatchLine.watch name body) names = by (is_some (watch_of w.watches name))
  where
    by : (b : Bool) → IsWithin (most_calls (WatchLine.watch name body) w) (cond b (Program.ends (w, reply.Refused why.Name ∷ []))
        (bind (take_feed w) (λ v. bind (make name body [] v) ending))) (λ m told. Unit {0})
    by true = tt
    by false =
        then_within (λ m v. Pays run_calls m v) (λ m (told : Told). Unit {0}) (λ v. bind (make name body [] v) ending)
        (most_calls (WatchLine.watch name body) w) (take_feed w)
        (take_within (most_calls (WatchLine.watch name body) w) run_calls w names (omega arith))
        (λ m v h. then_within (λ m (told : Told). length told.0.loose ≤ m) (λ m (told : Told). Unit {0}) ending m (make name body [] v)
        (make_within m name body [] v h) (λ l told h. ending_within l told h))
lines_ask_few w (WatchLine.unwatch name) names = by (is_some (watch_of w.watches name))
  where
    by : (b : Bool) → IsWithin (most_calls (WatchLine.unwatch name) w) (cond b (ending (without w name, reply.Dropped ∷ []))
        (Program.ends (w, reply.Refused why.NoAttempt ∷ []))) (λ m told. Unit {0})
    by true =
        let behind = length-behind w.loose (observed_by (watch_of w.watches name)) in
        let few = observed-within w.watches name in
        ending_within (most_calls (WatchLine.unwatch name) w) (without w name, reply.Dropped ∷ []) (omega arith)
    by false = tt
