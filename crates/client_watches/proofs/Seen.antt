-- Lines end with replies of watches alone. Each is at no number past that of the values, which is one that is seen.
use Rattle.std.proofs.Common.{◌≡◌, ℕ, zero, suc, ◌≤◌, Bool, true, false, cond, List, [], ◌∷◌, ◌++◌, Option, Some, None, is_some}
use Rattle.std.proofs.Common.{refl, sym, subst, arith}
use Rattle.std.specs.Prelude.{IfSome}
use Rattle.std.specs.List.{AllByRecursion}
use Rattle.plain_data.specs.Texts.{Bytes}
use Rattle.rdt_types.specs.declared.address.Address.{Address}
use Rattle.rdt_types.specs.declared.value.Value.{Value}
use Rattle.session_text.specs.declared.reply.Reply.{Reply}
use Rattle.session_text.specs.declared.reply.Reply.TheVariants as reply
use Rattle.session_text.specs.declared.reply.Why.TheVariants as why
use Rattle.txn_lang.specs.declared.checked.Checked.{Checked}
use Rattle.txn_lang.specs.declared.run.Run.{Run}
use Rattle.txn_lang.specs.Execution.{Ran, need, done, exec}
use Rattle.client_cache.specs.Cached.{held}
use Rattle.rerun_driver.specs.declared.rerun.Rerun.{Rerun}
use Rattle.rerun_driver.specs.declared.rerun.Rerun.TheVariants as rerun
use Rattle.rerun_driver.specs.Watches.{watch_of, next_rerun}
use Rattle.docc_prepare.specs.Calls.{Known, Call, Answer}
use Rattle.call_programs.specs.Programs.{Program, bind}
use Rattle.call_programs.specs.Safe.{AlwaysEnds}
use Rattle.call_programs.proofs.Safe.{then_ends, ends_somehow, safe_also}
use Rattle.client_watches.specs.declared.watching.Watching.{Watching}
use Rattle.client_watches.specs.Watching.{none_loose, without, is_idle, stale_count}
use Rattle.client_watches.specs.GoingOn.{WatchLine}
use Rattle.client_watches.specs.Saying.{IsOfWatches}
use Rattle.client_watches.specs.LineLaws.{program_of, LinesSayWhatIsSeen}
use Rattle.client_watches.specs.Lines.{Told, With, take_feed, kept, read, fetch, rounds, or_late, rerun_by, rerun_one, or_more, reruns, catch_up}
use Rattle.client_watches.specs.Lines.{let_go, drop_one, drop_each, drop_idle, run_by, run_body, made, first_run, current, say_current, then_first, make, ending}
use Rattle.client_watches.proofs.Kept.{each-append}
use Rattle.client_watches.proofs.Safe.{KeepsTold, lines_are_safe}

-- ---- replies

-- all are of watches, at no number past that of the values
abbrev pub Says : Watching → List Reply → Type 0
Says w said = AllByRecursion (IsOfWatches w.cache.at) said

-- where the number of the values is the same
says_at : (w v : Watching) (said : List Reply) → v.cache.at ≡ w.cache.at → Says w said → Says v said
says_at w v said at says = subst (λ (n : ℕ). AllByRecursion (IsOfWatches n) said) (sym at) says

-- one reply more
says_more : (w : Watching) (said : List Reply) (r : Reply) → Says w said → IsOfWatches w.cache.at r → Says w (said ++ r ∷ [])
says_more w said r says is = each-append (IsOfWatches w.cache.at) said (r ∷ []) says (is, tt)

-- a report is at that number
says_report : (w : Watching) (said : List Reply) (name : Bytes) (run : Run) → Says w said → Says w (said ++ reply.Ran name w.cache.at run.outcome ∷ [])
says_report w said name run says = says_more w said (reply.Ran name w.cache.at run.outcome) says (omega arith)

-- so at a line's end, and behind each part
abbrev SaysTold : Known → Told → Type 0
SaysTold l told = Says told.0 told.1

abbrev SaysFound : (A : Type 0) → Known → With A → Type 0
SaysFound A l r = Says r.1 r.2

-- a reply of watches at no number past one is at no number past a greater one
of_more : (n m : ℕ) (r : Reply) → n ≤ m → IsOfWatches n r → IsOfWatches m r
of_more n m (reply.Ran name at outcome) up is = omega arith
of_more n m (reply.Current at) up is = omega arith
of_more n m (reply.Late at horizon) up is = tt
of_more n m (reply.Refused reason) up is = tt
of_more n m reply.Dropped up is = tt
of_more n m r up is = absurd is

-- so are all of them
all_more : (n m : ℕ) (said : List Reply) → n ≤ m → AllByRecursion (IsOfWatches n) said → AllByRecursion (IsOfWatches m) said
all_more n m [] up all = tt
all_more n m (r ∷ said) up all = (of_more n m r up all.0, all_more n m said up all.1)

-- ---- values

-- what a value that was asked for leaves: the number of the values as it was, and at most a reply of watches
pub record FetchSays (w : Watching) (l : Known) (r : Option Reply × Watching) : Type 0 where
  pub at : r.1.cache.at ≡ w.cache.at
  pub late : IfSome r.0 (IsOfWatches w.cache.at)

-- whatever is answered
fetch_says : (k : Known) (w : Watching) (address : Address) → AlwaysEnds k (fetch w address) (FetchSays w)
fetch_says k w address = (tt, λ answer l step ok. by answer l)
  where
    told : (value : Value) (answer : Answer) (l : Known) → AlwaysEnds l (kept w address value answer) (FetchSays w)
    told value Answer.done l = record { at = refl; late = tt }
    told value answer l = tt

    by : (answer : Answer) (l : Known) → AlwaysEnds l (read w address answer) (FetchSays w)
    by (Answer.value value) l = (tt, λ answer m step ok. told value answer m)
    by (Answer.late n horizon) l = record { at = refl; late = tt }
    by answer l = tt

-- a late value is said, or the run goes on
or_late_says : {A : Type 0} (more : Watching → Program (With A)) (found : A) (w : Watching) (said : List Reply) → Says w said
    → ((l : Known) (v : Watching) → v.cache.at ≡ w.cache.at → AlwaysEnds l (more v) (SaysFound A))
    → (l : Known) (o : Option Reply) (v : Watching) → v.cache.at ≡ w.cache.at → IfSome o (IsOfWatches w.cache.at)
    → AlwaysEnds l (or_late more found said (o, v)) (SaysFound A)
or_late_says more found w said says on l None v at is = on l v at
or_late_says more found w said says on l (Some late) v at is = says_at w v (said ++ late ∷ []) at (says_more w said late says is)

-- ---- reruns

-- round by round
rerun_says : (n : ℕ) (k : Known) (said : List Reply) (w : Watching) → Says w said → AlwaysEnds k (rerun_one n said w) (SaysFound (Option Bool))
rerun_says zero k said w says = tt
rerun_says (suc n) k said w says =
    by (next_rerun (held w.cache) w.watches) (λ l v at. rerun_says n l said v (says_at w v said at says))
  where
    by : (r : Rerun) → ((l : Known) (v : Watching) → v.cache.at ≡ w.cache.at → AlwaysEnds l (rerun_one n said v) (SaysFound (Option Bool)))
        → AlwaysEnds k (rerun_by (rerun_one n said) w said r) (SaysFound (Option Bool))
    by (rerun.Need address) on =
        then_ends (FetchSays w) (SaysFound (Option Bool)) (or_late (rerun_one n said) (Some false) said) k (fetch w address) (fetch_says k w address)
        (λ l r h. or_late_says (rerun_one n said) (Some false) w said says on l r.0 r.1 h.at h.late)
    by (rerun.Ran name run) on = says_report w said name run says
    by rerun.NoneLeft on = says

-- one watch after another
reruns_say : (n : ℕ) (k : Known) (w : Watching) (said : List Reply) → Says w said → AlwaysEnds k (reruns n w said) (SaysFound Bool)
reruns_say zero k w said says = tt
reruns_say (suc n) k w said says =
    then_ends (SaysFound (Option Bool)) (SaysFound Bool) (or_more (reruns n)) k (rerun_one rounds said w) (rerun_says rounds k said w says)
    (λ l r h. more (λ m v told. reruns_say n m v told) l r.0 r.1 r.2 h)
  where
    more : ((l : Known) (v : Watching) (told : List Reply) → Says v told → AlwaysEnds l (reruns n v told) (SaysFound Bool))
        → (l : Known) (o : Option Bool) (v : Watching) (told : List Reply) → Says v told → AlwaysEnds l (or_more (reruns n) (o, v, told)) (SaysFound Bool)
    more next l None v told is = next l v told is
    more next l (Some all) v told is = is

-- all of them
catch_says : (k : Known) (w : Watching) (said : List Reply) → Says w said → AlwaysEnds k (catch_up w said) (SaysFound Bool)
catch_says k w said says = reruns_say (suc (stale_count w.watches)) k w said says

-- ---- values that no watch observes

-- the number of the values is as it was
abbrev StaysAt : ℕ → Known → Watching → Type 0
StaysAt n l v = v.cache.at ≡ n

-- letting one go leaves it so
drop_at : (n : ℕ) (k : Known) (w : Watching) (address : Address) → w.cache.at ≡ n → AlwaysEnds k (drop_one w address) (StaysAt n)
drop_at n k w address at = by (is_idle w address)
  where
    gone : (answer : Answer) (l : Known) → AlwaysEnds l (let_go w address answer) (StaysAt n)
    gone Answer.done l = at
    gone answer l = tt

    by : (b : Bool) → AlwaysEnds k (cond b (Program.asks (Call.unsubscribe address) (let_go w address)) (Program.ends w)) (StaysAt n)
    by true = (tt, λ answer l step ok. gone answer l)
    by false = at

-- address by address
drops_at : (rest : List Address) (n : ℕ) (k : Known) (w : Watching) → w.cache.at ≡ n → AlwaysEnds k (drop_each rest w) (StaysAt n)
drops_at [] n k w at = at
drops_at (address ∷ rest) n k w at =
    then_ends (StaysAt n) (StaysAt n) (drop_each rest) k (drop_one w address) (drop_at n k w address at)
    (λ l v same. drops_at rest n l v same)

-- all the loose ones
idle_at : (k : Known) (w : Watching) → AlwaysEnds k (drop_idle w) (StaysAt w.cache.at)
idle_at k w = drops_at w.loose w.cache.at k (none_loose w) refl

-- ---- a new watch

-- round by round
run_says : (n : ℕ) (k : Known) (body : Checked) (said : List Reply) (w : Watching) → Says w said
    → AlwaysEnds k (run_body n body said w) (SaysFound (Option Run))
run_says zero k body said w says = tt
run_says (suc n) k body said w says = by (exec body.body (held w.cache)) (λ l v at. run_says n l body said v (says_at w v said at says))
  where
    by : (r : Ran) → ((l : Known) (v : Watching) → v.cache.at ≡ w.cache.at → AlwaysEnds l (run_body n body said v) (SaysFound (Option Run)))
        → AlwaysEnds k (run_by (run_body n body said) w said r) (SaysFound (Option Run))
    by (need address) on =
        then_ends (FetchSays w) (SaysFound (Option Run)) (or_late (run_body n body said) None said) k (fetch w address) (fetch_says k w address)
        (λ l r h. or_late_says (run_body n body said) None w said says on l r.0 r.1 h.at h.late)
    by (done run) on = says

-- it is reported
first_says : (k : Known) (name : Bytes) (body : Checked) (said : List Reply) (w : Watching) → Says w said
    → AlwaysEnds k (first_run name body said w) SaysTold
first_says k name body said w says =
    then_ends (SaysFound (Option Run)) SaysTold (λ found. Program.ends (made name body found)) k (run_body rounds body said w)
    (run_says rounds k body said w says) (λ l r h. by r.0 r.1 r.2 h)
  where
    by : (o : Option Run) (v : Watching) (told : List Reply) → Says v told → Says (made name body (o, v, told)).0 (made name body (o, v, told)).1
    by None v told is = is
    by (Some run) v told is = says_report v told name run is

-- ---- lines

-- what no watch observes is let go, and nothing is said of it
ending_says : (k : Known) (told : Told) → Says told.0 told.1 → AlwaysEnds k (ending told) SaysTold
ending_says k told says =
    then_ends (StaysAt told.0.cache.at) SaysTold (λ w. Program.ends (w, told.1)) k (drop_idle told.0) (idle_at k told.0)
    (λ l v at. says_at told.0 v told.1 at says)

-- all are current, or a value was late
current_says : (k : Known) (said : List Reply) (w : Watching) → Says w said → AlwaysEnds k (say_current said w) SaysTold
current_says k said w says =
    then_ends (SaysFound Bool) SaysTold (λ found. Program.ends (current found)) k (catch_up w said) (catch_says k w said says)
    (λ l r h. by r.0 r.1 r.2 h)
  where
    by : (b : Bool) (v : Watching) (told : List Reply) → Says v told → Says (current (b, v, told)).0 (current (b, v, told)).1
    by true v told is = says_more v told (reply.Current v.cache.at) is (omega arith)
    by false v told is = is

-- a new one is made
make_says : (k : Known) (name : Bytes) (body : Checked) (said : List Reply) (w : Watching) → Says w said → AlwaysEnds k (make name body said w) SaysTold
make_says k name body said w says =
    then_ends (SaysFound Bool) SaysTold (then_first name body) k (catch_up w said) (catch_says k w said says) (λ l r h. by l r.0 r.1 r.2 h)
  where
    by : (l : Known) (b : Bool) (v : Watching) (told : List Reply) → Says v told → AlwaysEnds l (then_first name body (b, v, told)) SaysTold
    by l true v told is =
        then_ends (StaysAt v.cache.at) SaysTold (first_run name body told) l (drop_idle v) (idle_at l v)
        (λ m u at. first_says m name body told u (says_at v u told at is))
    by l false v told is = is

-- whole lines
line_says : (k : Known) (w : Watching) (line : WatchLine) → AlwaysEnds k (program_of line w) SaysTold
line_says k w WatchLine.sync =
    then_ends (λ l v. Unit {0}) SaysTold (λ v. bind (say_current [] v) ending) k (take_feed w) (ends_somehow k (take_feed w))
    (λ l v u. then_ends SaysTold SaysTold ending l (say_current [] v) (current_says l [] v tt) ending_says)
line_says k w (WatchLine.watch name body) = by (is_some (watch_of w.watches name))
  where
    by : (b : Bool) → AlwaysEnds k (cond b (Program.ends (w, reply.Refused why.Name ∷ []))
        (bind (take_feed w) (λ v. bind (make name body [] v) ending))) SaysTold
    by true = (tt, tt)
    by false =
        then_ends (λ l v. Unit {0}) SaysTold (λ v. bind (make name body [] v) ending) k (take_feed w) (ends_somehow k (take_feed w))
        (λ l v u. then_ends SaysTold SaysTold ending l (make name body [] v) (make_says l name body [] v tt) ending_says)
line_says k w (WatchLine.unwatch name) = by (is_some (watch_of w.watches name))
  where
    by : (b : Bool) → AlwaysEnds k (cond b (ending (without w name, reply.Dropped ∷ [])) (Program.ends (w, reply.Refused why.NoAttempt ∷ []))) SaysTold
    by true = ending_says k (without w name, reply.Dropped ∷ []) (tt, tt)
    by false = (tt, tt)

-- LINES SAY WHAT IS SEEN, since the values are at a number that is
pub lines_say_what_is_seen : LinesSayWhatIsSeen
lines_say_what_is_seen k w line is =
    safe_also KeepsTold SaysTold (λ l told. AllByRecursion (IsOfWatches l.seen) told.1) k (program_of line w)
    (λ l told keeps says. all_more told.0.cache.at l.seen told.1 keeps.seen says) (lines_are_safe k w line is) (line_says k w line)
