-- A line's reruns where the runs of all its stale watches are known. The first stale watch is the first of those that run, and once it
-- takes its report the others are left.
use Rattle.std.proofs.Common.{◌≡◌, ℕ, suc, ◌-◌, Bool, true, false, cond, List, [], ◌∷◌, ◌++◌, Option, Some, None, refl, sym, ap, ◌∙◌, subst}
use Rattle.std.specs.Map.{set_value}
use Rattle.std.specs.Str.{bytes_eq}
use Rattle.plain_data.specs.Texts.{Bytes}
use Rattle.session_text.specs.declared.reply.Reply.{Reply}
use Rattle.txn_lang.specs.declared.run.Run.{Run}
use Rattle.txn_lang.specs.States.{PartialState}
use Rattle.txn_lang.specs.Execution.{Ran, need, done, exec}
use Rattle.client_cache.specs.Cached.{held}
use Rattle.rerun_driver.specs.declared.rerun.Rerun.{Rerun}
use Rattle.rerun_driver.specs.declared.rerun.Rerun.TheVariants as rerun
use Rattle.rerun_driver.specs.declared.watch.Watch.{Watch}
use Rattle.rerun_driver.specs.Watches.{Watches, stale_of, watch_of, with_report, settled, first_stale, rerun_of, next_rerun}
use Rattle.watch_reruns.specs.declared.reruns.Reruns.{Reruns}
use Rattle.watch_reruns.specs.declared.reruns.Reruns.TheVariants as reruns
use Rattle.watch_reruns.specs.Reruns.{in_front, begun_by, run_of, watch_rerun, reruns_of, all_reruns, or_again}
use Rattle.call_programs.specs.Programs.{Program, bind}
use Rattle.client_watches.specs.declared.watching.Watching.{Watching}
use Rattle.client_watches.specs.Keeping.{AreDistinct}
use Rattle.client_watches.specs.Lines.{rounds, rerun_one, rerun_by, or_more, catch_up}
use Rattle.client_watches.specs.Lines.{reruns as reruns_in}
use Rattle.client_watches.specs.Watching.{with_rerun, report_of, stale_count}
use Rattle.client_watches.proofs.Names.{same_name, name_itself, reported_in}
use Rattle.client_watches.proofs.Stale.{first-among, rerun_by_first, one-fewer}

-- ---- the first stale watch

-- it is the first that runs: with one in its place that isn't stale the others are left
pub others-among : (ws : Watches) (e : Bytes × Watch) (v : Watch) → AreDistinct ws → first_stale ws ≡ Some e → v.stale ≡ false
    → stale_of ws ≡ (e.0, e.1.body) ∷ stale_of (set_value (bytes_eq e.0) ws v)
others-among [] e v all h fresh = absurd (cc)
others-among (x ∷ ws) e v all h fresh = by x.1.stale refl h (others-among ws e v all.1)
  where
    left : List (Bytes × Watch)
    left = set_value (bytes_eq e.0) ws v

    here : x.1.stale ≡ true → stale_of (x ∷ ws) ≡ (x.0, x.1.body) ∷ stale_of (set_value (bytes_eq x.0) (x ∷ ws) v)
    here stale =
        ap (λ b. cond b ((x.0, x.1.body) ∷ stale_of ws) (stale_of ws)) stale
        ∙ ap (λ b. (x.0, x.1.body) ∷ cond b ((x.0, v.body) ∷ stale_of ws) (stale_of ws)) (sym fresh)
        ∙ sym (ap (λ b. (x.0, x.1.body) ∷ stale_of (cond b ((x.0, v) ∷ ws) (x ∷ set_value (bytes_eq x.0) ws v))) (name_itself x.0))

    behind : x.1.stale ≡ false → first_stale ws ≡ Some e → stale_of ws ≡ (e.0, e.1.body) ∷ stale_of left → (b : Bool) → bytes_eq e.0 x.0 ≡ b
        → stale_of (x ∷ ws) ≡ (e.0, e.1.body) ∷ stale_of (set_value (bytes_eq e.0) (x ∷ ws) v)
    behind current f rest true same =
        absurd (let found = (first-among ws e all.1 f).found in let none : watch_of ws e.0 ≡ None = ap (watch_of ws) (same_name e.0 x.0 same) ∙ all.0 in cc)
    behind current f rest false other =
        ap (λ b. cond b ((x.0, x.1.body) ∷ stale_of ws) (stale_of ws)) current ∙ rest
        ∙ ap (λ b. (e.0, e.1.body) ∷ cond b ((x.0, x.1.body) ∷ stale_of left) (stale_of left)) (sym current)
        ∙ sym (ap (λ b. (e.0, e.1.body) ∷ stale_of (cond b ((x.0, v) ∷ ws) (x ∷ left))) other)

    by : (b : Bool) → x.1.stale ≡ b → cond b (Some x) (first_stale ws) ≡ Some e
        → (first_stale ws ≡ Some e → v.stale ≡ false → stale_of ws ≡ (e.0, e.1.body) ∷ stale_of left)
        → stale_of (x ∷ ws) ≡ (e.0, e.1.body) ∷ stale_of (set_value (bytes_eq e.0) (x ∷ ws) v)
    by true stale f rest =
        let same : x ≡ e = cc in
        subst (λ (y : Bytes × Watch). stale_of (x ∷ ws) ≡ (y.0, y.1.body) ∷ stale_of (set_value (bytes_eq y.0) (x ∷ ws) v)) same (here stale)
    by false current f rest = behind current f (rest f fresh) (bytes_eq e.0 x.0) refl

-- where none is stale none runs
pub none-stale : (ws : Watches) → first_stale ws ≡ None → stale_of ws ≡ []
none-stale [] h = refl
none-stale (x ∷ ws) h = by x.1.stale refl h (none-stale ws)
  where
    by : (b : Bool) → x.1.stale ≡ b → cond b (Some x) (first_stale ws) ≡ None → (first_stale ws ≡ None → stale_of ws ≡ [])
        → stale_of (x ∷ ws) ≡ []
    by true stale f rest = absurd (cc)
    by false fresh f rest = ap (λ b. cond b ((x.0, x.1.body) ∷ stale_of ws) (stale_of ws)) fresh ∙ rest f

-- a watch that isn't stale
abbrev pub fresh : Watch → Watch
fresh watch = record watch { stale = false }

-- once the first stale watch takes a report, it is the one that is missing
pub others-left : (ws : Watches) (e : Bytes × Watch) (number : ℕ) (run : Run) → AreDistinct ws → first_stale ws ≡ Some e
    → stale_of ws ≡ (e.0, e.1.body) ∷ stale_of (with_report ws e.0 number run)
others-left ws e number run apart h =
    others-among ws e (settled number run e.1) apart h refl
    ∙ sym (ap (λ o. (e.0, e.1.body) ∷ stale_of (reported_in ws e.0 number run o)) (first-among ws e apart h).found)

-- ---- what runs next

-- where what follows a run is what all reruns come to once it is reported, the next rerun and that are all reruns
pub by-next : (state : PartialState) (number : ℕ) (ws : Watches) (more : Bytes → Run → Reruns) → AreDistinct ws
    → ((e : Bytes × Watch) (run : Run) → first_stale ws ≡ Some e → more e.0 run ≡ all_reruns state (with_report ws e.0 number run))
    → or_again more (next_rerun state ws) ≡ all_reruns state ws
unfolding watch_rerun
by-next state number ws more apart follows = by (first_stale ws) refl
  where
    one : (e : Bytes × Watch) (r : Ran) → first_stale ws ≡ Some e → exec e.1.body.body state ≡ r → or_again more (rerun_of e.0 r) ≡ all_reruns state ws
    one e (need address) f is =
        sym (ap (reruns_of state) (others-among ws e (fresh e.1) apart f refl)
        ∙ ap (λ r. begun_by (run_of e.0 r) (reruns_of state (stale_of (set_value (bytes_eq e.0) ws (fresh e.1))))) is)
    one e (done run) f is =
        let left = with_report ws e.0 number run in
        ap (in_front (e.0, run)) (follows e run f)
        ∙ sym (ap (reruns_of state) (others-left ws e number run apart f) ∙ ap (λ r. begun_by (run_of e.0 r) (reruns_of state (stale_of left))) is)

    by : (o : Option (Bytes × Watch)) → first_stale ws ≡ o → or_again more (next_rerun state ws) ≡ all_reruns state ws
    by None f = ap (λ o. or_again more (rerun_by_first state o)) f ∙ sym (ap (reruns_of state) (none-stale ws f))
    by (Some e) f = ap (λ o. or_again more (rerun_by_first state o)) f ∙ one e (exec e.1.body.body state) f refl

-- all reruns are the next one, and all that follow its report
pub all-by-next : (state : PartialState) (number : ℕ) (ws : Watches) → AreDistinct ws
    → all_reruns state ws ≡ or_again (λ name run. all_reruns state (with_report ws name number run)) (next_rerun state ws)
all-by-next state number ws apart =
    sym (by-next state number ws (λ name run. all_reruns state (with_report ws name number run)) apart (λ e run f. refl))

-- ---- one round

-- there is a first round
first-round : rounds ≡ suc (rounds - 1)
unfolding rounds
first-round = refl

-- a line's reruns begin with what runs next
pub begins : (w : Watching) (said : List Reply) (r : Rerun) → next_rerun (held w.cache) w.watches ≡ r
    → catch_up w said ≡ bind (rerun_by (rerun_one (rounds - 1) said) w said r) (or_more (reruns_in (stale_count w.watches)))
begins w said r e =
    ap (λ (n : ℕ). bind (rerun_one n said w) (or_more (reruns_in (stale_count w.watches)))) first-round
    ∙ ap (λ (x : Rerun). bind (rerun_by (rerun_one (rounds - 1) said) w said x) (or_more (reruns_in (stale_count w.watches)))) e

-- a watch that has run is reported, and the line's reruns go on
pub goes-on : (w : Watching) (said : List Reply) (name : Bytes) (run : Run) → AreDistinct w.watches
    → next_rerun (held w.cache) w.watches ≡ rerun.Ran name run
    → catch_up w said ≡ catch_up (with_rerun w name run) (said ++ report_of w name run ∷ [])
goes-on w said name run all e =
    begins w said (rerun.Ran name run) e
    ∙ ap (λ (n : ℕ). reruns_in n (with_rerun w name run) (said ++ report_of w name run ∷ []))
    (one-fewer (held w.cache) w.watches name w.cache.at run all e)

-- ---- all reruns

-- what follows once a run is reported
abbrev pub after_report : Watching → Bytes → Run → Reruns
after_report w name run = all_reruns (held w.cache) (with_report w.watches name w.cache.at run)

-- all reruns are the next one and what follows
pub all-are : (w : Watching) (r : Rerun) → AreDistinct w.watches → next_rerun (held w.cache) w.watches ≡ r
    → all_reruns (held w.cache) w.watches ≡ or_again (after_report w) r
all-are w r all e = all-by-next (held w.cache) w.cache.at w.watches all ∙ ap (or_again (after_report w)) e

-- where a run is in front, something has run
some-ran : (ran : Bytes × Run) (r : Reruns) → in_front ran r ≡ reruns.Ran [] → ⊥
some-ran ran (reruns.Need address) h = cc
some-ran ran (reruns.Ran list) h = cc

-- it is the first, and the others are behind it
pub first-ran : (ran x : Bytes × Run) (xs : List (Bytes × Run)) (r : Reruns) → in_front ran r ≡ reruns.Ran (x ∷ xs) → (ran ≡ x) × (r ≡ reruns.Ran xs)
first-ran ran x xs (reruns.Need address) h = absurd (cc)
first-ran ran x xs (reruns.Ran list) h = (
  let same : ran ≡ x = cc in same,
  let rest : list ≡ xs = cc in ap reruns.Ran rest,
)

-- none is stale
pub at-end : (w : Watching) (said : List Reply) (r : Rerun) → AreDistinct w.watches → next_rerun (held w.cache) w.watches ≡ r
    → all_reruns (held w.cache) w.watches ≡ reruns.Ran [] → catch_up w said ≡ Program.ends (true, w, said)
at-end w said (rerun.Need address) all e h = absurd (let both : reruns.Need address ≡ reruns.Ran [] = sym (all-are w _ all e) ∙ h in cc)
at-end w said (rerun.Ran name run) all e h = absurd (some-ran (name, run) (after_report w name run) (sym (all-are w _ all e) ∙ h))
at-end w said rerun.NoneLeft all e h = begins w said rerun.NoneLeft e

-- where some have run, the next rerun is the first of them, and once it is reported the others are left
pub next-ran : (w : Watching) (x : Bytes × Run) (xs : List (Bytes × Run)) → AreDistinct w.watches
    → all_reruns (held w.cache) w.watches ≡ reruns.Ran (x ∷ xs)
    → (next_rerun (held w.cache) w.watches ≡ rerun.Ran x.0 x.1) × (after_report w x.0 x.1 ≡ reruns.Ran xs)
next-ran w x xs all h = by (next_rerun (held w.cache) w.watches) refl
  where
    by : (r : Rerun) → next_rerun (held w.cache) w.watches ≡ r
        → (next_rerun (held w.cache) w.watches ≡ rerun.Ran x.0 x.1) × (after_report w x.0 x.1 ≡ reruns.Ran xs)
    by (rerun.Need address) e = absurd (let both : reruns.Need address ≡ reruns.Ran (x ∷ xs) = sym (all-are w _ all e) ∙ h in cc)
    by (rerun.Ran name run) e =
        let found = first-ran (name, run) x xs (after_report w name run) (sym (all-are w _ all e) ∙ h) in (
          e ∙ ap (λ (ran : Bytes × Run). rerun.Ran ran.0 ran.1) found.0,
          ap (λ (ran : Bytes × Run). after_report w ran.0 ran.1) (sym found.0) ∙ found.1,
        )
    by rerun.NoneLeft e = absurd (let both : reruns.Ran [] ≡ reruns.Ran (x ∷ xs) = sym (all-are w _ all e) ∙ h in cc)
