-- A line's reruns by what runs next: a watch that has run is reported, and the others are left.
use Rattle.std.proofs.Common.{◌≡◌, ◌-◌, true, false, Some, List, [], ◌∷◌, ◌++◌, append_assoc, refl, sym, ap, ◌∙◌, subst}
use Rattle.std.proofs.lemmas.List.{append-nil}
use Rattle.plain_data.specs.Texts.{Bytes}
use Rattle.rdt_types.specs.declared.address.Address.{Address}
use Rattle.session_text.specs.declared.reply.Reply.{Reply}
use Rattle.txn_lang.specs.declared.checked.Checked.{Checked}
use Rattle.txn_lang.specs.declared.run.Run.{Run}
use Rattle.txn_lang.specs.States.{PartialState}
use Rattle.txn_lang.specs.Execution.{Ran, need, done, exec}
use Rattle.client_cache.specs.Cached.{held}
use Rattle.rerun_driver.specs.declared.rerun.Rerun.{Rerun}
use Rattle.rerun_driver.specs.declared.rerun.Rerun.TheVariants as rerun
use Rattle.rerun_driver.specs.Watches.{Bodies, stale_of, next_rerun, with_report}
use Rattle.docc_prepare.specs.Calls.{Answer}
use Rattle.call_programs.specs.Programs.{Program, bind}
use Rattle.client_watches.specs.declared.watching.Watching.{Watching}
use Rattle.client_watches.specs.Watching.{with_rerun, report_of, stale_count}
use Rattle.client_watches.specs.Keeping.{AreDistinct}
use Rattle.client_watches.specs.Lines.{rounds, read, rerun_one, or_late, or_more, catch_up}
use Rattle.client_watches.specs.Lines.{reruns as reruns_in}
use Rattle.client_watches.proofs.Names.{distinct-report}
use Rattle.client_watches.proofs.Reruns.{fresh, others-left, others-among, begins, goes-on, after_report, all-are, first-ran, at-end}
use Rattle.client_watches.proofs.Stale.{it-needs, has-run}
use Rattle.watch_reruns.specs.declared.reruns.Reruns.{Reruns}
use Rattle.watch_reruns.specs.declared.reruns.Reruns.TheVariants as reruns
use Rattle.watch_reruns.specs.Reruns.{in_front, reruns_of, all_reruns}
use Rattle.rerun_lines.specs.AtOnce.{with_reruns, reports_of, done_by, runs_before, AsksFirst, RerunsAtOnce, NeedsAreAsked}

-- the replies to the first of some runs, and to the others
reports-on : (w : Watching) (said : List Reply) (name : Bytes) (run : Run) (others : List (Bytes × Run))
    → (said ++ report_of w name run ∷ []) ++ reports_of w others ≡ said ++ reports_of w ((name, run) ∷ others)
reports-on w said name run others = append_assoc said (report_of w name run ∷ []) (reports_of w others)

-- where one behind a run needs a value, all do
behind-needs : (ran : Bytes × Run) (address : Address) (r : Reruns) → in_front ran r ≡ reruns.Need address → r ≡ reruns.Need address
behind-needs ran address (reruns.Need other) h = h
behind-needs ran address (reruns.Ran list) h = absurd (cc)

-- ---- no value is missing

-- one has run, and the others are known
abbrev Ends : Watching → List Reply → List (Bytes × Run) → Type 0
Ends w said list = catch_up w said ≡ Program.ends (true, with_reruns w list, said ++ reports_of w list)

one-more : (w : Watching) (said : List Reply) (x : Bytes × Run) (xs : List (Bytes × Run)) (r : Rerun) → AreDistinct w.watches
    → next_rerun (held w.cache) w.watches ≡ r → all_reruns (held w.cache) w.watches ≡ reruns.Ran (x ∷ xs)
    → ((name : Bytes) (run : Run) → after_report w name run ≡ reruns.Ran xs
    → Ends (with_rerun w name run) (said ++ report_of w name run ∷ []) xs)
    → Ends w said (x ∷ xs)
one-more w said x xs (rerun.Need address) all e h rest =
    absurd (let both : reruns.Need address ≡ reruns.Ran (x ∷ xs) = sym (all-are w _ all e) ∙ h in cc)
one-more w said x xs (rerun.Ran name run) all e h rest =
    let found = first-ran (name, run) x xs (after_report w name run) (sym (all-are w _ all e) ∙ h) in
    subst (λ (ran : Bytes × Run). Ends w said (ran ∷ xs)) found.0
    (goes-on w said name run all e ∙ rest name run found.1
    ∙ ap (λ (s : List Reply). Program.ends (true, with_reruns w ((name, run) ∷ xs), s)) (reports-on w said name run xs))
one-more w said x xs rerun.NoneLeft all e h rest =
    absurd (let both : reruns.Ran [] ≡ reruns.Ran (x ∷ xs) = sym (all-are w _ all e) ∙ h in cc)

pub at-once : RerunsAtOnce
at-once w said [] all h =
    at-end w said (next_rerun (held w.cache) w.watches) all refl h
    ∙ ap (λ (s : List Reply). Program.ends (true, w, s)) (sym (append-nil said))
at-once w said (x ∷ xs) all h =
    one-more w said x xs (next_rerun (held w.cache) w.watches) all refl h (λ name run e.
    at-once (with_rerun w name run) (said ++ report_of w name run ∷ []) xs (distinct-report w.watches name w.cache.at run all) e)

-- ---- a value is missing

-- what is said of a line whose runs before the first that needs a value are known
abbrev Asks : Watching → List Reply → Address → List (Bytes × Run) → Type 0
Asks w said address before = AsksFirst address w.cache.at (with_reruns w before) (said ++ reports_of w before) (catch_up w said)

-- the first needs it
asks-here : (w : Watching) (said : List Reply) (address : Address) → next_rerun (held w.cache) w.watches ≡ rerun.Need address
    → Asks w said address []
asks-here w said address e = subst (λ (s : List Reply). AsksFirst address w.cache.at w s (catch_up w said)) (sym (append-nil said)) (record {
  next = λ (answer : Answer).
      bind (bind (read w address answer) (or_late (rerun_one (rounds - 1) said) (Some false) said)) (or_more (reruns_in (stale_count w.watches)));
  asks = begins w said (rerun.Need address) e;
  late = λ n horizon. refl;
})

-- one behind the first does
asks-behind : (w : Watching) (said : List Reply) (address : Address) (name : Bytes) (run : Run) (others : List (Bytes × Run))
    → AreDistinct w.watches → next_rerun (held w.cache) w.watches ≡ rerun.Ran name run
    → Asks (with_rerun w name run) (said ++ report_of w name run ∷ []) address others → Asks w said address ((name, run) ∷ others)
asks-behind w said address name run others all e rest =
    subst (λ p. AsksFirst address w.cache.at (with_reruns w ((name, run) ∷ others)) (said ++ reports_of w ((name, run) ∷ others)) p)
    (sym (goes-on w said name run all e))
    (subst
    (λ (s : List Reply). AsksFirst address w.cache.at (with_reruns w ((name, run) ∷ others)) s
    (catch_up (with_rerun w name run) (said ++ report_of w name run ∷ [])))
    (reports-on w said name run others) rest)

-- the runs before the first that needs a value, by the first body's
before-by : (state : PartialState) (name : Bytes) (body : Checked) (bodies others : Bodies) (r : Ran) → bodies ≡ (name, body) ∷ others
    → exec body.body state ≡ r → runs_before state bodies ≡ done_by name r (runs_before state others)
before-by state name body bodies others r e is = ap (runs_before state) e ∙ ap (λ (x : Ran). done_by name x (runs_before state others)) is

-- by what runs next
asks-next : (b : Bytes × Checked) (bs : Bodies) (w : Watching) (said : List Reply) (address : Address) (r : Rerun) → AreDistinct w.watches
    → next_rerun (held w.cache) w.watches ≡ r → stale_of w.watches ≡ b ∷ bs → all_reruns (held w.cache) w.watches ≡ reruns.Need address
    → ((name : Bytes) (run : Run) → stale_of (with_report w.watches name w.cache.at run) ≡ bs → after_report w name run ≡ reruns.Need address
    → Asks (with_rerun w name run) (said ++ report_of w name run ∷ []) address (runs_before (held w.cache) bs))
    → Asks w said address (runs_before (held w.cache) (b ∷ bs))
asks-next b bs w said address (rerun.Need other) all e is h rest =
    let state = held w.cache in
    let both : reruns.Need other ≡ reruns.Need address = sym (all-are w _ all e) ∙ h in
    let same : other ≡ address = cc in
    let needs = it-needs state w.watches other e in
    let first = others-among w.watches needs.entry (fresh needs.entry.1) all needs.first refl in
    subst (Asks w said address) (sym (before-by state needs.entry.0 needs.entry.1.body (b ∷ bs) _ (need other) (sym is ∙ first) needs.needed))
    (asks-here w said address (e ∙ ap rerun.Need same))
asks-next b bs w said address (rerun.Ran name run) all e is h rest =
    let state = held w.cache in
    let ran = has-run state w.watches name run e in
    let first = sym is ∙ others-left w.watches (name, ran.watch) w.cache.at run all ran.first in
    let left : bs ≡ stale_of (with_report w.watches name w.cache.at run) = cc in
    subst (Asks w said address)
    (sym (before-by state name ran.watch.body (b ∷ bs) _ (done run) first ran.done ∙ ap (λ o. (name, run) ∷ runs_before state o) (sym left)))
    (asks-behind w said address name run (runs_before state bs) all e
    (rest name run (sym left) (behind-needs (name, run) address (after_report w name run) (sym (all-are w _ all e) ∙ h))))
asks-next b bs w said address rerun.NoneLeft all e is h rest =
    absurd (let both : reruns.Ran [] ≡ reruns.Need address = sym (all-are w _ all e) ∙ h in cc)

-- by the bodies that run
asked-of : (bodies : Bodies) (w : Watching) (said : List Reply) (address : Address) → AreDistinct w.watches → stale_of w.watches ≡ bodies
    → all_reruns (held w.cache) w.watches ≡ reruns.Need address → Asks w said address (runs_before (held w.cache) bodies)
asked-of [] w said address all is h =
    absurd (let both : reruns.Ran [] ≡ reruns.Need address = sym (ap (reruns_of (held w.cache)) is) ∙ h in cc)
asked-of (b ∷ bs) w said address all is h =
    asks-next b bs w said address (next_rerun (held w.cache) w.watches) all refl is h (λ name run left e.
    asked-of bs (with_rerun w name run) (said ++ report_of w name run ∷ []) address (distinct-report w.watches name w.cache.at run all) left e)

pub asked : NeedsAreAsked
asked w said address all h = asked-of (stale_of w.watches) w said address all refl h
