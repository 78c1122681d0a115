-- The replies to `watch` pass: behind what is brought up to date a new watch runs.
use Rattle.std.proofs.Common.{◌≡◌, inl, inr, ℕ, zero, suc, ◌≤◌, Bool, true, false, cond, List, [], ◌∷◌}
use Rattle.std.proofs.Common.{Option, Some, None, is_some, refl, sym, ◌∙◌, subst}
use Rattle.std.proofs.Math.Seq.{take-length}
use Rattle.std.specs.Map.{lookup}
use Rattle.std.specs.Str.{bytes_eq}
use Rattle.plain_data.specs.Texts.{Bytes}
use Rattle.rdt_types.specs.declared.address.Address.{Address}
use Rattle.session_text.specs.declared.reply.Reply.{Reply}
use Rattle.session_text.specs.declared.reply.Reply.TheVariants as reply
use Rattle.session_text.specs.declared.reply.Why.TheVariants as why
use Rattle.txn_lang.specs.declared.checked.Checked.{Checked}
use Rattle.txn_lang.specs.declared.run.Run.{Run}
use Rattle.txn_lang.specs.Execution.{Ran, need, done, exec}
use Rattle.txn_lang.specs.States.{Journal}
use Rattle.txn_lang.proofs.Observed.{runs_ask_short}
use Rattle.client_cache.specs.Cached.{held}
use Rattle.rerun_driver.specs.Watches.{Watches, watch_of, reported}
use Rattle.docc_prepare.specs.Backends.{IsAnswered, IsPrefix}
use Rattle.call_programs.specs.Programs.{Program, bind}
use Rattle.call_programs.specs.Safe.{AsksAny, AlwaysEnds}
use Rattle.call_programs.proofs.Programs.{always_more}
use Rattle.client_watches.specs.declared.watching.Watching.{Watching}
use Rattle.client_watches.specs.Watching.{none_loose}
use Rattle.client_watches.specs.Goals.{Goal}
use Rattle.client_watches.specs.Explained.{ShownList, shown_of, reported_at, Reports, AllHold, IsUnknown}
use Rattle.client_watches.specs.Laws.{Passes}
use Rattle.client_watches.specs.LineLaws.{WatchIsExplained}
use Rattle.client_watches.specs.Lines.{With, take_feed, fetch, rounds, or_late, catch_up}
use Rattle.client_watches.specs.Lines.{drop_idle, run_by, run_body, made, first_run, then_first, make, ending}
use Rattle.client_watches.proofs.Kept.{keeps-first}
use Rattle.client_watches.proofs.Stays.{AreUpTo}
use Rattle.client_watches.proofs.Moving.{run-is, stands-first}
use Rattle.client_watches.proofs.Telling.{shown-last, shown-named}
use Rattle.client_watches.proofs.Answering.{holds-stay}
use Rattle.client_watches.proofs.Lined.{free-name}
use Rattle.client_watches.proofs.Hearing.{Sees, AlwaysTold, then_told, IsToldAt, told_always, StandsSo, Ready, standing, IsFetchedSo, Fetched, fetch_so, Dropped, idle_so}
use Rattle.client_watches.proofs.Hearing.{begins_so}
use Rattle.client_watches.proofs.Explaining.{Goes, Taken, take_so, goes_value, goes_later, IsCut, cut_so, cut_short, Caught, CatchSo, catch_so, Passed, ending_so, passes_at}

-- reports change no name
reports-named : (journal : Journal) (n : ℕ) (name : Bytes) (before : ShownList) (replies : List Reply) (later : ShownList)
    → Reports journal n before replies later → is_some (lookup (bytes_eq name) later) ≡ is_some (lookup (bytes_eq name) before)
reports-named journal n name before replies later Reports.no_more = refl
reports-named journal n name before replies later (Reports.untouched {watches = ws} {later = vs} {replies = rs} own watch fresh rest) =
    by (bytes_eq name own) (reports-named journal n name ws rs vs rest)
  where
    by : (b : Bool) → is_some (lookup (bytes_eq name) vs) ≡ is_some (lookup (bytes_eq name) ws)
        → is_some (cond b (Some watch) (lookup (bytes_eq name) vs)) ≡ is_some (cond b (Some watch) (lookup (bytes_eq name) ws))
    by true same = refl
    by false same = same
reports-named journal n name before replies later (Reports.reports {watches = ws} {later = vs} {replies = rs} own watch outcome stale is rest) =
    by (bytes_eq name own) (reports-named journal n name ws rs vs rest)
  where
    by : (b : Bool) → is_some (lookup (bytes_eq name) vs) ≡ is_some (lookup (bytes_eq name) ws)
        → is_some (cond b (Some (reported_at n watch)) (lookup (bytes_eq name) vs)) ≡ is_some (cond b (Some watch) (lookup (bytes_eq name) ws))
    by true same = refl
    by false same = same

module _ (window low : ℕ) (name : Bytes) (body : Checked) (story : ShownList) (upto : AreUpTo low story) where
  abbrev aim : Goal
  aim = Goal.watch name body

  -- the reports so far, and all hold
  pub record Holds (s : Sees) (w : Watching) (said : List Reply) : Type 0 where
    pub goes : Goes window low aim story upto s w said
    pub all : AllHold s.journal w.cache.at (shown_of w.watches)

  -- so it is of a journal that has grown,
  holds_later : (s t : Sees) (w : Watching) (said : List Reply) → IsPrefix s.journal t.journal → Holds s w said → Holds t w said
  holds_later s t w said grows is = record {
    goes = goes_later window low aim story upto s t w said grows is.goes;
    all = holds-stay s.journal t.journal s.can t.can grows w is.goes.stands is.all;
  }

  -- and once values are let go
  holds_dropped : (s t : Sees) (w v : Watching) (said : List Reply) → Dropped s (none_loose w) t v → Holds s w said → Holds t v said
  holds_dropped s t w v said h was =
      let is : Holds t w said = holds_later s t w said h.grows was in record {
        goes = record {
          stands = h.stands.stands;
          shown_at = subst (λ (n : ℕ). low ≤ n) (sym h.at) is.goes.shown_at;
          before = subst (λ (n : ℕ). AreUpTo n story) (sym h.at) is.goes.before;
          reports = subst (λ (n : ℕ). Reports t.journal n story said (shown_of v.watches)) (sym h.at)
              (subst (λ (ws : Watches). Reports t.journal w.cache.at story said (shown_of ws)) (sym h.same) is.goes.reports);
          new = is.goes.new;
        };
        all = subst (λ (n : ℕ). AllHold t.journal n (shown_of v.watches)) (sym h.at)
            (subst (λ (ws : Watches). AllHold t.journal w.cache.at (shown_of ws)) (sym h.same) is.all);
      }

  -- no watch has the name
  is_free : (s : Sees) (w : Watching) (said : List Reply) → Goes window low aim story upto s w said → watch_of w.watches name ≡ None
  is_free s w said goes = free-name (watch_of w.watches name)
      (shown-named w.watches name ∙ reports-named s.journal w.cache.at name story said (shown_of w.watches) goes.reports ∙ goes.new)

  -- a body has run, or a value was late
  abbrev pub RanFirst : Sees → Option Run → Watching → List Reply → Type 0
  RanFirst t None v told = IsCut window low aim story upto t v told
  RanFirst t (Some run) v told = Holds t v told × (exec body.body (held v.cache) ≡ done run)

  pub record RunSo (t : Sees) (r : With (Option Run)) : Type 0 where
    pub ready : Ready window t r.1
    pub is : RanFirst t r.0 r.1 r.2

  -- round by round
  run_so : (n : ℕ) (s : Sees) (said : List Reply) (w : Watching) → Ready window s w → Holds s w said → AlwaysTold s (run_body n body said w) RunSo
  run_so zero s said w ready holds = tt
  run_so (suc n) s said w ready holds = by (exec body.body (held w.cache)) refl (λ t v. run_so n t said v)
    where
      more : (address : Address) → ((t : Sees) (v : Watching) → Ready window t v → Holds t v said → AlwaysTold t (run_body n body said v) RunSo)
          → (t : Sees) (o : Option Reply) (v : Watching) → IsPrefix s.journal t.journal → Ready window t v → IsFetchedSo window w address o v t.journal
          → AlwaysTold t (or_late (run_body n body said) None said (o, v)) RunSo
      more address on t None v grows here is =
          let later : Holds t w said = holds_later s t w said grows holds in
          on t v here (subst (λ (v : Watching). Holds t v said) (sym is.1.0) (record {
            goes = goes_value window low aim story upto t w address is.0 said is.1.1 later.goes;
            all = later.all;
          }))
      more address on t (Some late) v grows here is =
          record { ready = here; is = cut_so window low aim story upto s t w v late said grows is holds.goes }

      by : (r : Ran) → exec body.body (held w.cache) ≡ r
          → ((t : Sees) (v : Watching) → Ready window t v → Holds t v said → AlwaysTold t (run_body n body said v) RunSo)
          → AlwaysTold s (run_by (run_body n body said) w said r) RunSo
      by (need address) ran on =
          then_told (Fetched window s w address) RunSo (or_late (run_body n body said) None said) s (fetch w address)
          (fetch_so window s w address ready (runs_ask_short.needed body.body (held w.cache) address ran) holds.goes.stands.within)
          (λ t r h. more address on t r.0 r.1 h.grows h.ready h.is)
      by (done run) ran on = record { ready = ready; is = (holds, ran) }

  -- it is reported, and watched
  first_so : (s : Sees) (said : List Reply) (w : Watching) → Ready window s w → Holds s w said
      → AlwaysTold s (first_run name body said w) (Passed window low aim story upto)
  first_so s said w ready holds =
      then_told RunSo (Passed window low aim story upto) (λ found. Program.ends (made name body found)) s (run_body rounds body said w)
      (run_so rounds s said w ready holds) (λ t r h. by t r.0 r.1 r.2 h.ready h.is)
    where
      by : (t : Sees) (o : Option Run) (v : Watching) (told : List Reply) → Ready window t v → RanFirst t o v told
          → Passed window low aim story upto t (made name body (o, v, told))
      by t None v told here is = record {
        stands = standing window t v here is.goes.stands;
        passes = inr (is.goes.new, inr (cut_short window low aim story upto t v told is));
      }
      by t (Some run) v told here is = record {
        stands = record {
          keeps = keeps-first t.known v here.keeps name body run (is_free t v told is.0.goes) is.1;
          subscribes = record { rising = here.subscribes.rising; told = here.subscribes.told; taken = here.subscribes.taken };
          stands = stands-first t.journal v name body run is.1 is.0.goes.stands;
        };
        passes = inr (
          is.0.goes.new,
          inl (record {
            n = v.cache.at;
            shown_at = record { not_back = is.0.goes.shown_at; within = is.0.goes.stands.within };
            prefix = told;
            others = shown_of v.watches;
            reports = is.0.goes.reports;
            all = is.0.all;
            outcome = run.outcome;
            outcome_is = record { run = run; ran = run-is t.journal v body run is.0.goes.stands is.1; outcome_is = refl };
            replies_are = refl;
            later_are = shown-last v.watches (name, reported body v.cache.at run);
          }),
        );
      }

  -- all are brought up to date first
  make_so : (s : Sees) (w : Watching) → Ready window s w → Goes window low aim story upto s w []
      → AlwaysTold s (make name body [] w) (Passed window low aim story upto)
  make_so s w ready goes =
      then_told (CatchSo window low aim story upto) (Passed window low aim story upto) (then_first name body) s (catch_up w [])
      (catch_so window low aim story upto s w [] ready goes) (λ t r h. by t r.0 r.1 r.2 h.ready h.is)
    where
      dropped : (t u : Sees) (v x : Watching) → Ready window t v → Dropped t (none_loose v) u x → Ready window u x
      dropped t u v x here h = record {
        keeps = h.stands.keeps;
        subscribes = h.stands.subscribes;
        window_is = h.window ∙ here.window_is;
        taken = h.taken ∙ here.taken ∙ sym h.at;
      }

      by : (t : Sees) (b : Bool) (v : Watching) (told : List Reply) → Ready window t v → Caught window low aim story upto t b v told
          → AlwaysTold t (then_first name body (b, v, told)) (Passed window low aim story upto)
      by t true v told here is =
          then_told (Dropped t (none_loose v)) (Passed window low aim story upto) (first_run name body told) t (drop_idle v)
          (idle_so t v (standing window t v here is.0.stands))
          (λ u x h. first_so u told x (dropped t u v x here h) (holds_dropped t u v x told h (record { goes = is.0; all = is.1 })))
      by t false v told here is = record {
        stands = standing window t v here is.0.goes.stands;
        passes = inr (is.0.goes.new, inr (cut_short window low aim story upto t v told is.0));
      }

  watch_so : (s : Sees) (w : Watching) → StandsSo s w → s.known.window ≡ window → shown_of w.watches ≡ story → low ≤ s.known.seen
      → IsUnknown name story
      → AlwaysTold s (bind (take_feed w) (λ v. bind (make name body [] v) ending)) (Passed window low aim story upto)
  watch_so s w stands same shown below new =
      then_told (Taken window low aim story upto) (Passed window low aim story upto) (λ v. bind (make name body [] v) ending) s (take_feed w)
      (take_so window low aim story upto s w stands same shown below new)
      (λ t v h. then_told (Passed window low aim story upto) (Passed window low aim story upto) ending t (make name body [] v)
      (make_so t v h.ready h.goes) (ending_so window low aim story upto))

-- WATCH IS EXPLAINED
pub watch_is_explained : WatchIsExplained
watch_is_explained k w name body low old is on may = by (is_some (watch_of w.watches name)) refl
  where
    by : (b : Bool) → is_some (watch_of w.watches name) ≡ b → AlwaysEnds k (cond b (Program.ends (w, reply.Refused why.Name ∷ []))
        (bind (take_feed w) (λ v. bind (make name body [] v) ending))) (λ l told. Passes k l w told.0 low (Goal.watch name body) told.1 old)
    by true e = record {
      new = old;
      goes_on = record { grows = take-length old; attends = is };
      passes = inl (sym (shown-named w.watches name) ∙ e, record { replies_are = refl; same = refl });
    }
    by false e =
        let passed = Passed k.window low (Goal.watch name body) (shown_of w.watches) may.reported in
        let p = bind (take_feed w) (λ v. bind (make name body [] v) ending) in
        always_more AsksAny IsAnswered (Unit {0}) (IsToldAt old passed) (λ l told. Passes k l w told.0 low (Goal.watch name body) told.1 old) k p
        (λ l told h. passes_at k l w low (Goal.watch name body) old may.reported told h)
        (told_always old k.trusted on passed k old is.can p is.told refl (take-length old)
        (watch_so k.window low name body (shown_of w.watches) may.reported (record { known = k; journal = old; can = is.can }) w (begins_so k w old is) refl refl
        may.seen (sym (shown-named w.watches name) ∙ e)))
