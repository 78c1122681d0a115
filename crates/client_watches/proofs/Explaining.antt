-- The replies to lines pass, part by part, up to a line's goal; and those to `sync`.
use Rattle.std.proofs.Common.{◌≡◌, inl, inr, ℕ, zero, suc, ◌+◌, ◌≤◌, ◌<◌, Bool, true, false, List, [], ◌∷◌, ◌++◌, length}
use Rattle.std.proofs.Common.{Option, Some, None, refl, sym, ap, ◌∙◌, subst, arith}
use Rattle.std.proofs.Math.Seq.{take-length}
use Rattle.rdt_types.specs.declared.address.Address.{Address}
use Rattle.rdt_types.specs.declared.value.Value.{Value}
use Rattle.session_text.specs.declared.reply.Reply.{Reply}
use Rattle.session_text.specs.declared.reply.Reply.TheVariants as reply
use Rattle.txn_lang.specs.States.{Journal, state}
use Rattle.txn_lang.proofs.Observed.{runs_ask_short}
use Rattle.client_cache.specs.Cached.{held}
use Rattle.rerun_driver.specs.declared.rerun.Rerun.{Rerun}
use Rattle.rerun_driver.specs.declared.rerun.Rerun.TheVariants as rerun
use Rattle.rerun_driver.specs.Watches.{Watches, next_rerun}
use Rattle.docc_prepare.specs.Calls.{Known, Call, Answer}
use Rattle.docc_prepare.specs.Backends.{IsAnswered, IsPrefix}
use Rattle.call_programs.specs.Programs.{Program, bind, Succeeds}
use Rattle.call_programs.specs.Safe.{AsksAny}
use Rattle.call_programs.proofs.Programs.{always_more}
use Rattle.client_watches.specs.declared.watching.Watching.{Watching}
use Rattle.client_watches.specs.Watching.{none_loose, with_value, stale_count}
use Rattle.client_watches.specs.Goals.{Goal}
use Rattle.client_watches.specs.Explained.{ShownList, shown_of, Reports, AllHold, IsCutShort, GoalPasses}
use Rattle.client_watches.specs.Laws.{Passes}
use Rattle.client_watches.specs.LineLaws.{SyncIsExplained}
use Rattle.client_watches.specs.Lines.{Told, With, fed, take_feed, fetch, rounds, or_late, rerun_by, rerun_one, or_more, reruns, catch_up}
use Rattle.client_watches.specs.Lines.{drop_idle, current, say_current, ending}
use Rattle.client_watches.specs.Lines.{sync}
use Rattle.client_watches.proofs.Stale.{it-needs, none-if-left}
use Rattle.client_watches.proofs.Kept.{keeps-feed, keeps-rerun}
use Rattle.client_watches.proofs.Stays.{AreUpTo}
use Rattle.client_watches.proofs.Reporting.{all-tell, none-touched, some-touched}
use Rattle.client_watches.proofs.Moving.{stands-value, stands-feed}
use Rattle.client_watches.proofs.Telling.{shown-told, up-to-more, IsNew, Going, IsLeft, going-on}
use Rattle.client_watches.proofs.Answering.{subscribes-feed, going-stays}
use Rattle.client_watches.proofs.Answering.{left-stays, passes-stay}
use Rattle.client_watches.proofs.Hearing.{Sees, IsToldSo, AlwaysTold, then_told, IsToldAt, told_always, StandsSo, Ready, standing, WasLate, IsFetchedSo, Fetched, fetch_so, Dropped, idle_so}
use Rattle.client_watches.proofs.Hearing.{attends_so, begins_so}

-- ---- up to date, and then whatever is the line's goal

module _ (window low : ℕ) (goal : Goal) (story : ShownList) (upto : AreUpTo low story) where
  -- the reports so far
  abbrev pub Goes : Sees → Watching → List Reply → Type 0
  Goes s w said = Going low goal story s.journal w said

  -- what changed was taken
  pub record Taken (t : Sees) (w : Watching) : Type 0 where
    pub ready : Ready window t w
    pub goes : Goes t w []

  pub take_so : (s : Sees) (w : Watching) → StandsSo s w → s.known.window ≡ window → shown_of w.watches ≡ story → low ≤ s.known.seen
      → IsNew story goal → AlwaysTold s (take_feed w) Taken
  take_so s w is same shown below new = (tt, by)
    where
      by : (answer : Answer) (t : Sees) → IsToldSo s Call.take answer t → Succeeds answer → AlwaysTold t (fed w answer) Taken
      by (Answer.feed feed) t told ok =
          let to : feed.to ≡ t.known.seen = told.event.shows.0 in
          let low_to : low ≤ feed.to = (let up = told.event.goes_on.seen in omega arith) in record {
            ready = record {
              keeps = keeps-feed s.known t.known w feed is.keeps to;
              subscribes = subscribes-feed s.known t.known w feed told.event is.subscribes;
              window_is = told.event.client.window ∙ same;
              taken = told.event.goes_on.taken;
            };
            goes = record {
              stands = stands-feed s.known t.known w feed s.journal t.journal is.keeps is.subscribes told.event told.says s.can t.can is.stands;
              shown_at = low_to;
              before = up-to-more low feed.to story low_to upto;
              reports = subst (λ (later : ShownList). Reports t.journal feed.to story [] later) (sym (shown-told feed.changes w.watches ∙ shown)) Reports.no_more;
              new = new;
            };
          }
      by answer t told ok = tt

  -- with one value more
  pub goes_value : (t : Sees) (w : Watching) (address : Address) (value : Value) (said : List Reply) → value ≡ state t.journal w.cache.at address → Goes t w said
      → Goes t (with_value w address value) said
  goes_value t w address value said is h = record {
    stands = stands-value t.journal w address value is h.stands;
    shown_at = h.shown_at;
    before = h.before;
    reports = h.reports;
    new = h.new;
  }

  -- of a journal that has grown
  pub goes_later : (s t : Sees) (w : Watching) (said : List Reply) → IsPrefix s.journal t.journal → Goes s w said → Goes t w said
  goes_later s t w said grows goes = going-stays s.journal t.journal s.can t.can grows low goal story w said goes

  -- ---- cut short

  -- the reports end where a value was late
  pub record IsCut (t : Sees) (w : Watching) (told : List Reply) : Type 0 where
    pub said : List Reply
    pub horizon : ℕ
    pub goes : Goes t w said
    pub below : w.cache.at < horizon
    pub behind : horizon + window ≤ length t.journal
    pub told_is : told ≡ said ++ reply.Late w.cache.at horizon ∷ []

  -- so they do where it was asked for
  pub cut_so : (s t : Sees) (w v : Watching) (late : Reply) (said : List Reply) → IsPrefix s.journal t.journal → WasLate window w late v t.journal
      → Goes s w said → IsCut t v (said ++ late ∷ [])
  cut_so s t w v late said grows is goes = subst (λ (v : Watching). IsCut t v (said ++ late ∷ [])) (sym is.same) (record {
    said = said;
    horizon = is.horizon;
    goes = goes_later s t w said grows goes;
    below = is.below;
    behind = is.behind;
    told_is = ap (λ (r : Reply). said ++ r ∷ []) is.reply_is;
  })

  -- and that passes
  abbrev pub cut_short : (t : Sees) (v : Watching) (told : List Reply) → IsCut t v told → IsCutShort window t.journal low story told (shown_of v.watches)
  cut_short t v told is = record {
    n = v.cache.at;
    horizon = is.horizon;
    shown_at = record { not_back = is.goes.shown_at; within = is.goes.stands.within };
    below = is.below;
    behind = is.behind;
    prefix = is.said;
    reports = is.goes.reports;
    replies_are = is.told_is;
  }

  -- ---- reruns

  -- all are current, or a value was late while a watch was left to run
  abbrev pub Caught : Sees → Bool → Watching → List Reply → Type 0
  Caught t true v told = Goes t v told × AllHold t.journal v.cache.at (shown_of v.watches)
  Caught t false v told = IsCut t v told × IsLeft t.journal v

  -- or more may follow
  abbrev pub Reran : Sees → Option Bool → Watching → List Reply → Type 0
  Reran t None v told = Goes t v told
  Reran t (Some all) v told = Caught t all v told

  pub record RerunSo (t : Sees) (r : With (Option Bool)) : Type 0 where
    pub ready : Ready window t r.1
    pub is : Reran t r.0 r.1 r.2

  pub record CatchSo (t : Sees) (r : With Bool) : Type 0 where
    pub ready : Ready window t r.1
    pub is : Caught t r.0 r.1 r.2

  -- round by round
  rerun_so : (n : ℕ) (s : Sees) (said : List Reply) (w : Watching) → Ready window s w → Goes s w said → AlwaysTold s (rerun_one n said w) RerunSo
  rerun_so zero s said w ready goes = tt
  rerun_so (suc n) s said w ready goes = by (next_rerun (held w.cache) w.watches) refl (λ t v. rerun_so n t said v)
    where
      more : (address : Address) → next_rerun (held w.cache) w.watches ≡ rerun.Need address
          → ((t : Sees) (v : Watching) → Ready window t v → Goes t v said → AlwaysTold t (rerun_one n said v) RerunSo)
          → (t : Sees) (o : Option Reply) (v : Watching) → IsPrefix s.journal t.journal → Ready window t v → IsFetchedSo window w address o v t.journal
          → AlwaysTold t (or_late (rerun_one n said) (Some false) said (o, v)) RerunSo
      more address next on t None v grows here is =
          on t v here (subst (λ (v : Watching). Goes t v said) (sym is.1.0) (goes_value t w address is.0 said is.1.1 (goes_later s t w said grows goes)))
      more address next on t (Some late) v grows here is =
          let needs = it-needs (held w.cache) w.watches address next in
          let left : IsLeft t.journal w =
          left-stays s.journal t.journal s.can t.can grows w goes.stands
          (some-touched s.journal w.cache.at w.watches needs.entry (all-tell s.journal w.cache w.watches goes.stands.watches) needs.first) in
          record {
            ready = here;
            is = (
              cut_so s t w v late said grows is goes,
              subst (λ (v : Watching). IsLeft t.journal v) (sym is.same) left,
            );
          }

      by : (r : Rerun) → next_rerun (held w.cache) w.watches ≡ r
          → ((t : Sees) (v : Watching) → Ready window t v → Goes t v said → AlwaysTold t (rerun_one n said v) RerunSo)
          → AlwaysTold s (rerun_by (rerun_one n said) w said r) RerunSo
      by (rerun.Need address) next on =
          let needs = it-needs (held w.cache) w.watches address next in
          then_told (Fetched window s w address) RerunSo (or_late (rerun_one n said) (Some false) said) s (fetch w address)
          (fetch_so window s w address ready (runs_ask_short.needed needs.entry.1.body.body (held w.cache) address needs.needed) goes.stands.within)
          (λ t r h. more address next on t r.0 r.1 h.grows h.ready h.is)
      by (rerun.Ran name run) next on = record {
        ready = record {
          keeps = keeps-rerun s.known w ready.keeps name run next;
          subscribes = record { rising = ready.subscribes.rising; told = ready.subscribes.told; taken = ready.subscribes.taken };
          window_is = ready.window_is;
          taken = ready.taken;
        };
        is = going-on low goal story s.journal w said name run ready.keeps.names next goes;
      }
      by rerun.NoneLeft next on = record {
        ready = ready;
        is = (
          goes,
          none-touched s.journal w.cache.at w.watches (all-tell s.journal w.cache w.watches goes.stands.watches) (none-if-left (held w.cache) w.watches next),
        );
      }

  -- one watch after another
  reruns_so : (n : ℕ) (s : Sees) (w : Watching) (said : List Reply) → Ready window s w → Goes s w said → AlwaysTold s (reruns n w said) CatchSo
  reruns_so zero s w said ready goes = tt
  reruns_so (suc n) s w said ready goes =
      then_told RerunSo CatchSo (or_more (reruns n)) s (rerun_one rounds said w) (rerun_so rounds s said w ready goes)
      (λ t r h. more (λ t v told. reruns_so n t v told) t r.0 r.1 r.2 h.ready h.is)
    where
      more : ((t : Sees) (v : Watching) (told : List Reply) → Ready window t v → Goes t v told → AlwaysTold t (reruns n v told) CatchSo)
          → (t : Sees) (o : Option Bool) (v : Watching) (told : List Reply) → Ready window t v → Reran t o v told
          → AlwaysTold t (or_more (reruns n) (o, v, told)) CatchSo
      more next t None v told here is = next t v told here is
      more next t (Some all) v told here is = record { ready = here; is = is }

  -- all of them
  pub catch_so : (s : Sees) (w : Watching) (said : List Reply) → Ready window s w → Goes s w said → AlwaysTold s (catch_up w said) CatchSo
  catch_so s w said ready goes = reruns_so (suc (stale_count w.watches)) s w said ready goes

  -- ---- the end

  -- what is kept stands, and the replies pass
  pub record Passed (t : Sees) (told : Told) : Type 0 where
    pub stands : StandsSo t told.0
    pub passes : GoalPasses window t.journal low goal story told.1 (shown_of told.0.watches)

  -- what no watch observes is let go
  pub ending_so : (s : Sees) (told : Told) → Passed s told → AlwaysTold s (ending told) Passed
  ending_so s told is =
      then_told (Dropped s (none_loose told.0)) Passed (λ w. Program.ends (w, told.1)) s (drop_idle told.0) (idle_so s told.0 is.stands)
      (λ t v h. record {
        stands = h.stands;
        passes = subst (λ (ws : Watches). GoalPasses window t.journal low goal story told.1 (shown_of ws)) (sym h.same)
            (passes-stay window low story upto s.journal t.journal s.can t.can h.grows goal told.1 (shown_of told.0.watches) is.passes);
      })

-- what the passing of replies says of a client
pub passes_at : (k l : Known) (w : Watching) (low : ℕ) (goal : Goal) (old : Journal) (upto : AreUpTo low (shown_of w.watches)) (told : Told)
    → IsToldAt old (Passed k.window low goal (shown_of w.watches) upto) l told → Passes k l w told.0 low goal told.1 old
passes_at k l w low goal old upto told h = record {
  new = h.journal;
  goes_on = record { grows = h.grows; attends = attends_so l h.journal h.can told.0 h.told h.so.stands };
  passes = h.so.passes;
}

-- ---- sync

module _ (window low : ℕ) (story : ShownList) (upto : AreUpTo low story) where
  -- all are current, or a value was late
  current_so : (s : Sees) (w : Watching) → Ready window s w → Goes window low Goal.current story upto s w []
      → AlwaysTold s (say_current [] w) (Passed window low Goal.current story upto)
  current_so s w ready goes =
      then_told (CatchSo window low Goal.current story upto) (Passed window low Goal.current story upto) (λ found. Program.ends (current found)) s
      (catch_up w []) (catch_so window low Goal.current story upto s w [] ready goes) (λ t r h. by t r.0 r.1 r.2 h.ready h.is)
    where
      by : (t : Sees) (b : Bool) (v : Watching) (told : List Reply) → Ready window t v → Caught window low Goal.current story upto t b v told
          → Passed window low Goal.current story upto t (current (b, v, told))
      by t true v told here is = record {
        stands = standing window t v here is.0.stands;
        passes = inl (record {
          n = v.cache.at;
          shown_at = record { not_back = is.0.shown_at; within = is.0.stands.within };
          prefix = told;
          reports = is.0.reports;
          all = is.1;
          replies_are = refl;
        });
      }
      by t false v told here is = record {
        stands = standing window t v here is.0.goes.stands;
        passes = inr (record { cut = cut_short window low Goal.current story upto t v told is.0; some = is.1 });
      }

  sync_so : (s : Sees) (w : Watching) → StandsSo s w → s.known.window ≡ window → shown_of w.watches ≡ story → low ≤ s.known.seen
      → AlwaysTold s (sync w) (Passed window low Goal.current story upto)
  sync_so s w stands same shown below =
      then_told (Taken window low Goal.current story upto) (Passed window low Goal.current story upto) (λ v. bind (say_current [] v) ending) s (take_feed w)
      (take_so window low Goal.current story upto s w stands same shown below tt)
      (λ t v h. then_told (Passed window low Goal.current story upto) (Passed window low Goal.current story upto) ending t (say_current [] v)
      (current_so t v h.ready h.goes) (ending_so window low Goal.current story upto))

-- SYNC IS EXPLAINED
pub sync_is_explained : SyncIsExplained
sync_is_explained k w low old is on may =
    let passed = Passed k.window low Goal.current (shown_of w.watches) may.reported in
    always_more AsksAny IsAnswered (Unit {0}) (IsToldAt old passed) (λ l told. Passes k l w told.0 low Goal.current told.1 old) k (sync w)
    (λ l told h. passes_at k l w low Goal.current old may.reported told h)
    (told_always old k.trusted on passed k old is.can (sync w) is.told refl (take-length old)
    (sync_so k.window low (shown_of w.watches) may.reported (record { known = k; journal = old; can = is.can }) w (begins_so k w old is) refl refl may.seen))
