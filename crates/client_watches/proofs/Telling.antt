-- What is shown of watches, and what the reports of a line say of the journal so far.
use Rattle.std.proofs.Common.{◌≡◌, ℕ, ◌≤◌, Bool, true, false, cond, List, [], ◌∷◌, ◌++◌}
use Rattle.std.proofs.Common.{Some, is_some, refl, sym, ap, subst, arith}
use Rattle.std.specs.Map.{lookup}
use Rattle.std.specs.Str.{bytes_eq}
use Rattle.plain_data.specs.Texts.{Bytes}
use Rattle.rdt_types.specs.DeltaMaps.{Deltas}
use Rattle.client_cache.specs.Cached.{Cached, held}
use Rattle.session_text.specs.declared.reply.Reply.{Reply}
use Rattle.session_text.specs.declared.reply.Reply.TheVariants as reply
use Rattle.txn_lang.specs.declared.run.Run.{Run}
use Rattle.txn_lang.specs.States.{Journal}
use Rattle.rerun_driver.specs.declared.watch.Watch.{Watch}
use Rattle.rerun_driver.specs.declared.rerun.Rerun.TheVariants as rerun
use Rattle.rerun_driver.specs.Watches.{Watches, watch_of, all_told, settled, next_rerun}
use Rattle.client_watches.specs.declared.watching.Watching.{Watching}
use Rattle.client_watches.specs.Watching.{with_rerun}
use Rattle.client_watches.specs.Keeping.{AreDistinct}
use Rattle.client_watches.specs.Standing.{Stands}
use Rattle.client_watches.specs.Goals.{Goal}
use Rattle.client_watches.specs.Explained.{ShownList, shown_of, Reports, AllHold, IsUnknown}
use Rattle.client_watches.proofs.Names.{reported_in}
use Rattle.client_watches.proofs.Stale.{has-run, first-among}
use Rattle.client_watches.proofs.Stays.{AreUpTo}
use Rattle.client_watches.proofs.Reporting.{all-tell, one-report, replaced}
use Rattle.client_watches.proofs.Moving.{AllStand, run-is, stands-rerun}

-- ---- what is shown of watches

-- no feed changes that
pub shown-told : (changes : Deltas) (ws : Watches) → shown_of (all_told changes ws) ≡ shown_of ws
shown-told changes [] = refl
shown-told changes (x ∷ ws) = ap (λ (rest : ShownList). (x.0, record { body = x.1.body; number = x.1.number }) ∷ rest) (shown-told changes ws)

-- a new watch is the last
pub shown-last : (ws : Watches) (e : Bytes × Watch) → shown_of (ws ++ e ∷ []) ≡ shown_of ws ++ (e.0, record { body = e.1.body; number = e.1.number }) ∷ []
shown-last [] e = refl
shown-last (x ∷ ws) e = ap (λ (rest : ShownList). (x.0, record { body = x.1.body; number = x.1.number }) ∷ rest) (shown-last ws e)

-- a watch that has a name is shown by it
pub shown-named : (ws : Watches) (name : Bytes) → is_some (watch_of ws name) ≡ is_some (lookup (bytes_eq name) (shown_of ws))
shown-named [] name = refl
shown-named (x ∷ ws) name = by (bytes_eq name x.0) (shown-named ws name)
  where
    by : (b : Bool) → is_some (watch_of ws name) ≡ is_some (lookup (bytes_eq name) (shown_of ws))
        → is_some (cond b (Some x.1) (watch_of ws name))
        ≡ is_some (cond b (Some (record { body = x.1.body; number = x.1.number })) (lookup (bytes_eq name) (shown_of ws)))
    by true rest = refl
    by false rest = rest

-- none was reported past the number of the values
pub all-up-to : (journal : Journal) (cache : Cached) (ws : Watches) → AllStand journal cache ws → AreUpTo cache.at (shown_of ws)
all-up-to journal cache [] all = tt
all-up-to journal cache (x ∷ ws) all = (all.0.number, all-up-to journal cache ws all.1)

-- and so past no greater one
pub up-to-more : (n m : ℕ) (watches : ShownList) → n ≤ m → AreUpTo n watches → AreUpTo m watches
up-to-more n m [] up all = tt
up-to-more n m (x ∷ watches) up all = (let b = all.0 in omega arith, up-to-more n m watches up all.1)

-- ---- reports so far

-- no watch of the story has the name of one that is to be made
abbrev pub IsNew : ShownList → Goal → Type 0
IsNew story Goal.current = Unit {0}
IsNew story (Goal.watch name body) = IsUnknown name story

-- a watch is touched that has not run yet
abbrev pub IsLeft : Journal → Watching → Type 0
IsLeft journal w = AllHold journal w.cache.at (shown_of w.watches) → ⊥

module _ (low : ℕ) (goal : Goal) (story : ShownList) where
  -- the watches are told, and some of them have run
  pub record Going (journal : Journal) (w : Watching) (said : List Reply) : Type 0 where
    pub stands : Stands journal w
    pub shown_at : low ≤ w.cache.at
    pub before : AreUpTo w.cache.at story
    pub reports : Reports journal w.cache.at story said (shown_of w.watches)
    pub new : IsNew story goal

  -- the watch that runs next is reported
  pub going-on : (journal : Journal) (w : Watching) (said : List Reply) (name : Bytes) (run : Run) → AreDistinct w.watches → next_rerun (held w.cache) w.watches ≡ rerun.Ran name run
      → Going journal w said → Going journal (with_rerun w name run) (said ++ reply.Ran name w.cache.at run.outcome ∷ [])
  going-on journal w said name run distinct e going =
      let h = has-run (held w.cache) w.watches name run e in
      let first = first-among w.watches (name, h.watch) distinct h.first in record {
        stands = stands-rerun journal w name run distinct e going.stands;
        shown_at = going.shown_at;
        before = going.before;
        reports = subst (λ o. Reports journal w.cache.at story (said ++ reply.Ran name w.cache.at run.outcome ∷ [])
            (shown_of (reported_in w.watches name w.cache.at run o))) (sym first.found)
            (one-report journal w.cache.at (name, h.watch) run first.stale (run-is journal w h.watch.body run going.stands h.done)
            story said (shown_of w.watches) w.watches _ going.reports refl
            (replaced w.watches (name, h.watch) (settled w.cache.at run h.watch) distinct h.first)
            (all-tell journal w.cache w.watches going.stands.watches));
        new = going.new;
      }
