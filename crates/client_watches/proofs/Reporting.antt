-- Reports one by one: each is of the first watch that is stale, and once none is stale all hold.
use Rattle.std.proofs.Common.{◌≡◌, ℕ, Bool, true, false, cond, List, [], ◌∷◌, ◌++◌, Some, None, refl, sym, ap, ◌∙◌, subst}
use Rattle.std.specs.List.{AllByRecursion}
use Rattle.std.specs.Map.{set_value}
use Rattle.std.specs.Str.{bytes_eq}
use Rattle.plain_data.specs.Texts.{Bytes}
use Rattle.session_text.specs.declared.reply.Reply.{Reply}
use Rattle.session_text.specs.declared.reply.Reply.TheVariants as reply
use Rattle.txn_lang.specs.declared.run.Run.{Run}
use Rattle.txn_lang.specs.States.{Journal}
use Rattle.txn_lang.specs.Execution.{done}
use Rattle.journal_core.specs.Changes.{changes}
use Rattle.rerun_driver.specs.declared.watch.Watch.{Watch}
use Rattle.rerun_driver.specs.Touched.{is_touched}
use Rattle.rerun_driver.specs.Watches.{Watches, watch_of, first_stale, settled}
use Rattle.rerun_driver.proofs.Stale.{untouched}
use Rattle.client_cache.specs.Cached.{Cached}
use Rattle.client_watches.specs.Keeping.{AreDistinct}
use Rattle.client_watches.specs.Standing.{WatchStands}
use Rattle.client_watches.specs.Explained.{Shown, ShownList, shown_of, observed_in, run_at, IsOutcomeAt, touched, reported_at, Reports, AllHold}
use Rattle.client_watches.proofs.Names.{same_name, name_itself}
use Rattle.client_watches.proofs.Stale.{first-among}

-- ---- the first stale watch, in whose place another stands

-- the first watch that stands stale, this one, has the other in its place
pub data Replaced (e : Bytes × Watch) (v : Watch) : Watches → Watches → Type 0 where
  here : {ws : Watches} → Replaced e v (e ∷ ws) ((e.0, v) ∷ ws)
  behind : {ws vs : Watches} (x : Bytes × Watch) → x.1.stale ≡ false → Replaced e v ws vs → Replaced e v (x ∷ ws) (x ∷ vs)

-- by its name, where names differ
pub replaced : (ws : Watches) (e : Bytes × Watch) (v : Watch) → AreDistinct ws → first_stale ws ≡ Some e
    → Replaced e v ws (set_value (bytes_eq e.0) ws v)
replaced [] e v all h = absurd (cc)
replaced (x ∷ ws) e v all h = by x.1.stale refl h (λ f. replaced ws e v all.1 f)
  where
    first : (y : Bytes × Watch) → y ≡ x → Replaced y v (x ∷ ws) (set_value (bytes_eq y.0) (x ∷ ws) v)
    first y same = subst (λ (z : Bytes × Watch). Replaced z v (x ∷ ws) (set_value (bytes_eq z.0) (x ∷ ws) v)) (sym same)
        (subst (λ b. Replaced x v (x ∷ ws) (cond b ((x.0, v) ∷ ws) (x ∷ set_value (bytes_eq x.0) ws v))) (sym (name_itself x.0)) Replaced.here)

    other : (b : Bool) → bytes_eq e.0 x.0 ≡ b → x.1.stale ≡ false → first_stale ws ≡ Some e
        → Replaced e v ws (set_value (bytes_eq e.0) ws v)
        → Replaced e v (x ∷ ws) (cond b ((x.0, v) ∷ ws) (x ∷ set_value (bytes_eq e.0) ws v))
    other true is fresh f more = absurd (
        let same = same_name e.0 x.0 is in
        let none : watch_of ws e.0 ≡ None = ap (watch_of ws) same ∙ all.0 in
        let found = (first-among ws e all.1 f).found in cc)
    other false is fresh f more = Replaced.behind x fresh more

    by : (b : Bool) → x.1.stale ≡ b → cond b (Some x) (first_stale ws) ≡ Some e
        → (first_stale ws ≡ Some e → Replaced e v ws (set_value (bytes_eq e.0) ws v)) → Replaced e v (x ∷ ws) (set_value (bytes_eq e.0) (x ∷ ws) v)
    by true stale f more = first e (let same : e ≡ x = cc in same)
    by false fresh f more = other (bytes_eq e.0 x.0) refl fresh f (more f)

-- ---- what stale means

-- what is shown of one
abbrev pub shown_one : Watch → Shown
shown_one watch = record { body = watch.body; number = watch.number }

-- each is stale where it is touched
abbrev pub TellTouched : Journal → ℕ → Watches → Type 0
TellTouched journal n ws = AllByRecursion (λ (entry : Bytes × Watch). touched journal n (shown_one entry.1) ≡ entry.1.stale) ws

-- a watch that stands is stale exactly where what its run observed is touched
pub stands-tells : (journal : Journal) (cache : Cached) (w : Watch) → WatchStands journal cache w → touched journal cache.at (shown_one w) ≡ w.stale
stands-tells journal cache w is =
    ap (λ r. is_touched (changes journal) w.number cache.at (observed_in r)) is.ran
    ∙ ap (is_touched (changes journal) w.number cache.at) is.observed ∙ sym is.stale

-- so are all
pub all-tell : (journal : Journal) (cache : Cached) (ws : Watches) → AllByRecursion (λ (entry : Bytes × Watch). WatchStands journal cache entry.1) ws
    → TellTouched journal cache.at ws
all-tell journal cache [] all = tt
all-tell journal cache (x ∷ ws) all = (stands-tells journal cache x.1 all.0, all-tell journal cache ws all.1)

-- none is stale: all hold
pub none-touched : (journal : Journal) (n : ℕ) (ws : Watches) → TellTouched journal n ws → first_stale ws ≡ None → AllHold journal n (shown_of ws)
none-touched journal n [] tell none = tt
none-touched journal n (x ∷ ws) tell none = by x.1.stale refl none (λ h. none-touched journal n ws tell.1 h)
  where
    by : (b : Bool) → x.1.stale ≡ b → cond b (Some x) (first_stale ws) ≡ None → (first_stale ws ≡ None → AllHold journal n (shown_of ws))
        → AllHold journal n (shown_of (x ∷ ws))
    by true is h rest = absurd (cc)
    by false is h rest = (tell.0 ∙ is, rest h)

-- one is stale: not all hold
pub some-touched : (journal : Journal) (n : ℕ) (ws : Watches) (e : Bytes × Watch) → TellTouched journal n ws → first_stale ws ≡ Some e
    → AllHold journal n (shown_of ws) → ⊥
some-touched journal n [] e tell first holds = cc
some-touched journal n (x ∷ ws) e tell first holds = by x.1.stale refl first (λ h. some-touched journal n ws e tell.1 h holds.1)
  where
    by : (b : Bool) → x.1.stale ≡ b → cond b (Some x) (first_stale ws) ≡ Some e → (first_stale ws ≡ Some e → ⊥) → ⊥
    by true is h rest = let fresh = holds.0 in let told = tell.0 in cc
    by false is h rest = rest h

-- ---- one report more

module _ (journal : Journal) (n : ℕ) (e : Bytes × Watch) (run : Run) (stale : e.1.stale ≡ true) (ran : run_at journal n e.1.body ≡ done run) where
  abbrev it : Reply
  it = reply.Ran e.0 n run.outcome

  -- a report is kept in the place of the watch that ran
  abbrev Next : Watches → Watches → Type 0
  Next ws vs = Replaced e (settled n run e.1) ws vs

  -- its outcome is that of the run that was made
  outcome_is : IsOutcomeAt journal e.1.body n run.outcome
  outcome_is = record { run = run; ran = ran; outcome_is = refl }

  -- where no watch before it was reported
  first-report : (ws vs : Watches) → Next ws vs → TellTouched journal n ws → Reports journal n (shown_of ws) (it ∷ []) (shown_of vs)
  first-report ws vs Replaced.here tell = Reports.reports e.0 (shown_one e.1) run.outcome (tell.0 ∙ stale) outcome_is Reports.no_more
  first-report ws vs (Replaced.behind {ws = us} {vs = ts} x fresh rest) tell =
      Reports.untouched x.0 (shown_one x.1) (tell.0 ∙ fresh) (first-report us ts rest tell.1)

  -- a watch that isn't touched, or was reported just now, isn't the stale one
  not-touched : (z : Bytes × Shown) (us : Watches) (later : ShownList) → touched journal n z.1 ≡ false → z ∷ later ≡ shown_of (e ∷ us)
      → TellTouched journal n (e ∷ us) → ⊥
  not-touched z us later fresh same tell =
      let is : z.1 ≡ shown_one e.1 = cc in
      let here : touched journal n z.1 ≡ true = ap (touched journal n) is ∙ tell.0 ∙ stale in cc

  -- behind other reports
  pub one-report : (story : ShownList) (said : List Reply) (zs : ShownList) (ws vs : Watches) → Reports journal n story said zs → zs ≡ shown_of ws
      → Next ws vs → TellTouched journal n ws → Reports journal n story (said ++ it ∷ []) (shown_of vs)
  one-report story said zs ws vs Reports.no_more same next tell =
      subst (λ (all : ShownList). Reports journal n all (it ∷ []) (shown_of vs)) (sym same) (first-report ws vs next tell)
  one-report story said zs ws vs (Reports.untouched {watches = xs} {later = later} {replies = rs} name w fresh rest) same Replaced.here tell =
      absurd (not-touched (name, w) _ later fresh same tell)
  one-report story said zs ws vs (Reports.untouched {watches = xs} {later = later} {replies = rs} name w fresh rest) same
      (Replaced.behind {ws = us} {vs = ts} x current more) tell =
      let tail : later ≡ shown_of us = cc in
      let head : (name, w) ≡ (x.0, shown_one x.1) = cc in
      subst (λ (z : Bytes × Shown). Reports journal n ((name, w) ∷ xs) (rs ++ it ∷ []) (z ∷ shown_of ts)) head
      (Reports.untouched name w fresh (one-report xs rs later us ts rest tail more tell.1))
  one-report story said zs ws vs (Reports.reports {watches = xs} {later = later} {replies = rs} name w outcome was is rest) same Replaced.here tell =
      absurd (not-touched (name, reported_at n w) _ later (untouched (changes journal) n (observed_in (run_at journal n w.body))) same tell)
  one-report story said zs ws vs (Reports.reports {watches = xs} {later = later} {replies = rs} name w outcome was is rest) same
      (Replaced.behind {ws = us} {vs = ts} x current more) tell =
      let tail : later ≡ shown_of us = cc in
      let head : (name, reported_at n w) ≡ (x.0, shown_one x.1) = cc in
      subst (λ (z : Bytes × Shown). Reports journal n ((name, w) ∷ xs) (reply.Ran name n outcome ∷ rs ++ it ∷ []) (z ∷ shown_of ts)) head
      (Reports.reports name w outcome was is (one-report xs rs later us ts rest tail more tell.1))
