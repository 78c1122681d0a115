-- What stands for the journal stands for it still: after a feed, a value more, a report, a new watch, and once a watch or a value
-- is gone.
use Rattle.std.proofs.Common.{◌≡◌, ℕ, ◌≤◌, Bool, true, false, cond, ◌||◌, List, [], ◌∷◌, ◌++◌, Option, Some, None, option_map}
use Rattle.std.proofs.Common.{is_some, IsSome, refl, sym, ap, ◌∙◌, subst, arith}
use Rattle.std.specs.List.{AllByRecursion}
use Rattle.std.specs.Map.{set_value, remove_entry}
use Rattle.std.specs.BTreeMap.{is_at}
use Rattle.std.specs.Ordering.{is_eq}
use Rattle.std.specs.Str.{bytes_eq}
use Rattle.plain_data.specs.Texts.{Bytes}
use Rattle.rdt_types.specs.declared.address.Address.{Address}
use Rattle.rdt_types.specs.declared.value.Value.{Value}
use Rattle.rdt_types.specs.Addresses.{address_cmp}
use Rattle.rdt_types.specs.DeltaMaps.{delta_at}
use Rattle.change_feed.specs.Pending.{pending}
use Rattle.change_feed.specs.Feeds.{Fed}
use Rattle.client_cache.specs.Histories.{apply_maybe}
use Rattle.client_cache.specs.Cached.{Cached, held, filled, released, advanced}
use Rattle.txn_lang.specs.declared.checked.Checked.{Checked}
use Rattle.txn_lang.specs.declared.run.Run.{Run}
use Rattle.txn_lang.specs.declared.run.Seen.{Seen}
use Rattle.txn_lang.specs.Observed.{Extends, IsThere}
use Rattle.txn_lang.specs.States.{Journal, State, known, state}
use Rattle.txn_lang.specs.Execution.{done, exec}
use Rattle.txn_lang.proofs.Observed.{observed_is_there, runs_stay_done}
use Rattle.journal_core.specs.Changes.{changes, between}
use Rattle.rerun_driver.specs.declared.watch.Watch.{Watch}
use Rattle.rerun_driver.specs.declared.rerun.Rerun.TheVariants as rerun
use Rattle.rerun_driver.specs.Touched.{is_touched}
use Rattle.rerun_driver.specs.Watches.{Watches, all_told, touches, settled, reported, next_rerun, is_observed, is_observed_by}
use Rattle.rerun_driver.proofs.Stale.{touches-pending, touched-joined, untouched}
use Rattle.docc_prepare.specs.Calls.{Known, Call, Answer}
use Rattle.docc_prepare.specs.Backends.{IsAnswered, SaysOfJournal}
use Rattle.client_watches.specs.declared.watching.Watching.{Watching}
use Rattle.client_watches.specs.Watching.{after_feed, with_value, with_rerun, with_first, without, without_value}
use Rattle.client_watches.specs.Keeping.{AreDistinct, Keeps}
use Rattle.client_watches.specs.Standing.{Subscribes, AreHeld, WatchStands, Stands}
use Rattle.docc_prepare.specs.Readable.{CanRead}
use Rattle.client_watches.proofs.Names.{reported_in}
use Rattle.client_watches.proofs.Stale.{has-run, first-among}
use Rattle.client_watches.proofs.Journals.{prefix-state, prefix-touched, journal-kinds, state-between}
use Rattle.client_watches.proofs.Stays.{run-stays}
use Rattle.client_watches.proofs.Values.{Rise, held-advanced, held-filled, held-released, at-same}

-- all watches stand
abbrev pub AllStand : Journal → Cached → Watches → Type 0
AllStand journal cache ws = AllByRecursion (λ (entry : Bytes × Watch). WatchStands journal cache entry.1) ws

-- ---- values

-- what is held is held still where each value stays or another comes in its place
pub held-more : (old new : Cached) (seen : List Seen) → ((a : Address) → IsSome (held old a) → IsSome (held new a)) → AreHeld old seen → AreHeld new seen
held-more old new [] more all = tt
held-more old new (z ∷ seen) more all = (more z.address all.0, held-more old new seen more all.1)

-- the values are some of those that the first commits leave
pub extends-state : (journal : Journal) (w : Watching) → Stands journal w → Extends (held w.cache) (known (state journal w.cache.at))
extends-state journal w is a v found = ap Some (sym (is.values a v found))

-- so a run on them is the run on those
pub run-is : (journal : Journal) (w : Watching) (body : Checked) (run : Run) → Stands journal w → exec body.body (held w.cache) ≡ done run
    → exec body.body (known (state journal w.cache.at)) ≡ done run
run-is journal w body run is e = runs_stay_done body.body (held w.cache) (known (state journal w.cache.at)) run (extends-state journal w is) e

-- and what it observed is held
pub run-held : (w : Watching) (body : Checked) (run : Run) → exec body.body (held w.cache) ≡ done run → AreHeld w.cache run.observations
run-held w body run e = all run.observations (observed_is_there body.body (held w.cache) run e)
  where
    all : (seen : List Seen) → AllByRecursion (IsThere (held w.cache)) seen → AreHeld w.cache seen
    all [] h = tt
    all (z ∷ seen) h = (ap is_some h.0.is, all seen h.1)

-- a watch whose run is reported
pub report-stands : (journal : Journal) (w : Watching) (watch : Watch) (run : Run) → Stands journal w → exec watch.body.body (held w.cache) ≡ done run
    → WatchStands journal w.cache (settled w.cache.at run watch)
report-stands journal w watch run is e = record {
  number = omega arith;
  run = run;
  ran = run-is journal w watch.body run is e;
  observed = refl;
  stale = sym (untouched (changes journal) w.cache.at run.observations);
  held = run-held w watch.body run e;
}

-- ---- one value more

-- it is found at its address, and all that was held is held
pub stands-value : (journal : Journal) (w : Watching) (address : Address) (value : Value) → value ≡ state journal w.cache.at address → Stands journal w
    → Stands journal (with_value w address value)
stands-value journal w address value same is = record {
  within = is.within;
  values = λ a v found. at a v (is_eq (address_cmp a address)) refl (sym (held-filled w.cache address value a) ∙ found);
  watches = all w.watches is.watches;
}
  where
    at : (a : Address) (v : Value) (b : Bool) → is_eq (address_cmp a address) ≡ b → cond b (Some value) (held w.cache a) ≡ Some v
        → v ≡ state journal w.cache.at a
    at a v true e f =
        let v_is : v ≡ value = cc in v_is ∙ same ∙ ap (state journal w.cache.at) (sym (at-same a address e))
    at a v false e f = is.values a v f

    more : (a : Address) → IsSome (held w.cache a) → IsSome (held (filled w.cache address value) a)
    more a some = ap is_some (held-filled w.cache address value a) ∙ by (is_eq (address_cmp a address))
      where
        by : (b : Bool) → is_some (cond b (Some value) (held w.cache a)) ≡ true
        by true = refl
        by false = some

    all : (ws : Watches) → AllStand journal w.cache ws → AllStand journal (filled w.cache address value) ws
    all [] h = tt
    all (x ∷ ws) h = (
      record {
        number = h.0.number;
        run = h.0.run;
        ran = h.0.ran;
        observed = h.0.observed;
        stale = h.0.stale;
        held = held-more w.cache (filled w.cache address value) x.1.observations more h.0.held;
      },
      all ws h.1,
    )

-- ---- reports

-- one in the place of another
each-set : (P : Watch → Type 0) (test : Bytes → Bool) (ws : Watches) (v : Watch) → AllByRecursion (λ (entry : Bytes × Watch). P entry.1) ws → P v
    → AllByRecursion (λ (entry : Bytes × Watch). P entry.1) (set_value test ws v)
each-set P test [] v all p = tt
each-set P test (x ∷ ws) v all p = by (test x.0) (each-set P test ws v all.1 p)
  where
    by : (c : Bool) → AllByRecursion (λ (entry : Bytes × Watch). P entry.1) (set_value test ws v)
        → AllByRecursion (λ (entry : Bytes × Watch). P entry.1) (cond c ((x.0, v) ∷ ws) (x ∷ set_value test ws v))
    by true rest = (p, all.1)
    by false rest = (all.0, rest)

-- one less
each-remove : (P : Watch → Type 0) (test : Bytes → Bool) (ws : Watches) → AllByRecursion (λ (entry : Bytes × Watch). P entry.1) ws
    → AllByRecursion (λ (entry : Bytes × Watch). P entry.1) (remove_entry test ws)
each-remove P test [] all = tt
each-remove P test (x ∷ ws) all = by (test x.0) (each-remove P test ws all.1)
  where
    by : (c : Bool) → AllByRecursion (λ (entry : Bytes × Watch). P entry.1) (remove_entry test ws)
        → AllByRecursion (λ (entry : Bytes × Watch). P entry.1) (cond c ws (x ∷ remove_entry test ws))
    by true rest = all.1
    by false rest = (all.0, rest)

-- one more
each-last : (P : Watch → Type 0) (ws : Watches) (e : Bytes × Watch) → AllByRecursion (λ (entry : Bytes × Watch). P entry.1) ws → P e.1
    → AllByRecursion (λ (entry : Bytes × Watch). P entry.1) (ws ++ e ∷ [])
each-last P [] e all p = (p, tt)
each-last P (x ∷ ws) e all p = (all.0, each-last P ws e all.1 p)

-- its report is of the run on the values that are held, and the others are as before
pub stands-rerun : (journal : Journal) (w : Watching) (name : Bytes) (run : Run) → AreDistinct w.watches
    → next_rerun (held w.cache) w.watches ≡ rerun.Ran name run → Stands journal w → Stands journal (with_rerun w name run)
stands-rerun journal w name run distinct e is =
    let h = has-run (held w.cache) w.watches name run e in
    let found = (first-among w.watches (name, h.watch) distinct h.first).found in record {
      within = is.within;
      values = is.values;
      watches = subst (λ o. AllStand journal w.cache (reported_in w.watches name w.cache.at run o)) (sym found)
          (each-set (WatchStands journal w.cache) (bytes_eq name) w.watches (settled w.cache.at run h.watch) is.watches
          (report-stands journal w h.watch run is h.done));
    }

-- ---- a new watch, and one less

-- its report is of the run on the values that are held
pub stands-first : (journal : Journal) (w : Watching) (name : Bytes) (body : Checked) (run : Run) → exec body.body (held w.cache) ≡ done run
    → Stands journal w → Stands journal (with_first w name body run)
stands-first journal w name body run e is = record {
  within = is.within;
  values = is.values;
  watches = each-last (WatchStands journal w.cache) w.watches (name, reported body w.cache.at run) is.watches
      (report-stands journal w (reported body w.cache.at run) run is e);
}

-- the others are as before
pub stands-without : (journal : Journal) (w : Watching) (name : Bytes) → Stands journal w → Stands journal (without w name)
stands-without journal w name is = record {
  within = is.within;
  values = is.values;
  watches = each-remove (WatchStands journal w.cache) (bytes_eq name) w.watches is.watches;
}

-- ---- one value less

module _ (journal : Journal) (w : Watching) (address : Address) (rising : Rise w.cache.values) (idle : is_observed w.watches address ≡ false)
    (is : Stands journal w) where
  -- what is held elsewhere stays
  stays-elsewhere : (a : Address) → is_at (address_cmp address) a ≡ false → IsSome (held w.cache a) → IsSome (held (released w.cache address) a)
  stays-elsewhere a other some =
      ap is_some (held-released w.cache address a rising ∙ ap (λ b. cond b None (held w.cache a)) other) ∙ some

  -- what no run observed there
  kept : (seen : List Seen) → is_observed_by address seen ≡ false → AreHeld w.cache seen → AreHeld (released w.cache address) seen
  kept [] none all = tt
  kept (z ∷ seen) none all = by (is_at (address_cmp address) z.address) refl none (λ h. kept seen h all.1)
    where
      by : (b : Bool) → is_at (address_cmp address) z.address ≡ b → (b || is_observed_by address seen) ≡ false
          → (is_observed_by address seen ≡ false → AreHeld (released w.cache address) seen) → AreHeld (released w.cache address) (z ∷ seen)
      by true e h rest = absurd (cc)
      by false e h rest = (stays-elsewhere z.address e all.0, rest h)

  -- so all stand where none observed it
  others : (ws : Watches) → is_observed ws address ≡ false → AllStand journal w.cache ws → AllStand journal (released w.cache address) ws
  others [] none all = tt
  others (x ∷ ws) none all = by (is_observed_by address x.1.observations) refl none (λ h. others ws h all.1)
    where
      by : (b : Bool) → is_observed_by address x.1.observations ≡ b → (b || is_observed ws address) ≡ false
          → (is_observed ws address ≡ false → AllStand journal (released w.cache address) ws) → AllStand journal (released w.cache address) (x ∷ ws)
      by true e h rest = absurd (cc)
      by false e h rest = (
        record {
          number = all.0.number;
          run = all.0.run;
          ran = all.0.ran;
          observed = all.0.observed;
          stale = all.0.stale;
          held = kept x.1.observations e all.0.held;
        },
        rest h,
      )

  -- no watch rests on the value, and the other values are as before
  pub stands-without_value : Stands journal (without_value w address)
  stands-without_value = record {
    within = is.within;
    values = λ a v found. at a v (is_at (address_cmp address) a) (sym (held-released w.cache address a rising) ∙ found);
    watches = others w.watches idle is.watches;
  }
    where
      at : (a : Address) (v : Value) (b : Bool) → cond b None (held w.cache a) ≡ Some v → v ≡ state journal w.cache.at a
      at a v true f = absurd (cc)
      at a v false f = is.values a v f

-- ---- a feed

module _ (k l : Known) (w : Watching) (feed : Fed) (old new : Journal) (keeps : Keeps k w) (subscribes : Subscribes k w)
    (event : IsAnswered k Call.take (Answer.feed feed) l) (says : SaysOfJournal k l Call.take (Answer.feed feed) old new)
    (could : CanRead old) (can : CanRead new) (is : Stands old w) where
  -- the feed goes up to what is seen, which isn't below what was seen before
  forward : w.cache.at ≤ feed.to
  forward = let s = keeps.seen in let up = event.goes_on.seen in let to = event.shows.0 in omega arith

  -- at an address at which a value is held the feed has what is pending there
  has-pending : (a : Address) (v : Value) → held w.cache a ≡ Some v → delta_at feed.changes a ≡ pending a (between w.cache.at feed.to (changes new))
  has-pending a v found =
      says.row a ∙ ap (λ b. cond b (pending a (between k.taken l.seen (changes new))) None) (subscribes.told a v found)
      ∙ ap (λ (n : ℕ). pending a (between n l.seen (changes new))) (subscribes.taken a v found)
      ∙ ap (λ (n : ℕ). pending a (between w.cache.at n (changes new))) (sym event.shows.0)

  -- a value that is held, after the feed
  fed : Address → Option Value → Option Value
  fed a o = option_map (apply_maybe (delta_at feed.changes a)) o

  -- each value is that at the later number
  fed-values : (a : Address) (v : Value) → held (advanced w.cache feed) a ≡ Some v → v ≡ state new feed.to a
  fed-values a v found = by (held w.cache a) refl (sym (held-advanced w.cache feed a) ∙ found)
    where
      by : (o : Option Value) → held w.cache a ≡ o → option_map (apply_maybe (delta_at feed.changes a)) o ≡ Some v → v ≡ state new feed.to a
      by None e f = absurd (cc)
      by (Some u) e f =
          let v_is : v ≡ apply_maybe (delta_at feed.changes a) u = cc in
          v_is
          ∙ ap (λ d. apply_maybe d u) (has-pending a u e)
          ∙ ap (apply_maybe (pending a (between w.cache.at feed.to (changes new))))
          (is.values a u e ∙ ap (λ (s : State). s a) (sym (prefix-state old new w.cache.at says.grows is.within)))
          ∙ sym (state-between new w.cache.at feed.to a forward can)

  -- what is held is held still
  fed-held : (a : Address) → IsSome (held w.cache a) → IsSome (held (advanced w.cache feed) a)
  fed-held a some = ap is_some (held-advanced w.cache feed a) ∙ by (held w.cache a) some
    where
      by : (o : Option Value) → IsSome o → is_some (option_map (apply_maybe (delta_at feed.changes a)) o) ≡ true
      by None h = absurd (cc)
      by (Some v) h = refl

  -- the feed has what is pending of all that was observed
  pending-all : (seen : List Seen) → AreHeld w.cache seen
      → AllByRecursion (λ z. delta_at feed.changes z.address ≡ pending z.address (between w.cache.at feed.to (changes new))) seen
  pending-all [] all = tt
  pending-all (z ∷ seen) all = (by (held w.cache z.address) refl all.0, pending-all seen all.1)
    where
      by : (o : Option Value) → held w.cache z.address ≡ o → IsSome o
          → delta_at feed.changes z.address ≡ pending z.address (between w.cache.at feed.to (changes new))
      by None e h = absurd (cc)
      by (Some v) e h = has-pending z.address v e

  -- a watch is stale then where it was touched
  fed-stale : (x : Watch) → WatchStands old w.cache x
      → (x.stale || touches feed.changes x.observations) ≡ is_touched (changes new) x.number feed.to x.observations
  fed-stale x h =
      let was : x.stale ≡ is_touched (changes new) x.number w.cache.at x.observations =
      h.stale ∙ sym (prefix-touched old new x.number w.cache.at x.observations could.readable.numbered can.readable.numbered says.grows is.within) in
      let now = touches-pending (changes new) w.cache.at feed x.observations (journal-kinds new can.orderly.kinds) (pending-all x.observations h.held) in
      (λ i. was i || now i) ∙ touched-joined x.number w.cache.at feed.to h.number forward (changes new) x.observations

  -- values and watches are moved on by what the feed has of the commits since
  pub stands-feed : Stands new (after_feed w feed)
  stands-feed = record {
    within = let to = event.shows.0 in let most = says.within in omega arith;
    values = fed-values;
    watches = all w.watches is.watches;
  }
    where
      all : (ws : Watches) → AllStand old w.cache ws → AllStand new (advanced w.cache feed) (all_told feed.changes ws)
      all [] h = tt
      all (x ∷ ws) h = (
        record {
          number = let b = h.0.number in let f = forward in omega arith;
          run = h.0.run;
          ran = run-stays old new could.readable.numbered can.readable.numbered says.grows x.1.number x.1.body
              (let b = h.0.number in let within = is.within in omega arith) ∙ h.0.ran;
          observed = h.0.observed;
          stale = fed-stale x.1 h.0;
          held = held-more w.cache (advanced w.cache feed) x.1.observations fed-held h.0.held;
        },
        all ws h.1,
      )
