-- What is kept to stays: after a feed, a value more, a report, a new watch, and once a watch or a value is gone.
use Rattle.std.proofs.Common.{◌≡◌, ℕ, ◌≤◌, Bool, true, false, cond, List, [], ◌∷◌, ◌++◌, Option, Some, None, sym, subst, arith}
use Rattle.std.specs.List.{AllByRecursion}
use Rattle.std.specs.Map.{set_value, remove_entry}
use Rattle.std.specs.Str.{bytes_eq}
use Rattle.plain_data.specs.Texts.{Bytes}
use Rattle.rdt_types.specs.declared.address.Address.{Address}
use Rattle.rdt_types.specs.declared.value.Value.{Value}
use Rattle.rdt_types.specs.DeltaMaps.{Deltas}
use Rattle.change_feed.specs.Feeds.{Fed}
use Rattle.txn_lang.specs.declared.checked.Checked.{Checked}
use Rattle.txn_lang.specs.declared.run.Run.{Run}
use Rattle.txn_lang.specs.declared.run.Seen.{Seen}
use Rattle.txn_lang.specs.Short.{IsShortAddress, IsShortObservation}
use Rattle.txn_lang.specs.States.{PartialState}
use Rattle.txn_lang.specs.Execution.{done, exec}
use Rattle.txn_lang.proofs.Observed.{runs_ask_short}
use Rattle.client_cache.specs.Cached.{held}
use Rattle.rerun_driver.specs.declared.watch.Watch.{Watch}
use Rattle.rerun_driver.specs.declared.rerun.Rerun.TheVariants as rerun
use Rattle.rerun_driver.specs.Watches.{Watches, watch_of, all_told, settled, reported, with_report, next_rerun}
use Rattle.docc_prepare.specs.Calls.{Known}
use Rattle.client_watches.specs.declared.watching.Watching.{Watching}
use Rattle.client_watches.specs.Watching.{none_loose, addresses_of, observed_by, after_feed, with_value, with_rerun, with_first, without}
use Rattle.client_watches.specs.Watching.{IsButForValues}
use Rattle.client_watches.specs.Keeping.{AreDistinct, AreShort, Keeps}
use Rattle.client_watches.proofs.Names.{reported_in, distinct-told, distinct-report, distinct-append, distinct-remove}
use Rattle.client_watches.proofs.Stale.{has-run}

-- the watches' observations are short
abbrev pub AllShort : Watches → Type 0
AllShort ws = AllByRecursion (λ (entry : Bytes × Watch). AreShort entry.1.observations) ws

-- ---- lists

-- what holds of two lists holds of one behind the other
pub each-append : {A : Type 0} (P : A → Type 0) (xs ys : List A) → AllByRecursion P xs → AllByRecursion P ys → AllByRecursion P (xs ++ ys)
each-append P [] ys all more = more
each-append P (x ∷ xs) ys all more = (all.0, each-append P xs ys all.1 more)

-- the addresses of short observations are short
short-addresses : (seen : List Seen) → AreShort seen → AllByRecursion IsShortAddress (addresses_of seen)
short-addresses [] all = tt
short-addresses (z ∷ seen) all = (all.0, short-addresses seen all.1)

-- what a run observed is short
short-run : (body : Checked) (state : PartialState) (run : Run) → exec body.body state ≡ done run → AreShort run.observations
short-run body state run e = all run.observations (runs_ask_short.observed body.body state run e)
  where
    all : (seen : List Seen) → AllByRecursion (λ z. IsShortObservation z.address z.obs) seen → AreShort seen
    all [] h = tt
    all (z ∷ seen) h = (h.0.key, all seen h.1)

-- ---- watches

-- those that are told observed what they did
short-told : (changes : Deltas) (ws : Watches) → AllShort ws → AllShort (all_told changes ws)
short-told changes [] all = tt
short-told changes (x ∷ ws) all = (all.0, short-told changes ws all.1)

-- one in the place of another
short-set : (test : Bytes → Bool) (ws : Watches) (v : Watch) → AllShort ws → AreShort v.observations → AllShort (set_value test ws v)
short-set test [] v all short = tt
short-set test (x ∷ ws) v all short = by (test x.0) (short-set test ws v all.1 short)
  where
    by : (c : Bool) → AllShort (set_value test ws v) → AllShort (cond c ((x.0, v) ∷ ws) (x ∷ set_value test ws v))
    by true rest = (short, all.1)
    by false rest = (all.0, rest)

-- one less
short-remove : (test : Bytes → Bool) (ws : Watches) → AllShort ws → AllShort (remove_entry test ws)
short-remove test [] all = tt
short-remove test (x ∷ ws) all = by (test x.0) (short-remove test ws all.1)
  where
    by : (c : Bool) → AllShort (remove_entry test ws) → AllShort (cond c ws (x ∷ remove_entry test ws))
    by true rest = all.1
    by false rest = (all.0, rest)

-- the report stands in the place of the one before it, where there is one
short-report : (ws : Watches) (name : Bytes) (n : ℕ) (run : Run) → AllShort ws → AreShort run.observations → AllShort (with_report ws name n run)
short-report ws name n run all short = by (watch_of ws name)
  where
    by : (o : Option Watch) → AllShort (reported_in ws name n run o)
    by None = all
    by (Some watch) = short-set (bytes_eq name) ws (settled n run watch) all short

-- what a watch observed is short
short-observed : (ws : Watches) (name : Bytes) → AllShort ws → AllByRecursion IsShortAddress (observed_by (watch_of ws name))
short-observed [] name all = tt
short-observed (x ∷ ws) name all = by (bytes_eq name x.0) (short-observed ws name all.1)
  where
    by : (c : Bool) → AllByRecursion IsShortAddress (observed_by (watch_of ws name))
        → AllByRecursion IsShortAddress (observed_by (cond c (Some x.1) (watch_of ws name)))
    by true rest = short-addresses x.1.observations all.0
    by false rest = rest

-- ---- what is kept

module _ (k l : Known) (w : Watching) (up : k.seen ≤ l.seen) (is : Keeps k w) where
  -- more may be seen
  pub keeps-on : Keeps l w
  keeps-on = record { seen = let s = is.seen in omega arith; names = is.names; short = is.short; loose = is.loose }

  -- a value more, of a short address
  pub keeps-value : (address : Address) (value : Value) → IsShortAddress address → Keeps l (with_value w address value)
  keeps-value address value short = record {
    seen = let s = is.seen in omega arith;
    names = is.names;
    short = is.short;
    loose = each-append IsShortAddress w.loose (address ∷ []) is.loose (short, tt);
  }

  -- nothing but values is another
  pub keeps-values : (v : Watching) → IsButForValues w v → Keeps l v
  keeps-values v same = record {
    seen = let s = is.seen in let at = same.at in omega arith;
    names = subst AreDistinct (sym same.watches) is.names;
    short = subst AllShort (sym same.watches) is.short;
    loose = subst (AllByRecursion IsShortAddress) (sym same.loose) is.loose;
  }

-- a feed that goes as far as what is seen
pub keeps-feed : (k l : Known) (w : Watching) (feed : Fed) → Keeps k w → feed.to ≡ l.seen → Keeps l (after_feed w feed)
keeps-feed k l w feed is e = record {
  seen = omega arith;
  names = distinct-told feed.changes w.watches is.names;
  short = short-told feed.changes w.watches is.short;
  loose = is.loose;
}

module _ (k : Known) (w : Watching) (is : Keeps k w) where
  -- a report of the watch that runs next
  pub keeps-rerun : (name : Bytes) (run : Run) → next_rerun (held w.cache) w.watches ≡ rerun.Ran name run → Keeps k (with_rerun w name run)
  keeps-rerun name run e = let h = has-run (held w.cache) w.watches name run e in record {
    seen = is.seen;
    names = distinct-report w.watches name w.cache.at run is.names;
    short = short-report w.watches name w.cache.at run is.short (short-run h.watch.body (held w.cache) run h.done);
    loose = each-append IsShortAddress w.loose (observed_by (watch_of w.watches name)) is.loose (short-observed w.watches name is.short);
  }

  -- a new watch
  pub keeps-first : (name : Bytes) (body : Checked) (run : Run) → watch_of w.watches name ≡ None → exec body.body (held w.cache) ≡ done run
      → Keeps k (with_first w name body run)
  keeps-first name body run free e = record {
    seen = is.seen;
    names = distinct-append w.watches (name, reported body w.cache.at run) is.names free;
    short = each-append (λ (entry : Bytes × Watch). AreShort entry.1.observations) w.watches ((name, reported body w.cache.at run) ∷ []) is.short
        (short-run body (held w.cache) run e, tt);
    loose = is.loose;
  }

  -- one less
  pub keeps-without : (name : Bytes) → Keeps k (without w name)
  keeps-without name = record {
    seen = is.seen;
    names = distinct-remove (bytes_eq name) w.watches is.names;
    short = short-remove (bytes_eq name) w.watches is.short;
    loose = each-append IsShortAddress w.loose (observed_by (watch_of w.watches name)) is.loose (short-observed w.watches name is.short);
  }

  -- none loose
  pub keeps-none_loose : Keeps k (none_loose w)
  keeps-none_loose = record { seen = is.seen; names = is.names; short = is.short; loose = tt }
