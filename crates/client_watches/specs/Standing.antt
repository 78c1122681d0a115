-- What is kept of watches stands for the journal, where the backend tells that: the values are those that some prefix leaves, and
-- each watch has the report of its body's run on a prefix, and is stale where it was touched since.
use Rattle.std.specs.Prelude.{◌≡◌, ◌≤◌, true, List, length, Some, IsSome}
use Rattle.std.specs.List.{AllByRecursion}
use Rattle.std.specs.List.Sorted.{IsStrictlySortedBy}
use Rattle.std.specs.Map.{keys_of}
use Rattle.plain_data.specs.Texts.{Bytes}
use Rattle.rdt_types.specs.declared.address.Address.{Address}
use Rattle.rdt_types.specs.declared.value.Value.{Value}
use Rattle.rdt_types.specs.Addresses.{address_cmp}
use Rattle.txn_lang.specs.declared.run.Run.{Run}
use Rattle.txn_lang.specs.declared.run.Seen.{Seen}
use Rattle.txn_lang.specs.States.{Journal, known, state}
use Rattle.txn_lang.specs.Execution.{done, exec}
use Rattle.journal_core.specs.Changes.{changes}
use Rattle.client_cache.specs.Cached.{Cached, held}
use Rattle.rerun_driver.specs.declared.watch.Watch.{Watch}
use Rattle.rerun_driver.specs.Touched.{is_touched}
use Rattle.docc_prepare.specs.Calls.{Known}
use Rattle.client_watches.specs.declared.watching.Watching.{Watching}

-- ---- what the backend tells of

-- Each address at which a value is held is subscribed to, and changes were taken up to where the values go.
pub record Subscribes (k : Known) (w : Watching) : Type 0 where
  pub rising : IsStrictlySortedBy address_cmp (keys_of w.cache.values)
  pub told : (address : Address) (value : Value) → held w.cache address ≡ Some value → k.subscribed address ≡ true
  pub taken : (address : Address) (value : Value) → held w.cache address ≡ Some value → k.taken ≡ w.cache.at

-- ---- what stands for the journal

-- the values of what was observed are held
abbrev pub AreHeld : Cached → List Seen → Type 0
AreHeld cache observations = AllByRecursion (λ seen. IsSome (held cache seen.address)) observations

-- A watch: its last report is that of its body's run on the first so many commits, and it is stale exactly where commits since
-- then touch what that run observed.
pub record WatchStands (journal : Journal) (cache : Cached) (watch : Watch) : Type 0 where
  pub number : watch.number ≤ cache.at
  pub run : Run
  pub ran : exec watch.body.body (known (state journal watch.number)) ≡ done run
  pub observed : run.observations ≡ watch.observations
  pub stale : watch.stale ≡ is_touched (changes journal) watch.number cache.at watch.observations
  pub held : AreHeld cache watch.observations

-- All watches, and the values on which they run.
pub record Stands (journal : Journal) (w : Watching) : Type 0 where
  pub within : w.cache.at ≤ length journal
  pub values : (address : Address) (value : Value) → held w.cache address ≡ Some value → value ≡ state journal w.cache.at address
  pub watches : AllByRecursion (λ (entry : Bytes × Watch). WatchStands journal w.cache entry.1) w.watches
