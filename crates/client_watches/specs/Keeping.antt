-- What is kept to between lines and on their way, so that each call that is made is one that the backend takes.
use Rattle.std.specs.Prelude.{◌≡◌, ◌≤◌, List, [], ◌∷◌, None}
use Rattle.std.specs.List.{AllByRecursion}
use Rattle.plain_data.specs.Texts.{Bytes}
use Rattle.txn_lang.specs.declared.run.Seen.{Seen}
use Rattle.txn_lang.specs.Short.{IsShortAddress}
use Rattle.rerun_driver.specs.declared.watch.Watch.{Watch}
use Rattle.rerun_driver.specs.Watches.{Watches, watch_of}
use Rattle.docc_prepare.specs.Calls.{Known}
use Rattle.client_watches.specs.declared.watching.Watching.{Watching}

-- no two watches have one name
abbrev pub AreDistinct : Watches → Type 0
AreDistinct [] = Unit {0}
AreDistinct (entry ∷ watches) = (watch_of watches entry.0 ≡ None) × AreDistinct watches

-- what was observed is at short addresses
abbrev pub AreShort : List Seen → Type 0
AreShort observations = AllByRecursion (λ seen. IsShortAddress seen.address) observations

-- what is kept of watches, whatever the store has
pub record Keeps (k : Known) (w : Watching) : Type 0 where
  pub seen : w.cache.at ≤ k.seen
  pub names : AreDistinct w.watches
  pub short : AllByRecursion (λ (entry : Bytes × Watch). AreShort entry.1.observations) w.watches
  pub loose : AllByRecursion IsShortAddress w.loose
