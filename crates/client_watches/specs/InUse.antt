-- What is held is in use: the values that some watch's last run observed, and their changes alone are told.
use Rattle.std.specs.Prelude.{◌≡◌, ℕ, Bool, true, false, not, ◌&&◌, is_some}
use Rattle.std.specs.List.Sorted.{IsStrictlySortedBy}
use Rattle.std.specs.Map.{keys_of}
use Rattle.rdt_types.specs.declared.address.Address.{Address}
use Rattle.rdt_types.specs.Addresses.{address_cmp}
use Rattle.client_cache.specs.Cached.{held}
use Rattle.rerun_driver.specs.Watches.{is_observed}
use Rattle.docc_prepare.specs.Calls.{Known}
use Rattle.docc_prepare.specs.Backends.{IsLater}
use Rattle.docc_prepare.specs.Stores.{HasFollowed}
use Rattle.call_programs.specs.Safe.{AlwaysEnds}
use Rattle.client_watches.specs.declared.watching.Watching.{Watching}
use Rattle.client_watches.specs.Watching.{none_yet, is_idle}
use Rattle.client_watches.specs.GoingOn.{WatchLine}
use Rattle.client_watches.specs.LineLaws.{program_of}

-- IN USE: a value is held at exactly the addresses that some watch's last run observed, and changes are told at exactly these.
pub record HoldsInUse (k : Known) (w : Watching) : Type 0 where
  pub rising : IsStrictlySortedBy address_cmp (keys_of w.cache.values)
  pub held : (address : Address) → is_some (held w.cache address) ≡ is_observed w.watches address
  pub told : (address : Address) → k.subscribed address ≡ is_observed w.watches address

-- A law: so it is where a client begins that is told nothing, and at the end of each line that began so, whatever it was answered;
-- what others do and a shard's following leave it.
pub record LinesLetGo : Type 0 where
  pub none : (k : Known) (at : ℕ) → ((address : Address) → k.subscribed address ≡ false) → HoldsInUse k (none_yet at)
  pub behind : (k : Known) (w : Watching) (line : WatchLine) → HoldsInUse k w → AlwaysEnds k (program_of line w) (λ l told. HoldsInUse l told.0)
  pub others : (k l : Known) (w : Watching) → HoldsInUse k w → IsLater k l → HoldsInUse l w
  pub followed : (k l : Known) (w : Watching) → HoldsInUse k w → HasFollowed k l → HoldsInUse l w

-- ---- worked lines

-- no value is idle then
none-idle : (k : Known) (w : Watching) (address : Address) → HoldsInUse k w → is_idle w address ≡ false
none-idle k w address is = by (is_some (held w.cache address)) (is_observed w.watches address) (is.held address)
  where
    by : (holds observes : Bool) → holds ≡ observes → (holds && not observes) ≡ false
    by true true same = cc
    by false observes same = cc
    by true false same = absurd (cc)

-- and where there is no watch, nothing is told
none-told : (k : Known) (at : ℕ) (address : Address) → HoldsInUse k (none_yet at) → k.subscribed address ≡ false
none-told k at address is = is.told address
