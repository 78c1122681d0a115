-- Runs on values that are taken from a cache one by one: once such a run is done, or needs what the cache lacks, it is the run on
-- all values of the cache.
use Rattle.std.proofs.Common.{◌≡◌, Bool, true, false, cond, List, [], Some, option_map, refl, sym, ap, ◌∙◌}
use Rattle.std.specs.Map.{lookup}
use Rattle.std.specs.BTreeMap.{insert_entry, is_at}
use Rattle.std.specs.Ordering.{is_eq}
use Rattle.plain_data.proofs.Entries.{equal, lookup-insert_entry}
use Rattle.rdt_types.specs.contracts.address.AddressOrd.TheImpl.Laws as order
use Rattle.rdt_types.specs.declared.address.Address.{Address}
use Rattle.rdt_types.specs.Addresses.{address_cmp}
use Rattle.rdt_types.proofs.Addresses.{address_cmp-equal}
use Rattle.txn_lang.specs.declared.snaps.Snap.{Snap}
use Rattle.txn_lang.specs.States.{PartialState}
use Rattle.txn_lang.specs.Observed.{Extends}
use Rattle.txn_trees.specs.declared.statement.Body.{Body}
use Rattle.txn_eval.specs.Running.{values_of}
use Rattle.client_cache.specs.Cached.{Cached, held}
use Rattle.rerun_driver.specs.declared.rerun.Begun.{Begun}
use Rattle.rerun_driver.specs.BegunRuns.{IsBegun}

-- nothing taken is nothing else than what is there
pub extends-none : (state : PartialState) → Extends (values_of []) state
extends-none state a v e = absurd (cc)

-- one more value of the state
pub extends-more : (snaps : List (Address × Snap)) (state : PartialState) (address : Address) (snap : Snap) → Extends (values_of snaps) state
    → state address ≡ Some snap.value → Extends (values_of (insert_entry address_cmp snaps address snap)) state
extends-more snaps state address snap extends there a v found =
    by (is_eq (address_cmp a address)) refl
    (sym (ap (option_map (λ (s : Snap). s.value)) (lookup-insert_entry address_cmp order.total-law a address snap snaps)) ∙ found)
  where
    by : (b : Bool) → is_eq (address_cmp a address) ≡ b
        → option_map (λ (s : Snap). s.value) (cond b (Some snap) (lookup (is_at (address_cmp a)) snaps)) ≡ Some v → state a ≡ Some v
    by true e is = ap state (address_cmp-equal a address (equal (address_cmp a address) e)) ∙ there ∙ is
    by false e is = extends a v is

-- a run that has begun on what a cache holds has begun on more
pub begun-more : (body : Body) (old new : Cached) (begun : Begun) → Extends (held old) (held new) → IsBegun body old begun → IsBegun body new begun
begun-more body old new begun extends is = record {
  taken = λ a v found. extends a v (is.taken a v found);
  paused = is.paused;
}
