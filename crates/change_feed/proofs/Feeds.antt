-- What is found at an address of a feed.
use Rattle.std.proofs.Common.{◌≡◌, Bool, true, false, cond, List, [], ◌∷◌, map, filter, Some, None, refl, sym, ap, ◌∙◌}
use Rattle.std.specs.Map.{keys_of}
use Rattle.std.specs.List.{AllByRecursion}
use Rattle.std.specs.List.Sorted.{IsStrictlySortedBy}
use Rattle.std.specs.BTreeMap.{is_at}
use Rattle.std.specs.Ordering.{is_eq}
use Rattle.std.specs.declared.cmp.Ordering.TheVariants.{Less, Equal}
use Rattle.rdt_types.specs.declared.address.Address.{Address}
use Rattle.rdt_types.specs.declared.delta.Delta.{Delta}
use Rattle.rdt_types.specs.Addresses.{address_cmp}
use Rattle.rdt_types.specs.DeltaMaps.{Deltas, delta_at, after_maybe, with_delta}
use Rattle.rdt_types.specs.contracts.address.AddressOrd.TheImpl.Laws as addresses
use Rattle.plain_data.proofs.Entries.{equal, lookup-insert_entry, lookup-alike}
use Rattle.change_feed.specs.declared.change.Change.{Change}
use Rattle.change_feed.specs.Pending.{deltas_at, composed_after}
use Rattle.change_feed.specs.Feeds.{with_changes, after_both, FeedsKeepPending, FeedsJoin}

-- one delta more at an address is found there, after what stood there, and nowhere else
pub delta_at-with_delta : (deltas : Deltas) (address : Address) (delta : Delta) (q : Address)
    → delta_at (with_delta deltas address delta) q
    ≡ cond (is_eq (address_cmp q address)) (Some (after_maybe (delta_at deltas q) delta)) (delta_at deltas q)
delta_at-with_delta deltas address delta q =
    lookup-insert_entry address_cmp addresses.total-law q address (after_maybe (delta_at deltas address) delta) deltas
    ∙ by (is_eq (address_cmp q address)) refl
  where
    by : (b : Bool) → is_eq (address_cmp q address) ≡ b
        → cond b (Some (after_maybe (delta_at deltas address) delta)) (delta_at deltas q)
        ≡ cond b (Some (after_maybe (delta_at deltas q) delta)) (delta_at deltas q)
    by false e = refl
    by true e = ap (λ o. Some (after_maybe o delta)) (sym (lookup-alike address_cmp addresses.total-law q address deltas (equal _ e)))

-- ---- changes one by one

-- change by change: each is composed at its own address with what stood there, and leaves every other as it was
kept_pending : (deltas : Deltas) (changes : List Change) (q : Address)
    → delta_at (with_changes deltas changes) q ≡ composed_after (delta_at deltas q) (deltas_at q changes)
kept_pending deltas [] q = refl
kept_pending deltas (change ∷ changes) q =
    kept_pending (with_delta deltas change.address change.delta) changes q
    ∙ ap (λ o. composed_after o (deltas_at q changes)) (delta_at-with_delta deltas change.address change.delta q)
    ∙ by (is_eq (address_cmp q change.address))
  where
    by : (b : Bool)
        → composed_after (cond b (Some (after_maybe (delta_at deltas q) change.delta)) (delta_at deltas q)) (deltas_at q changes)
        ≡ composed_after (delta_at deltas q) (map (λ c. c.delta) (cond b (change ∷ filter (λ c. is_at (address_cmp q) c.address) changes)
        (filter (λ c. is_at (address_cmp q) c.address) changes)))
    by true = refl
    by false = refl

-- a feed begins with nothing, and so its deltas are composed as what is pending is
pub feeds_keep_pending : FeedsKeepPending
feeds_keep_pending changes q = kept_pending [] changes q

-- ---- feeds that are joined

-- at an address below all others nothing is found among them
pub none_behind : (q address : Address) (deltas : Deltas) → address_cmp q address ≡ Equal
    → AllByRecursion (λ y. address_cmp address y ≡ Less) (keys_of deltas) → delta_at deltas q ≡ None
none_behind q address [] same below = refl
none_behind q address (pair ∷ deltas) same below =
    ap (λ r. cond (is_eq r) (Some pair.1) (delta_at deltas q)) (addresses.total-law.congr q address pair.0 same ∙ below.0)
    ∙ none_behind q address deltas same below.1

-- pair by pair: each is added at its address, and since addresses rise no later pair is at the same one
pub feeds_join : FeedsJoin
unfolding IsStrictlySortedBy
feeds_join changes [] q rising = refl
feeds_join changes (pair ∷ later) q rising =
    feeds_join (with_delta changes pair.0 pair.1) later q rising.1
    ∙ ap (λ o. after_both o (delta_at later q)) (delta_at-with_delta changes pair.0 pair.1 q)
    ∙ by (is_eq (address_cmp q pair.0)) refl
  where
    by : (b : Bool) → is_eq (address_cmp q pair.0) ≡ b
        → after_both (cond b (Some (after_maybe (delta_at changes q) pair.1)) (delta_at changes q)) (delta_at later q)
        ≡ after_both (delta_at changes q) (cond b (Some pair.1) (delta_at later q))
    by false e = refl
    by true e = ap (after_both (Some (after_maybe (delta_at changes q) pair.1))) (none_behind q pair.0 later (equal _ e) rising.0)
