-- The values that are held: after a feed, with one more, and with one less.
use Rattle.std.proofs.Common.{◌≡◌, Bool, true, false, cond, [], ◌∷◌, map, Option, Some, None, option_map}
use Rattle.std.proofs.Common.{refl, sym, ap, ◌∙◌, subst}
use Rattle.std.specs.List.{AllByRecursion}
use Rattle.std.specs.List.Sorted.{IsStrictlySortedBy}
use Rattle.std.specs.Map.{lookup, keys_of, remove_entry}
use Rattle.std.specs.BTreeMap.{is_at}
use Rattle.std.specs.Cmp.{eq_by_cmp_equiv}
use Rattle.std.specs.Ordering.{is_eq, ordering_reverse}
use Rattle.std.specs.declared.cmp.Ordering.{Ordering}
use Rattle.std.specs.declared.cmp.Ordering.TheVariants.{Less, Equal, Greater}
use Rattle.std.proofs.lemmas.Map.{lookup-remove_entry}
use Rattle.std.proofs.lemmas.Map.Keys.{IsDistinct-from_sorted}
use Rattle.plain_data.proofs.Entries.{equal, lookup-insert_entry, sorted-insert_entry}
use Rattle.rdt_types.specs.contracts.address.AddressOrd.TheImpl.Laws as order
use Rattle.rdt_types.specs.declared.address.Address.{Address}
use Rattle.rdt_types.specs.declared.value.Value.{Value}
use Rattle.rdt_types.specs.Addresses.{address_cmp}
use Rattle.rdt_types.specs.DeltaMaps.{delta_at}
use Rattle.rdt_types.proofs.Addresses.{address_cmp-equal}
use Rattle.change_feed.specs.Feeds.{Fed}
use Rattle.client_cache.specs.Histories.{apply_maybe}
use Rattle.client_cache.specs.Cached.{Cached, Values, held, filled, released, advanced}

-- the value at an address
abbrev value_at : Values → Address → Option Value
value_at values address = lookup (is_at (address_cmp address)) values

-- addresses in order
abbrev pub Rise : Values → Type 0
Rise values = IsStrictlySortedBy address_cmp (keys_of values)

-- ---- a feed

-- each value has the delta at its address applied
pub held-advanced : (cache : Cached) (feed : Fed) (a : Address)
    → held (advanced cache feed) a ≡ option_map (apply_maybe (delta_at feed.changes a)) (held cache a)
held-advanced cache feed a = all cache.values
  where
    all : (values : Values) → value_at (map (λ (entry : Address × Value). (entry.0, apply_maybe (delta_at feed.changes entry.0) entry.1)) values) a
        ≡ option_map (apply_maybe (delta_at feed.changes a)) (value_at values a)
    all [] = refl
    all (entry ∷ values) = by (is_eq (address_cmp a entry.0)) refl (all values)
      where
        by : (b : Bool) → is_eq (address_cmp a entry.0) ≡ b
            → value_at (map (λ (e : Address × Value). (e.0, apply_maybe (delta_at feed.changes e.0) e.1)) values) a
            ≡ option_map (apply_maybe (delta_at feed.changes a)) (value_at values a)
            → cond b (Some (apply_maybe (delta_at feed.changes entry.0) entry.1))
            (value_at (map (λ (e : Address × Value). (e.0, apply_maybe (delta_at feed.changes e.0) e.1)) values) a)
            ≡ option_map (apply_maybe (delta_at feed.changes a)) (cond b (Some entry.1) (value_at values a))
        by true is rest = ap (λ (x : Address). Some (apply_maybe (delta_at feed.changes x) entry.1)) (sym (address_cmp-equal a entry.0 (equal _ is)))
        by false is rest = rest

-- the addresses stay
pub rise-advanced : (cache : Cached) (feed : Fed) → Rise cache.values → Rise (advanced cache feed).values
rise-advanced cache feed rising = subst (IsStrictlySortedBy address_cmp) (sym (all cache.values)) rising
  where
    all : (values : Values)
        → keys_of (map (λ (entry : Address × Value). (entry.0, apply_maybe (delta_at feed.changes entry.0) entry.1)) values) ≡ keys_of values
    all [] = refl
    all (entry ∷ values) = ap (λ keys. entry.0 ∷ keys) (all values)

-- ---- one value more

-- it is found at its address, and elsewhere what was found before
pub held-filled : (cache : Cached) (address : Address) (value : Value) (a : Address)
    → held (filled cache address value) a ≡ cond (is_eq (address_cmp a address)) (Some value) (held cache a)
held-filled cache address value a = lookup-insert_entry address_cmp order.total-law a address value cache.values

-- it is put at its place among the others
pub rise-filled : (cache : Cached) (address : Address) (value : Value) → Rise cache.values → Rise (filled cache address value).values
rise-filled cache address value rising = sorted-insert_entry address_cmp order.total-law address value cache.values rising

-- ---- one value less

-- nothing is found at its address, and elsewhere what was found before
pub held-released : (cache : Cached) (address a : Address) → Rise cache.values
    → held (released cache address) a ≡ cond (is_at (address_cmp address) a) None (held cache a)
held-released cache address a rising =
    lookup-remove_entry (eq_by_cmp_equiv order.total-law) (is_at (address_cmp address))
    (λ x y e. ap is_eq (order.total-law.congr address x y (equal (address_cmp address x) e))) a cache.values
    (IsDistinct-from_sorted address_cmp (keys_of cache.values) rising)

-- the others are in order
rise-removed : (test : Address → Bool) (values : Values) → Rise values → Rise (remove_entry test values)
unfolding IsStrictlySortedBy
rise-removed test [] rising = rising
rise-removed test (x ∷ values) rising = by (test x.0) (rise-removed test values rising.1)
  where
    fewer : (P : Address → Type 0) (vs : Values) → AllByRecursion P (keys_of vs) → AllByRecursion P (keys_of (remove_entry test vs))
    fewer P [] all = all
    fewer P (y ∷ vs) all = one (test y.0) (fewer P vs all.1)
      where
        one : (b : Bool) → AllByRecursion P (keys_of (remove_entry test vs)) → AllByRecursion P (keys_of (cond b vs (y ∷ remove_entry test vs)))
        one true rest = all.1
        one false rest = (all.0, rest)

    by : (b : Bool) → Rise (remove_entry test values) → Rise (cond b values (x ∷ remove_entry test values))
    by true rest = rising.1
    by false rest = (fewer (λ y. address_cmp x.0 y ≡ Less) values rising.0, rest)

-- so the values are in order without one
pub rise-released : (cache : Cached) (address : Address) → Rise cache.values → Rise (released cache address).values
rise-released cache address rising = rise-removed (is_at (address_cmp address)) cache.values rising

-- ---- tests of addresses

-- an address is at itself alone, either way round
pub at-same : (a b : Address) → is_eq (address_cmp a b) ≡ true → a ≡ b
at-same a b e = address_cmp-equal a b (equal (address_cmp a b) e)

-- the order the other way round is turned, and equal stays equal
pub at-turned : (a b : Address) → is_eq (address_cmp a b) ≡ is_eq (address_cmp b a)
at-turned a b = ap is_eq (order.total-law.antisymm a b) ∙ by (address_cmp b a)
  where
    by : (r : Ordering) → is_eq (ordering_reverse r) ≡ is_eq r
    by Less = refl
    by Equal = refl
    by Greater = refl
