-- What a cache holds, and what a feed makes of it.
use Rattle.std.specs.Prelude.{◌≡◌, ℕ, List, [], ◌∷◌, map, Option, Some, None, option_map, codes, pos, refl}
use Rattle.std.specs.Coded.{Coded, code_by, coded×, coded_list, coded_ℕ}
use Rattle.std.specs.Map.{lookup, remove_entry}
use Rattle.std.specs.BTreeMap.{insert_entry, is_at}
use Rattle.rdt_types.specs.declared.address.Kind.TheVariants as kind
use Rattle.rdt_types.specs.declared.address.Address.{Address}
use Rattle.rdt_types.specs.declared.value.Value.{Value}
use Rattle.rdt_types.specs.declared.value.Value.TheVariants as value
use Rattle.rdt_types.specs.declared.delta.Delta.TheVariants as delta
use Rattle.rdt_types.specs.Addresses.{address_cmp}
use Rattle.rdt_types.specs.DeltaMaps.{delta_at}
use Rattle.change_feed.specs.Feeds.{Fed}
use Rattle.client_cache.specs.Histories.{apply_maybe}

-- the values of some addresses
abbrev pub Values : Type 0
Values = List (Address × Value)

-- a cache: up to which commit its values go, and those that it holds, by rising address
pub record Cached : Type 0 where
  pub at : ℕ
  pub values : Values

-- it is stored as the pair of its fields
abbrev pub cached_code : Coded Address → Coded Value → Coded Cached
cached_code address value =
    code_by (ℕ × Values) (coded× coded_ℕ (coded_list (coded× address value))) (λ c. (c.at, c.values)) (λ p. record { at = p.0; values = p.1 }) (λ _. refl)

-- the value that is held at an address, if one is
abbrev pub held : Cached → Address → Option Value
held cache address = lookup (is_at (address_cmp address)) cache.values

-- nothing is held yet
abbrev pub empty : ℕ → Cached
empty at = record { at = at; values = [] }

-- a value more, in the place of the one that was held at its address
abbrev pub filled : Cached → Address → Value → Cached
filled cache address value = record cache { values = insert_entry address_cmp cache.values address value }

-- without the value at an address
abbrev pub released : Cached → Address → Cached
released cache address = record cache { values = remove_entry (is_at (address_cmp address)) cache.values }

-- a held value after the delta that a feed has at its address, if it has one there
abbrev pub after_feed : Fed → Address → Option Value → Option Value
after_feed feed address old = option_map (apply_maybe (delta_at feed.changes address)) old

-- a cache after a feed: it goes as far as the feed, and each value that it holds has the feed's delta at its address applied
abbrev pub advanced : Cached → Fed → Cached
advanced cache feed = record {
  at = feed.to;
  values = map (λ entry. (entry.0, apply_maybe (delta_at feed.changes entry.0) entry.1)) cache.values;
}

-- A cache after a feed, address by address: it goes as far as the feed, and each value that it held has the feed's delta applied.
pub record Advances (old new : Cached) (feed : Fed) : Type 0 where
  pub at : new.at ≡ feed.to
  pub held : (address : Address) → held new address ≡ after_feed feed address (held old address)

abbrev counter : List ℕ → Address
counter key = record { kind = kind.Counter; key = key }

-- of two changed counters the one that is held has 4 added
after_feed-example :
    after_feed (record { to = 2; changes = (counter (codes "x"), delta.AddCounter (pos 4)) ∷ (counter (codes "y"), delta.PutCounter (pos 9)) ∷ [] })
    (counter (codes "x")) (held (filled (empty 1) (counter (codes "x")) (value.Counter (pos 3))) (counter (codes "x")))
    ≡ Some (value.Counter (pos 7))
after_feed-example = refl

-- and it is all that is held then
advanced-example :
    advanced (filled (empty 1) (counter (codes "x")) (value.Counter (pos 3)))
    (record { to = 2; changes = (counter (codes "x"), delta.AddCounter (pos 4)) ∷ (counter (codes "y"), delta.PutCounter (pos 9)) ∷ [] })
    ≡ filled (empty 2) (counter (codes "x")) (value.Counter (pos 7))
advanced-example = refl

-- a feed fills nothing
after_feed-nothing :
    after_feed (record { to = 2; changes = (counter (codes "x"), delta.AddCounter (pos 4)) ∷ [] }) (counter (codes "x"))
    (held (empty 1) (counter (codes "x"))) ≡ None
after_feed-nothing = refl
