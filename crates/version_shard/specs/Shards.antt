-- A shard, as callers see it.
use Rattle.std.specs.Prelude.{◌≡◌, ℕ, ◌-◌, ◌≤◌, List, unwrap_or, refl}
use Rattle.std.specs.Coded.{Coded, code_by, coded×, coded_list, coded_ℕ}
use Rattle.std.specs.List.{AllByRecursion}
use Rattle.std.specs.Map.{lookup}
use Rattle.std.specs.BTreeMap.{is_at}
use Rattle.rdt_types.specs.declared.address.Address.{Address}
use Rattle.rdt_types.specs.declared.value.Value.{Value}
use Rattle.rdt_types.specs.Addresses.{address_cmp}
use Rattle.rdt_types.specs.Deltas.{kind_changed}
use Rattle.rdt_types.specs.Values.{default_of}
use Rattle.rdt_types.specs.Shards.{shard_of}
use Rattle.change_feed.specs.declared.change.Change.{Change}
use Rattle.version_shard.specs.declared.version.Version.{Version}
use Rattle.version_shard.specs.Versions as versions
use Rattle.version_shard.specs.Versions.{Versioned, unversioned, as_changes, past}

-- the versions of some addresses, by rising address
abbrev pub Kept : Type 0
Kept = List (Address × Versioned)

-- a shard: its number among so many, how many commits back it can be read, up to which number it has followed the journal,
-- and its versions
pub record Sharded : Type 0 where
  pub number : ℕ
  pub shards : ℕ
  pub window : ℕ
  pub front : ℕ
  pub kept : Kept

-- it is stored as the tuple of its fields
abbrev pub sharded_code : Coded Address → Coded Versioned → Coded Sharded
sharded_code address versions =
    code_by (ℕ × (ℕ × (ℕ × (ℕ × Kept)))) (coded× coded_ℕ (coded× coded_ℕ (coded× coded_ℕ (coded× coded_ℕ (coded_list (coded× address versions))))))
    (λ s. (s.number, (s.shards, (s.window, (s.front, s.kept)))))
    (λ p. record { number = p.0; shards = p.1.0; window = p.1.1.0; front = p.1.1.1.0; kept = p.1.1.1.1 }) (λ _. refl)

-- The least number at which a shard can be read: its front less the window, or 0.
abbrev pub horizon_at : ℕ → ℕ → ℕ
horizon_at window front = front - window

-- the least number at which a shard can be read
abbrev pub horizon : Sharded → ℕ
horizon shard = horizon_at shard.window shard.front

-- an address is in a shard
abbrev pub IsIn : Sharded → Address → Type 0
IsIn shard address = shard_of address shard.shards ≡ shard.number

-- an address that no commit changed has no version, and its default before them
abbrev pub unchanged : Address → Versioned
unchanged address = unversioned (default_of address.kind)

-- the versions of an address
abbrev pub versions_of : Kept → Address → Versioned
versions_of kept address = unwrap_or (lookup (is_at (address_cmp address)) kept) (unchanged address)

-- the value at an address at a number
abbrev pub value_at : Sharded → Address → ℕ → Value
value_at shard address number = versions.value_at (versions_of shard.kept address) number

-- what was changed at an address by the commits past a number
abbrev pub changes_past : Sharded → Address → ℕ → List Change
changes_past shard address number = as_changes address (past number (versions_of shard.kept address).later)

-- ---- what a shard keeps

-- a version of a value of a kind, not past a front
pub record SuitsVersion (front : ℕ) (address : Address) (version : Version) : Type 0 where
  pub reached : version.number ≤ front
  pub of_kind : kind_changed version.delta ≡ address.kind

-- each version is numbered up to the front and of the address's kind
abbrev pub Suits : ℕ → Address → Versioned → Type 0
Suits front address versions = AllByRecursion (SuitsVersion front address) versions.later

-- no version is past the front, and each delta is of its address' kind
abbrev pub AreKept : ℕ → Kept → Type 0
AreKept front kept = (address : Address) → Suits front address (versions_of kept address)

-- ---- worked lines

-- at the front 5 a window of 2 reaches back to 3, and a longer one to the beginning
horizon-example : horizon_at 2 5 ≡ 3
horizon-example = refl

horizon-0 : horizon_at 4096 5 ≡ 0
horizon-0 = refl
