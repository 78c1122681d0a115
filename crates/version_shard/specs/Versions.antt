-- The versions of the value at one address.
use Rattle.std.specs.Prelude.{◌≡◌, ℕ, ◌≤◌, nat_le, nat_lt, List, [], ◌∷◌, ◌++◌, map, filter, fold, take, if◌then◌else◌, pos, refl}
use Rattle.std.specs.Coded.{Coded, code_by, coded×, coded_list}
use Rattle.std.specs.List.{AllByRecursion}
use Rattle.std.specs.List.Sorted.{IsNonDecreasingBy}
use Rattle.rdt_types.specs.declared.address.Address.{Address}
use Rattle.rdt_types.specs.declared.value.Value.{Value}
use Rattle.rdt_types.specs.declared.value.Value.TheVariants as value
use Rattle.rdt_types.specs.declared.delta.Delta.{Delta}
use Rattle.rdt_types.specs.declared.delta.Delta.TheVariants as delta
use Rattle.rdt_types.specs.Deltas.{apply}
use Rattle.change_feed.specs.declared.change.Change.{Change}
use Rattle.version_shard.specs.declared.version.Version.{Version}

-- the value before the oldest version, and the versions by their commits
pub record Versioned : Type 0 where
  pub base : Value
  pub later : List Version

-- the numbers don't fall
abbrev pub AreInOrder : List Version → Type 0
AreInOrder later = IsNonDecreasingBy (λ version. version.number) later

-- it is stored as the pair of its fields
abbrev pub versioned_code : Coded Value → Coded Version → Coded Versioned
versioned_code value version =
    code_by (Value × List Version) (coded× value (coded_list version)) (λ v. (v.base, v.later)) (λ p. record { base = p.0; later = p.1 }) (λ _. refl)

-- a value without versions
abbrev pub unversioned : Value → Versioned
unversioned base = record { base = base; later = [] }

-- The value after some versions, which follow a value: each makes of the value before it what its delta does.
abbrev pub value_after : Value → List Version → Value
value_after base later = fold (λ value version. apply version.delta value) base later

-- the value after the first versions, so many
abbrev pub value_by : ℕ → Versioned → Value
value_by count versions = value_after versions.base (take count versions.later)

-- no version is past a number
abbrev pub AreUpTo : ℕ → List Version → Type 0
AreUpTo number later = AllByRecursion (λ version. version.number ≤ number) later

-- the value behind all versions
abbrev pub latest : Versioned → Value
latest versions = value_after versions.base versions.later

-- without the versions past a number
abbrev pub up_to : ℕ → Versioned → Versioned
up_to number versions = record versions { later = filter (λ version. nat_le version.number number) versions.later }

-- the value at a number: that of the newest version up to it
abbrev pub value_at : Versioned → ℕ → Value
value_at versions number = latest (up_to number versions)

-- the versions past a number
abbrev pub past : ℕ → List Version → List Version
past number later = filter (λ version. nat_lt number version.number) later

-- what the commit of a version changed at an address
abbrev pub as_change : Address → Version → Change
as_change address version = record { number = version.number; address = address; delta = version.delta }

-- what the commits of versions changed there
abbrev pub as_changes : Address → List Version → List Change
as_changes address later = map (as_change address) later

-- one version more: what the commit of a number changed
abbrev pub changed : ℕ → Delta → Versioned → Versioned
changed number delta versions = record versions { later = versions.later ++ record { number = number; delta = delta } ∷ [] }

-- The versions up to a horizon are let go, from the oldest on, and what they made of the value stays as the one before the
-- others.
abbrev pub trimmed_from : ℕ → Value → List Version → Versioned
trimmed_from horizon base [] = record { base = base; later = [] }
trimmed_from horizon base (version ∷ rest) =
    if nat_le version.number horizon then trimmed_from horizon (apply version.delta base) rest else record { base = base; later = version ∷ rest }

-- what is left of versions that no read from the horizon on asks for
abbrev pub trimmed : ℕ → Versioned → Versioned
trimmed horizon versions = trimmed_from horizon versions.base versions.later

-- ---- worked lines

-- a counter that commit 2 put to 5, and to which commit 4 added 3
abbrev example : Versioned
example = changed 4 (delta.AddCounter (pos 3)) (changed 2 (delta.PutCounter (pos 5)) (unversioned (value.Counter (pos 0))))

at-3 : value_at example 3 ≡ value.Counter (pos 5)
at-3 = refl

at-4 : value_at example 4 ≡ value.Counter (pos 8)
at-4 = refl

-- trimmed at a horizon of 3 it has the same value there, as the one before commit 4
trimmed-at-3 : value_at (trimmed 3 example) 3 ≡ value.Counter (pos 5)
trimmed-at-3 = refl
