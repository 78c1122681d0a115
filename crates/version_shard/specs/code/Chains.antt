-- Which values of an address are kept whole: besides the base, the value before the oldest version, the one after every 32nd
-- version. The versions between are deltas alone. `read-wholes` of proofs/Chains ties this to the values of specs/Versions.
use Rattle.std.specs.Prelude.{◌≡◌, ℕ, ◌+◌, ◌%◌, ◌<◌, ◌≤◌, ◌==◌, List, [], ◌∷◌, ◌++◌, length, take, drop, if◌then◌else◌, pos, refl}
use Rattle.std.specs.List.{AllByRecursion}
use Rattle.rdt_types.specs.declared.value.Value.{Value}
use Rattle.rdt_types.specs.declared.value.Value.TheVariants as value
use Rattle.rdt_types.specs.declared.delta.Delta.TheVariants as delta
use Rattle.rdt_types.specs.Deltas.{apply}
use Rattle.version_shard.specs.declared.version.Version.{Version}
use Rattle.version_shard.specs.Versions.{AreInOrder, AreUpTo}

-- a value, where it is the one after a 32nd version
abbrev pub whole_at : ℕ → Value → List Value
whole_at count value = if count % 32 == 0 then value ∷ [] else []

-- The values that are kept whole of versions which follow a base, where so many versions stood between the last whole value
-- and the base, which are let go: the one after each version that is a 32nd, counted on from these.
abbrev pub wholes : ℕ → Value → List Version → List Value
wholes behind base [] = []
wholes behind base (version ∷ rest) =
    whole_at (behind + 1) (apply version.delta base) ++ wholes (behind + 1) (apply version.delta base) rest

-- What a chain keeps: its versions are in order, and of their values it has exactly these whole. So at most 31 versions
-- without a whole value stand between two that have one.
pub record IsChain (behind : ℕ) (base : Value) (later : List Version) (whole : List Value) : Type 0 where
  pub in_order : AreInOrder later
  pub near : behind < 32
  pub spaced : whole ≡ wholes behind base later

-- the versions up to a number are the first ones, so many
pub record Parts (number count : ℕ) (later : List Version) : Type 0 where
  pub within : count ≤ length later
  pub up_to : AreUpTo number (take count later)
  pub past : AllByRecursion (λ version. number < version.number) (drop count later)

-- ---- worked lines

-- an addition of 1 by the commit of a number
abbrev added : ℕ → Version
added number = record { number = number; delta = delta.AddCounter (pos 1) }

-- of three additions 30 versions behind a whole value the second is the 32nd, so the value after it is whole, and no other
second-whole : wholes 30 (value.Counter (pos 30)) (added 31 ∷ added 32 ∷ added 33 ∷ []) ≡ value.Counter (pos 32) ∷ []
second-whole = refl

-- behind a whole value the count begins anew
none-whole : wholes 0 (value.Counter (pos 32)) (added 33 ∷ added 34 ∷ []) ≡ []
none-whole = refl
