-- How the code looks for clashes: by the versions of each observed address. `names-least` and `no-pair` of
-- proofs/Validated tie this to the least pair of a journal.
use Rattle.std.specs.Prelude.{◌≡◌, true, ℕ, ◌+◌, nat_lt, List, [], ◌∷◌, length, if◌then◌else◌, Option, Some, None, option_map}
use Rattle.conflict_table.specs.declared.observation.Obs.{Obs}
use Rattle.conflict_table.specs.Clashes as table
use Rattle.conflict_table.specs.Clashes.{clash}
use Rattle.conflict_table.specs.Observing.{kind_observed}
use Rattle.rdt_types.specs.Deltas.{kind_changed}
use Rattle.abort_witness.specs.declared.witness.Based.{Based}
use Rattle.version_shard.specs.declared.version.Version.{Version}
use Rattle.version_shard.specs.Versions.{past}
use Rattle.version_shard.specs.Shards.{Kept, versions_of}

-- the first of some versions whose delta clashes with an observation
abbrev pub first_clashing : Obs → List Version → Option Version
first_clashing obs [] = None
first_clashing obs (version ∷ rest) = if clash obs version.delta then Some version else first_clashing obs rest

-- the first of some versions past the base of an observation that clashes with it
abbrev pub clashing_past : Based → List Version → Option Version
clashing_past based later = first_clashing based.obs (past based.base later)

-- and of those at its address
abbrev pub clashing_in : Kept → Based → Option Version
clashing_in kept based = clashing_past based (versions_of kept based.address).later

-- an observation and a version that clashes with it
abbrev pub Hit : Type 0
Hit = Based × Version

abbrev pub hit_by : Based → Option Version → Option Hit
hit_by based version = option_map (λ v. (based, v)) version

-- the version's delta clashes with the observation, and is of its kind
pub record IsClash (hit : Hit) : Type 0 where
  pub kind : kind_observed hit.0.obs ≡ kind_changed hit.1.delta
  pub clash : table.clash hit.0.obs hit.1.delta ≡ true

-- of two hits the one with the lesser number, and of equals the first
abbrev pub lesser : Option Hit → Option Hit → Option Hit
lesser None second = second
lesser (Some first) None = Some first
lesser (Some first) (Some second) = if nat_lt second.1.number first.1.number then Some second else Some first

-- the hit with the least number, and of these the first
abbrev pub least_hit : Kept → List Based → Option Hit
least_hit kept [] = None
least_hit kept (based ∷ rest) = lesser (hit_by based (clashing_in kept based)) (least_hit kept rest)

-- how many versions there are past the base of an observation at its address, and past those of several: more steps are
-- never made
abbrev pub steps_at : Kept → Based → ℕ
steps_at kept based = length (past based.base (versions_of kept based.address).later)

abbrev pub most_steps : Kept → List Based → ℕ
most_steps kept [] = 0
most_steps kept (based ∷ rest) = steps_at kept based + most_steps kept rest
