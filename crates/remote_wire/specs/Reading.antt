-- How the parts of requests are read, each in its form.
use Rattle.std.specs.Prelude.{ℕ, ℤ, Bool, [], ◌∷◌, Some, None}
use Rattle.std.specs.Int.{w64}
use Rattle.rdt_types.specs.declared.address.Address.{Address}
use Rattle.conflict_table.specs.declared.observation.Obs.{Obs}
use Rattle.conflict_table.specs.declared.observation.Obs.TheVariants as obs
use Rattle.abort_witness.specs.declared.witness.Based.{Based}
use Rattle.commit_file.specs.declared.version.Version.TheVariants as version
use Rattle.record_code.specs.Fields.{Reader, ◌>>=◌, number_at, int_at, tag_at, truth_at, pair_at}
use Rattle.record_code.specs.Reading.{short_at, address_at}
use Rattle.remote_wire.specs.declared.request.Base.{Base}
use Rattle.remote_wire.specs.declared.tags.ObsTag.{ObsTag}
use Rattle.remote_wire.specs.declared.tags.ObsTag.TheVariants as observed
use Rattle.remote_wire.specs.declared.tags.TheConstants.{OBS_TAGS}

-- what is read, made into something
abbrev pub made : {A B : Type 0} → (A → B) → Reader A → Reader B
made make reader bytes = reader bytes >>= λ x. Some (make x.0, x.1)

-- ---- numbers and addresses

-- a number of one byte
unfoldable pub byte_at : Reader ℕ
byte_at [] = None
byte_at (byte ∷ rest) = Some (byte, rest)

-- of eight
abbrev pub long_at : Reader ℕ
long_at = number_at w64

-- an address of any kind
abbrev pub place_at : Reader Address
place_at = address_at version.Two

-- ---- observations

-- a number of a peak, and whether it is above
abbrev pub over_of : ℤ × Bool → Obs
over_of x = obs.PeakOver x.0 x.1

-- an observation, by the byte of its form
unfoldable pub obs_of : ObsTag → Reader Obs
obs_of observed.BoolIs bytes = Some (obs.BoolIs, bytes)
obs_of observed.CounterIs bytes = Some (obs.CounterIs, bytes)
obs_of observed.TextIs bytes = Some (obs.TextIs, bytes)
obs_of observed.SetHas bytes = made obs.SetHas short_at bytes
obs_of observed.SetAll bytes = Some (obs.SetAll, bytes)
obs_of observed.HashAt bytes = made obs.HashAt short_at bytes
obs_of observed.HashAll bytes = Some (obs.HashAll, bytes)
obs_of observed.ListAt bytes = made obs.ListAt long_at bytes
obs_of observed.ListAll bytes = Some (obs.ListAll, bytes)
obs_of observed.PeakIs bytes = made obs.PeakIs int_at bytes
obs_of observed.PeakOver bytes = made over_of (pair_at int_at truth_at) bytes

unfoldable pub obs_at : Reader Obs
obs_at bytes = do
  tag ← tag_at OBS_TAGS bytes
  obs_of tag.0 tag.1

-- ---- observations at their addresses, bases

-- an address, what was observed there, and the base
abbrev pub based_of : Address × (Obs × ℕ) → Based
based_of x = record { address = x.0; obs = x.1.0; base = x.1.1 }

unfoldable pub based_at : Reader Based
based_at = made based_of (pair_at place_at (pair_at obs_at long_at))

-- an address and the base
abbrev pub base_of : Address × ℕ → Base
base_of x = record { address = x.0; base = x.1 }

unfoldable pub base_at : Reader Base
base_at = made base_of (pair_at place_at long_at)
