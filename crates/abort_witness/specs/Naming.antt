-- What a witness names.
use Rattle.std.specs.Prelude.{◌≡◌, ℕ, pos, false, Some, refl}
use Rattle.rdt_types.specs.declared.delta.Delta.{Delta}
use Rattle.conflict_table.specs.declared.observation.Obs.{Obs}
use Rattle.conflict_table.specs.declared.observation.Obs.TheVariants as obs
use Rattle.conflict_table.specs.Parts.{named}
use Rattle.change_feed.specs.declared.change.Change.{Change}
use Rattle.abort_witness.specs.declared.witness.Based.{Based}
use Rattle.abort_witness.specs.declared.witness.Witness.{Witness}

-- A witness names both: the observation with its base, and the commit with the part of its change that clashes.
pub record Names (based : Based) (change : Change) (witness : Witness) : Type 0 where
  pub address : witness.address ≡ based.address
  pub observed : witness.obs ≡ based.obs
  pub base : witness.base ≡ based.base
  pub part : named based.obs change.delta ≡ Some witness.part
  pub number : witness.number ≡ change.number

-- of a change at the observation's address, by its commit's number and its delta
abbrev pub NamesDelta : Based → ℕ → Delta → Witness → Type 0
NamesDelta based number delta witness = Names based (record { number = number; address = based.address; delta = delta }) witness

-- The answer of an observation isn't printed, and an `over` is read back as one that was false. So it was, of each that a
-- witness can name: a peak that was above a number stays above it, and nothing clashes.
abbrev pub IsPrintable : Obs → Type 0
IsPrintable (obs.PeakOver n r) = r ≡ false
IsPrintable _ = Unit {0}

not-over : IsPrintable (obs.PeakOver (pos 60) false)
not-over = refl

-- A law: what a witness names is printable.
abbrev pub WitnessesArePrintable : Type 0
WitnessesArePrintable = (based : Based) (change : Change) (witness : Witness) → Names based change witness → IsPrintable witness.obs
