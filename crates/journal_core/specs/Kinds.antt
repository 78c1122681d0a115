-- The deltas of a journal are of the kinds of their addresses.
use Rattle.std.specs.Prelude.{◌≡◌, ◌∷◌, [], codes, refl}
use Rattle.std.specs.List.{AllByRecursion}
use Rattle.rdt_types.specs.Deltas.{kind_changed}
use Rattle.rdt_types.specs.DeltaMaps.{Deltas}
use Rattle.txn_lang.specs.States.{Journal}
use Rattle.journal_core.specs.Changes.{adding}

-- each delta is of the kind of its address
abbrev pub AreOfTheirKinds : Deltas → Type 0
AreOfTheirKinds deltas = AllByRecursion (λ pair. kind_changed pair.1 ≡ pair.0.kind) deltas

-- so are all deltas of a journal
abbrev pub HasKinds : Journal → Type 0
HasKinds journal = AllByRecursion (λ commit. AreOfTheirKinds commit.deltas) journal

-- an addition at a counter
HasKinds-example : HasKinds (adding 1 (codes "x") ∷ [])
HasKinds-example = ((refl, tt), tt)
