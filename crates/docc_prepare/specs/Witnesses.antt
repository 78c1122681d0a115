-- The witness of the least pair of observations and a journal's commits.
use Rattle.std.specs.Prelude.{◌≡◌, ℕ, Bool, true, false, if◌then◌else◌, List, [], ◌∷◌, Option, Some, None, slice_get, codes, pos, refl}
use Rattle.std.specs.List.{AllByRecursion}
use Rattle.std.specs.Option.{option_and_then}
use Rattle.rdt_types.specs.declared.address.Kind.TheVariants as kind
use Rattle.rdt_types.specs.declared.address.Address.{Address}
use Rattle.rdt_types.specs.declared.delta.Delta.TheVariants as delta
use Rattle.rdt_types.specs.declared.operation.WriteOp.{WriteOp}
use Rattle.rdt_types.specs.declared.operation.WriteOp.TheVariants as op
use Rattle.conflict_table.specs.declared.observation.Obs.TheVariants as obs
use Rattle.conflict_table.specs.Parts.{named}
use Rattle.change_feed.specs.declared.change.Change.{Change}
use Rattle.abort_witness.specs.declared.witness.Based.{Based}
use Rattle.abort_witness.specs.declared.witness.Found.{Found}
use Rattle.abort_witness.specs.declared.witness.Witness.{Witness}
use Rattle.abort_witness.specs.Pairs.{clashes, IsLeast}
use Rattle.abort_witness.specs.Naming.{Names}
use Rattle.abort_witness.specs.Kinds.{IsBasedOfOneKind, IsOfOneKind}
use Rattle.txn_lang.specs.declared.commit.Commit.{Commit}
use Rattle.txn_lang.specs.States.{Journal}
use Rattle.journal_core.specs.Changes.{changes_of, changes, adding}
use Rattle.journal_core.specs.Journals.{commit_at}
use Rattle.journal_core.specs.Pairs.{least_pair}
use Rattle.docc_prepare.specs.Serial.{IsOrderly}

-- the witness of an observation and a change, of which a part clashes with it
abbrev pub witness_by : Based → Change → Option WriteOp → Option Witness
witness_by based change None = None
witness_by based change (Some part) =
    Some (record { address = based.address; obs = based.obs; base = based.base; part = part; number = change.number })

-- the witness of an observation and the change of a commit that clashes with it
abbrev pub witness_in : Based → List Change → Option Witness
witness_in based [] = None
witness_in based (change ∷ rest) = if clashes based change then witness_by based change (named based.obs change.delta) else witness_in based rest

-- the witness of a pair: the observation at its place, and the commit of its number
abbrev pub witness_of : List Based → Journal → Found → Option Witness
witness_of based journal found =
    option_and_then (λ b. option_and_then (λ commit. witness_in b (changes_of commit)) (commit_at journal found.number)) (slice_get based found.place)

-- The witness of the least pair, if there is a pair.
abbrev pub least_witness : List Based → Journal → Option Witness
least_witness based journal = option_and_then (witness_of based journal) (least_pair based journal)

-- A witness names both: the observation at the pair's place, and of the commit that has the pair's number a change that clashes
-- with it, with the part of it that does. Its parts are of one kind.
pub record IsNamed (based : List Based) (journal : Journal) (found : Found) (witness : Witness) : Type 0 where
  pub observation : Based
  pub commit : Commit
  pub change : Change
  pub index : ℕ
  pub placed : slice_get based found.place ≡ Some observation
  pub there : commit_at journal found.number ≡ Some commit
  pub among : slice_get (changes_of commit) index ≡ Some change
  pub clashing : clashes observation change ≡ true
  pub names : Names observation change witness
  pub number : witness.number ≡ found.number
  pub one_kind : IsOfOneKind witness

-- A law: the least pair of a journal, and of observations of their addresses' kinds, has a witness, which names both.
abbrev pub WitnessIsNamed : Type 0
WitnessIsNamed =
    (based : List Based) (journal : Journal) (found : Found) → IsOrderly journal → AllByRecursion IsBasedOfOneKind based
    → IsLeast based (changes journal) found
    → (witness : Witness) × (least_witness based journal ≡ Some witness) × IsNamed based journal found witness

-- ---- worked lines

-- a counter that was read at 1
abbrev counted : List ℕ → Based
counted key = record { address = record { kind = kind.Counter; key = key }; obs = obs.CounterIs; base = 1 }

-- of three commits the second and the third change what was read at 1: the second is named, with its addition
least_witness-example :
    least_witness (counted (codes "x") ∷ counted (codes "y") ∷ []) (adding 1 (codes "x") ∷ adding 2 (codes "y") ∷ adding 3 (codes "x") ∷ [])
    ≡ Some (record { address = (counted (codes "y")).address; obs = obs.CounterIs; base = 1; part = op.AddCounter (pos 1); number = 2 })
least_witness-example = refl

-- the peak bid, and whether it is above 10 as it was told at 0
abbrev bid : Address
bid = record { kind = kind.Peak; key = codes "bid" }

abbrev told_over : Bool → Based
told_over is = record { address = bid; obs = obs.PeakOver (pos 10) is; base = 0 }

-- the first commit raises it to 50
abbrev raising : Commit
raising = record (adding 1 (codes "bid")) { deltas = (bid, delta.Raise (pos 50)) ∷ [] }

-- who was told that it is above is disturbed by nobody
least_witness-over : least_witness (told_over true ∷ []) (raising ∷ []) ≡ None
least_witness-over = refl

-- and who was told that it is not, by that raise
least_witness-below :
    least_witness (told_over false ∷ []) (raising ∷ [])
    ≡ Some (record { address = bid; obs = obs.PeakOver (pos 10) false; base = 0; part = op.Raise (pos 50); number = 1 })
least_witness-below = refl
