-- What the witness of a pair names.
use Rattle.std.specs.Prelude.{◌≡◌, true, List, [], ◌∷◌, slice_get, Some, codes, pos, refl}
use Rattle.std.specs.List.{list_any, AllByRecursion}
use Rattle.rdt_types.specs.declared.address.Kind.TheVariants as kind
use Rattle.rdt_types.specs.declared.delta.Delta.{Delta}
use Rattle.rdt_types.specs.declared.operation.WriteOp.TheVariants as op
use Rattle.rdt_types.specs.DeltaMaps.{delta_at}
use Rattle.conflict_table.specs.declared.observation.Obs.TheVariants as obs
use Rattle.abort_witness.specs.declared.witness.Based.{Based}
use Rattle.abort_witness.specs.declared.witness.Found.{Found}
use Rattle.abort_witness.specs.declared.witness.Witness.{Witness}
use Rattle.abort_witness.specs.Kinds.{IsBasedOfOneKind}
use Rattle.abort_witness.specs.Naming.{Names}
use Rattle.abort_witness.specs.Pairs.{clashes}
use Rattle.txn_lang.specs.declared.commit.Commit.{Commit}
use Rattle.txn_lang.specs.States.{Journal}
use Rattle.journal_core.specs.Changes.{changes_of, adding}
use Rattle.journal_core.specs.Journals.{commit_at}

-- each observation is of its address' kind
abbrev pub AreBasedOfOneKind : List Based → Type 0
AreBasedOfOneKind based = AllByRecursion IsBasedOfOneKind based

-- The pair's observation stands at its place, the commit has its number, and some change of that commit clashes.
pub record IsHit (based : List Based) (journal : Journal) (found : Found) : Type 0 where
  pub observation : Based
  pub commit : Commit
  pub placed : slice_get based found.place ≡ Some observation
  pub numbered : commit_at journal found.number ≡ Some commit
  pub clashing : list_any (clashes observation) (changes_of commit) ≡ true

-- The witness of a pair names its observation as that was made, with the base of the attempt and no front; the number of its
-- commit; and the part, of what that commit does at the observation's address, that clashes.
pub record IsWitnessOf (based : List Based) (journal : Journal) (found : Found) (witness : Witness) : Type 0 where
  pub observation : Based
  pub commit : Commit
  pub delta : Delta
  pub placed : slice_get based found.place ≡ Some observation
  pub numbered : commit_at journal found.number ≡ Some commit
  pub changed : delta_at commit.deltas observation.address ≡ Some delta
  pub names : Names observation (record { number = found.number; address = observation.address; delta = delta }) witness

-- a counter that was read at 0, and an addition by commit 1
hit-example :
    IsHit (record { address = record { kind = kind.Counter; key = codes "x" }; obs = obs.CounterIs; base = 0 } ∷ []) (adding 1 (codes "x") ∷ [])
    (record { place = 0; number = 1 })
hit-example = record { observation = _; commit = _; placed = refl; numbered = refl; clashing = refl }

-- its witness, which names the addition
witness-example :
    IsWitnessOf (record { address = record { kind = kind.Counter; key = codes "x" }; obs = obs.CounterIs; base = 0 } ∷ []) (adding 1 (codes "x") ∷ [])
    (record { place = 0; number = 1 })
    (record { address = record { kind = kind.Counter; key = codes "x" }; obs = obs.CounterIs; base = 0; part = op.AddCounter (pos 1); number = 1 })
witness-example = record {
  observation = _;
  commit = _;
  delta = _;
  placed = refl;
  numbered = refl;
  changed = refl;
  names = record { address = refl; observed = refl; base = refl; part = refl; number = refl };
}
