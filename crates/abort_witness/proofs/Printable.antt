-- No abort names an `over` that was true, since nothing clashes with one and so it has no part that is named.
use Rattle.std.proofs.Common.{◌≡◌, true, false, Some, refl, sym, subst}
use Rattle.rdt_types.specs.declared.operation.WriteOp.{WriteOp}
use Rattle.rdt_types.specs.declared.delta.Delta.{Delta}
use Rattle.conflict_table.specs.declared.observation.Obs.{Obs}
use Rattle.conflict_table.specs.declared.observation.Obs.TheVariants as obs
use Rattle.conflict_table.specs.Parts.{named}
use Rattle.abort_witness.specs.Naming.{IsPrintable, WitnessesArePrintable}

-- what has a named part is printable
named-printable : (o : Obs) (d : Delta) (part : WriteOp) → named o d ≡ Some part → IsPrintable o
named-printable (obs.PeakOver n true) d part e = absurd (cc)
named-printable (obs.PeakOver n false) d part e = refl
named-printable _ d part e = tt

-- and a witness names what has one
pub witnesses-printable : WitnessesArePrintable
witnesses-printable based change witness names = subst IsPrintable (sym names.observed) (named-printable based.obs change.delta witness.part names.part)
