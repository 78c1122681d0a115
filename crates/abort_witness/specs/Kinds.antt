-- The parts of an observation and of a witness are of one kind, that of the address.
use Rattle.std.specs.Prelude.{◌≡◌, pos, false, codes, refl}
use Rattle.rdt_types.specs.declared.address.Kind.TheVariants as kinds
use Rattle.rdt_types.specs.declared.operation.WriteOp.TheVariants as op
use Rattle.rdt_types.specs.Values.{kind_written}
use Rattle.conflict_table.specs.declared.observation.Obs.TheVariants as obs
use Rattle.conflict_table.specs.Observing.{kind_observed}
use Rattle.abort_witness.specs.declared.witness.Based.{Based}
use Rattle.abort_witness.specs.declared.witness.Witness.{Witness}

-- an observation of its address' kind
pub record IsBasedOfOneKind (based : Based) : Type 0 where
  pub observed : kind_observed based.obs ≡ based.address.kind

-- a witness whose observation and part are of its address' kind
pub record IsOfOneKind (witness : Witness) : Type 0 where
  pub observed : kind_observed witness.obs ≡ witness.address.kind
  pub written : kind_written witness.part ≡ witness.address.kind

-- an addition beside a counter
counted : IsOfOneKind (record {
  address = record { kind = kinds.Counter; key = codes "x" };
  obs = obs.CounterIs;
  base = 3;
  part = op.AddCounter (pos 1);
  number = 4;
})
counted = record { observed = refl; written = refl }

-- a raise beside an `over` of a peak
raised : IsOfOneKind (record {
  address = record { kind = kinds.Peak; key = codes "bid" };
  obs = obs.PeakOver (pos 60) false;
  base = 4;
  part = op.Raise (pos 61);
  number = 5;
})
raised = record { observed = refl; written = refl }
