use Rattle.abort_witness.proofs.Printable.{witnesses-printable}
use Rattle.abort_witness.proofs.laws.witnesses_are_printable.Goals as goal

pub returns : goal.returns
returns c = witnesses-printable
