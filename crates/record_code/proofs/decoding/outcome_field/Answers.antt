use Rattle.record_code.proofs.Answered.{placed_reads}
use Rattle.record_code.proofs.decoding.outcome_field.Goals as goal

pub returns : goal.returns
returns c = placed_reads (λ read. (read.0, read.1.now)) _ _ _ _ c.read.ensures c.placed.ensures.place
