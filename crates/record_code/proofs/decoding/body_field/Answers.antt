use Rattle.record_code.proofs.Answered.{placed_reads, placed_keeps}
use Rattle.record_code.proofs.decoding.body_field.Goals as goal

pub returns-clause-text : goal.returns-clause-text
returns-clause-text c = placed_reads (λ read. (read.0.source, read.1.now)) _ _ _ _ c.read_body.ensures.text c.placed.ensures.place

pub returns-clause-tree : goal.returns-clause-tree
returns-clause-tree c = placed_keeps _ _ _ _ c.read_body.ensures.tree c.placed.ensures.place
