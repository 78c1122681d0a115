use Rattle.record_code.proofs.Answered.{placed_reads, placed_fits}
use Rattle.record_code.proofs.decoding.client_field.Goals as goal

pub returns-clause-read : goal.returns-clause-read
returns-clause-read c =
    placed_reads (λ read. (read.0, read.1.now)) _ _ _ _ c.read_client.ensures.read c.placed.ensures.place

pub returns-clause-told : goal.returns-clause-told
returns-clause-told c = placed_fits _ _ c.read_client.ensures.told c.placed.ensures.fits
