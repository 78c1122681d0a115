use Rattle.record_code.proofs.Answered.{decoded_ok, decoded_err}
use Rattle.record_code.proofs.decoding.decode_with_body.Goals as goal

pub returns-clause-read : goal.returns-clause-read
returns-clause-read c = decoded_ok (λ read. read.0) c.decode_by.result _ c.decode_by.ensures.commit

pub returns-clause-refused : goal.returns-clause-refused
returns-clause-refused c = decoded_err (λ read. read.0) c.decode_by.result _ c.decode_by.ensures.commit
