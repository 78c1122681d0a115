use Rattle.std.proofs.Math.Facts.{Fits-lt-pow}
use Rattle.remote_link.proofs.ReadBack.{reads_answer}
use Rattle.remote_link.proofs.exchange.answer_of.Goals as goal

pub returns : goal.returns
returns c = reads_answer c.args.request.now c.args.bytes.now c.in_ok-decode_answer.field-0 (λ k. Fits-lt-pow (c.type_inv.bytes k)) c.in_ok-decode_answer.ensures.decoded
