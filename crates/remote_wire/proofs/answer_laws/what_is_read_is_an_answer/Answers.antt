use Rattle.remote_wire.proofs.AnswerCodes.{what_is_read_is_an_answer as lemma}
use Rattle.remote_wire.proofs.answer_laws.what_is_read_is_an_answer.Goals as goal

pub returns : goal.returns
returns c = lemma
