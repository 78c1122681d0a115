use Rattle.remote_wire.proofs.AnswerCodes.{answers_are_read as lemma}
use Rattle.remote_wire.proofs.answer_laws.answers_are_read.Goals as goal

pub returns : goal.returns
returns c = lemma
