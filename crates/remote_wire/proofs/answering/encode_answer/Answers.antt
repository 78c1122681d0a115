use Rattle.remote_wire.proofs.AnswerCodes.{is_read_again}
use Rattle.remote_wire.proofs.answering.encode_answer.Goals as goal

pub returns-clause-again : goal.returns-clause-again
returns-clause-again c =
    is_read_again c.args.answer.now c.spell.result c.spell.ensures.written c.spell.ensures.spelled
