use Rattle.record_code.proofs.Answered.{read_again, not_read}
use Rattle.record_code.proofs.encoding.encode.Goals as goal

pub returns-clause-again : goal.returns-clause-again
returns-clause-again c = read_again c.args.commit.now c.spell.result c.spell.ensures.written c.spell.ensures.room

pub returns-clause-untold : goal.returns-clause-untold
returns-clause-untold c = not_read c.args.commit.now c.spell.result c.spell.ensures.written c.spell.ensures.room
