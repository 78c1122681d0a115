use Rattle.remote_wire.proofs.RequestCodes.{is_spelled, is_read_again}
use Rattle.remote_wire.proofs.requesting.encode_request.Goals as goal

pub returns-clause-spelled : goal.returns-clause-spelled
returns-clause-spelled c =
    is_spelled c.args.request.now c.spell.result c.spell.ensures.written c.spell.ensures.form c.spell.ensures.short

pub returns-clause-again : goal.returns-clause-again
returns-clause-again c =
    is_read_again c.args.request.now c.spell.result c.spell.ensures.written
    (is_spelled c.args.request.now c.spell.result c.spell.ensures.written c.spell.ensures.form c.spell.ensures.short)
