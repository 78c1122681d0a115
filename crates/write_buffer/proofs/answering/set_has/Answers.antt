use Rattle.std.proofs.Common.{sym}
use Rattle.write_buffer.proofs.Over.{has_none, other_set}
use Rattle.write_buffer.proofs.answering.set_has.Goals as goal

pub returns-in_default : goal.returns-in_default
returns-in_default c = rw c.in-Some.is (sym (has_none _ c.args.element.now (other_set c.in-Some.own.now c.args.value.now c.in_default.not-Set)))
