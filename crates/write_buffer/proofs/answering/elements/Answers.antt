use Rattle.std.proofs.Common.{sym, ◌∙◌}
use Rattle.write_buffer.proofs.Over.{keys_none, not_set}
use Rattle.write_buffer.proofs.answering.elements.Goals as goal

pub returns-in_default : goal.returns-in_default
returns-in_default c = c.new.ensures ∙ sym (keys_none _ (not_set c.args.value.now c.in_default.not-Set))
