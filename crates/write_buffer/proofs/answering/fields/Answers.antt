use Rattle.std.proofs.Common.{sym, ◌∙◌}
use Rattle.write_buffer.proofs.Over.{keys_none, not_hash}
use Rattle.write_buffer.proofs.answering.fields.Goals as goal

pub returns-in_default : goal.returns-in_default
returns-in_default c = c.new.ensures ∙ sym (keys_none _ (not_hash c.args.value.now c.in_default.not-Hash))
