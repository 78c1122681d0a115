use Rattle.std.proofs.Common.{sym, ◌∙◌}
use Rattle.write_buffer.proofs.Over.{keys_none, other_hash}
use Rattle.write_buffer.proofs.answering.hash_fields.Goals as goal

pub returns-in_default : goal.returns-in_default
returns-in_default c = rw c.in-Some.is (c.new.ensures ∙ sym (keys_none _ (other_hash c.in-Some.own.now c.args.value.now c.in_default.not-Hash)))
