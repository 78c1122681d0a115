use Rattle.conflict_table.proofs.Others.{no_field}
use Rattle.write_buffer.proofs.answering.field_in.Goals as goal

pub returns-in_default : goal.returns-in_default
returns-in_default c = no_field c.args.value.now c.args.field.now c.in_default.not-Hash
