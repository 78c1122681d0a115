use Rattle.conflict_table.proofs.Named.{parts_clash_alone}
use Rattle.conflict_table.proofs.laws.parts_clash_alone.Goals as goal

pub returns : goal.returns
returns c = parts_clash_alone
