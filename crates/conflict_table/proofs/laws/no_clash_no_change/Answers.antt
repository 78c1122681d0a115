use Rattle.conflict_table.proofs.Rows.{no_clash_no_change}
use Rattle.conflict_table.proofs.laws.no_clash_no_change.Goals as goal

pub returns : goal.returns
returns c = no_clash_no_change
