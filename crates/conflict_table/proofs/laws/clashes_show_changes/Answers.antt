use Rattle.conflict_table.proofs.Rows.{clashes_show_changes}
use Rattle.conflict_table.proofs.laws.clashes_show_changes.Goals as goal

pub returns : goal.returns
returns c = clashes_show_changes
