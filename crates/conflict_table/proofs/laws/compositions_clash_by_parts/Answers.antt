use Rattle.conflict_table.proofs.Rows.{compositions_clash_by_parts}
use Rattle.conflict_table.proofs.laws.compositions_clash_by_parts.Goals as goal

pub returns : goal.returns
returns c = compositions_clash_by_parts
