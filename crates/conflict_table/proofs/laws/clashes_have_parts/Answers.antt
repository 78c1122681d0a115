use Rattle.conflict_table.proofs.Named.{clashes_have_parts}
use Rattle.conflict_table.proofs.laws.clashes_have_parts.Goals as goal

pub returns : goal.returns
returns c = clashes_have_parts
