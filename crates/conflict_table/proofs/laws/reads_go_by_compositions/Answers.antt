use Rattle.conflict_table.proofs.Composing.{reads_go_by_compositions}
use Rattle.conflict_table.proofs.laws.reads_go_by_compositions.Goals as goal

pub returns : goal.returns
returns c = reads_go_by_compositions
