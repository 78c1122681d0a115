use Rattle.rerun_lines.proofs.AtOnce.{asked}
use Rattle.rerun_lines.proofs.laws.needs_are_asked.Goals as goal

pub returns : goal.returns
returns c = asked
