use Rattle.rerun_lines.proofs.AtOnce.{at-once}
use Rattle.rerun_lines.proofs.laws.reruns_at_once.Goals as goal

pub returns : goal.returns
returns c = at-once
