use Rattle.rerun_lines.proofs.Repeated.{reruns-repeated}
use Rattle.rerun_lines.proofs.laws.reruns_are_repeated.Goals as goal

pub returns : goal.returns
returns c = reruns-repeated
