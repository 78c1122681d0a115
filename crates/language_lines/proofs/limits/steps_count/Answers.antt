use Rattle.std.specs.Prelude.{refl}
use Rattle.std.specs.Fmt.{digits}
use Rattle.language_lines.proofs.limits.steps_count.Goals as goal

pub returns-clause-nodes : goal.returns-clause-nodes
unfolding digits
returns-clause-nodes c = refl
