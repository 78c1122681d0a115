use Rattle.std.specs.Prelude.{refl}
use Rattle.std.specs.Fmt.{digits}
use Rattle.language_lines.proofs.operations.writes_mean.Goals as goal

pub returns-clause-parts : goal.returns-clause-parts
unfolding digits
returns-clause-parts c = refl
