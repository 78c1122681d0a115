use Rattle.std.specs.Prelude.{refl}
use Rattle.std.specs.Fmt.{digits}
use Rattle.language_lines.proofs.printing.values_are_printed_so.Goals as goal

pub returns-clause-texts : goal.returns-clause-texts
returns-clause-texts c = refl

pub returns-clause-addresses : goal.returns-clause-addresses
returns-clause-addresses c = refl

pub returns-clause-items : goal.returns-clause-items
unfolding digits
returns-clause-items c = refl

pub returns-clause-outcomes : goal.returns-clause-outcomes
unfolding digits
returns-clause-outcomes c = refl
