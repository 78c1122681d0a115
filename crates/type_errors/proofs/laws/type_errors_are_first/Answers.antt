use Rattle.type_errors.proofs.Statements.{type_errors_are_first as lemma}
use Rattle.type_errors.proofs.laws.type_errors_are_first.Goals as goal

pub returns : goal.returns
returns c = lemma
