use Rattle.txn_grammar.proofs.Parses.{column_there, column_no_body, column_unique, column_computed}
use Rattle.txn_grammar.proofs.laws.syntax_columns.Goals as goal

pub returns-clause-there : goal.returns-clause-there
returns-clause-there c z e = column_there z e

pub returns-clause-of_no_body : goal.returns-clause-of_no_body
returns-clause-of_no_body c z column b x r = column_no_body z column b x r

pub returns-clause-unique : goal.returns-clause-unique
returns-clause-unique c z d e x y = column_unique z d e x y

pub returns-clause-computed : goal.returns-clause-computed
returns-clause-computed c z e = column_computed z e
