use Rattle.txn_grammar.proofs.Blanks.{keep_tokens, keep_body, keep_column, end_behind}
use Rattle.txn_grammar.proofs.laws.blanks_at_the_end.Goals as goal

pub returns-clause-tokens : goal.returns-clause-tokens
returns-clause-tokens c z w all = keep_tokens z w all

pub returns-clause-same : goal.returns-clause-same
returns-clause-same c z w all = keep_body z w all

pub returns-clause-column : goal.returns-clause-column
returns-clause-column c z w all l = keep_column z w all l

pub returns-clause-too_early : goal.returns-clause-too_early
returns-clause-too_early c z w all l = end_behind z w all l
