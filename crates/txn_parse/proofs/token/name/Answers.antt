use Rattle.txn_grammar.specs.Tokens.{at, name}
use Rattle.txn_parse.proofs.token.name.Goals as goal

pub returns : goal.returns
returns c = c.take_copy.ensures.reads (at name) c.name_ahead-found.ensures
