use Rattle.txn_grammar.specs.Tokens.{at, text}
use Rattle.txn_parse.proofs.token.text.Goals as goal

pub returns : goal.returns
returns c = c.take_copy.ensures.reads (at text) c.text_ahead-found.ensures
