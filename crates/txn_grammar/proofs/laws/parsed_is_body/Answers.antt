use Rattle.txn_grammar.proofs.Parses.{parsed_sound, parsed_complete, body_unique}
use Rattle.txn_grammar.proofs.laws.parsed_is_body.Goals as goal

pub returns-clause-same : goal.returns-clause-same
returns-clause-same c z b = (parsed_sound z b, parsed_complete z b)

pub returns-clause-unique : goal.returns-clause-unique
returns-clause-unique c ts a b r s = body_unique ts a b r s
