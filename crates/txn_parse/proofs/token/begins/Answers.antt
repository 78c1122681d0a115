use Rattle.predictive_parsing.specs.Reading.{next}
use Rattle.txn_parse.proofs.Heads.{begins_is}
use Rattle.txn_parse.proofs.token.begins.Goals as goal

pub returns : goal.returns
returns g c = λ f made. begins_is f (next c.args.cursor.now) c.ahead.result c.is_some.result c.is_some.ensures (c.ahead.ensures f made)
