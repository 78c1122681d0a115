use Rattle.record_code.proofs.Maps.{map_found, map_lost}
use Rattle.record_code.proofs.deltas.in_order.Goals as goal

pub returns-in-Some-clause-read : goal.returns-in-Some-clause-read
returns-in-Some-clause-read g c = map_found c.args.pairs.items _ c.in-Some.ensures.some

pub returns-in-None-clause-read : goal.returns-in-None-clause-read
returns-in-None-clause-read g c = map_lost c.args.pairs.items c.in-None.ensures.none
