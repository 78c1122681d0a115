use Rattle.wire_server.proofs.Settled.{requests-stay}
use Rattle.wire_server.proofs.serving_all.RequestsServes.stays_promised.Goals as goal

pub returns : goal.returns
returns c = requests-stay
