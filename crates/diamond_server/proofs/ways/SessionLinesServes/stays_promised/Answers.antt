use Rattle.diamond_server.proofs.Settled.{lines-stay}
use Rattle.diamond_server.proofs.ways.SessionLinesServes.stays_promised.Goals as goal

pub returns : goal.returns
returns g c = lines-stay
