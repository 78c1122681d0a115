use Rattle.diamond_server.proofs.ways.SessionLinesServes.tells_faults.Goals as goal

pub returns : goal.returns
returns g c = λ k l m status x y p. p.1
