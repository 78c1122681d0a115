use Rattle.wire_server.proofs.Settled.{promises-known}
use Rattle.wire_server.proofs.serving_all.RequestsServes.serve.Goals as goal

-- what is promised over the backend is so by what it knows
pub returns-clause-promises : goal.returns-clause-promises
returns-clause-promises g c =
    (promises-known g.B.Backend.known g.B.Backend.goes _ _ _ _ _ _ c.serve_wire.ensures.promises, c.serve_wire.ensures.told)
