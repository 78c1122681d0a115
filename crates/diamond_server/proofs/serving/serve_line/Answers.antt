use Rattle.diamond_server.proofs.Held.{settled-on}
use Rattle.diamond_server.proofs.Lines.{turn-settles}
use Rattle.diamond_server.proofs.serving.serve_line.Goals as goal

-- what was held back is passed on, or stays
pub returns-clause-turns : goal.returns-clause-turns
returns-clause-turns g c = turn-settles g.B.Backend.known g.B.Backend.goes _ _ _ _ _ _ _ _ _ _ c.do_line-outcome.result c.settle.result c.do_line-outcome.ensures.turns
    c.settle.ensures.incoming c.settle.ensures.settles

pub returns-clause-attends : goal.returns-clause-attends
returns-clause-attends g c = settled-on c.do_line-outcome.result c.settle.result _ _ _ _ _ c.settle.ensures.settles c.do_line-outcome.ensures.attends
