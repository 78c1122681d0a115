use Rattle.diamond_server.proofs.Settled.{sides-same}
use Rattle.diamond_server.proofs.ended.closed.Goals as goal

-- what a link tells stays where it is ended
pub returns-clause-same : goal.returns-clause-same
returns-clause-same g c =
    sides-same g.L.Source g.L.Sink c.end.new.self c.args.link c.end.ensures.left c.end.ensures.taken c.end.ensures.passed c.end.ensures.read_faults
    c.end.ensures.write_faults
