use Rattle.diamond_cli.proofs.Recovered.{filed-serves}
use Rattle.diamond_cli.proofs.file.serve_way.Goals as goal

-- all sessions ended, and the line was tried
pub returns-in-Ok-clause-serves : goal.returns-in-Ok-clause-serves
returns-in-Ok-clause-serves g c = filed-serves _ _ _ _ _ _ _ _ c.in-Ok.ensures.filed

-- and so has each link
pub returns-in-Ok-clause-ends : goal.returns-in-Ok-clause-ends
returns-in-Ok-clause-ends g c = λ no. c.in-Ok.ensures.ends
