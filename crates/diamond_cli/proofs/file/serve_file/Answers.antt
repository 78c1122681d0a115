use Rattle.std.proofs.Common.{true, false}
use Rattle.diamond_cli.proofs.Recovered.{files-form}
use Rattle.diamond_cli.proofs.file.serve_file.Goals as goal

-- links bring requests
pub returns-then-asked-clause-serves : goal.returns-then-asked-clause-serves
returns-then-asked-clause-serves g c = files-form _ true _ _ _ _ _ _ _ c.if-asked.true c.serve_way.ensures.serves

-- or lines
pub returns-else-asked-clause-serves : goal.returns-else-asked-clause-serves
returns-else-asked-clause-serves g c = files-form _ false _ _ _ _ _ _ _ c.if-asked.false c.serve_way-else-asked.ensures.serves
