use Rattle.damaged_files.proofs.Owned.{own_none}
use Rattle.damaged_files.proofs.commits.+count_own.Goals as goal

pub returns-in-None-clause-count : goal.returns-in-None-clause-count
returns-in-None-clause-count t c = own_none c.args.client c.args.commits.now c.in-None.ensures.cases
