use Rattle.serve_status.proofs.Counted.{commits_in-closed}
use Rattle.serve_status.proofs.frames.laws_of_files.Goals as goal

pub returns : goal.returns
returns c = commits_in-closed
