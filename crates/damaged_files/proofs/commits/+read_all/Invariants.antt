use Rattle.std.proofs.Common.{length}
use Rattle.damaged_files.proofs.commits.+read_all.Given as goal

-- fewer payloads are left
abbrev pub decreases-read_all : goal.decreases-read_all
decreases-read_all l = length l.payloads.now
