use Rattle.std.proofs.Common.{length}
use Rattle.damaged_files.proofs.commits.+count_own.Given as goal

-- fewer commits are left
abbrev pub decreases-count_own : goal.decreases-count_own
decreases-count_own l = length l.commits.now
