use Rattle.std.proofs.Common.{length}
use Rattle.file_oracle.proofs.checking.+checked.Given as goal

-- fewer payloads are left
abbrev pub decreases-checked : goal.decreases-checked
decreases-checked g l = length l.payloads.now
