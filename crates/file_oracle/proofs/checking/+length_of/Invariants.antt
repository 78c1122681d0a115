use Rattle.std.proofs.Common.{length}
use Rattle.file_oracle.proofs.checking.+length_of.Given as goal

-- fewer payloads are left
abbrev pub decreases-length_of : goal.decreases-length_of
decreases-length_of l = length l.payloads.now
