use Rattle.std.proofs.Common.{length}
use Rattle.file_oracle.proofs.frames.+payloads.Given as goal

-- fewer bytes are left
abbrev pub decreases-payloads : goal.decreases-payloads
decreases-payloads l = length l.bytes.now
