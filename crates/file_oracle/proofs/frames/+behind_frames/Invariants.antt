use Rattle.std.proofs.Common.{length}
use Rattle.file_oracle.proofs.frames.+behind_frames.Given as goal

-- fewer bytes are left
abbrev pub decreases-behind_frames : goal.decreases-behind_frames
decreases-behind_frames l = length l.bytes.now
