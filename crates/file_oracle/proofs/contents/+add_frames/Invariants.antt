use Rattle.std.proofs.Common.{length}
use Rattle.file_oracle.proofs.contents.+add_frames.Given as goal

-- fewer payloads are left
abbrev pub decreases-add_frames : goal.decreases-add_frames
decreases-add_frames l = length l.payloads.now
