use Rattle.wire_frames.proofs.Cut.{broken-no_frame}
use Rattle.wire_frames.proofs.laws.broken_is_no_frame.Goals as goal

pub returns : goal.returns
returns c = broken-no_frame
