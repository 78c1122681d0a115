use Rattle.std.proofs.Common.{◌≡◌, length, take}
use Rattle.commit_file.specs.Tapes.{IsSpoilt}
use Rattle.commit_file.proofs.moment.spoilt.Given as goal

abbrev pub invariant-loop-from : goal.invariant-loop-from
invariant-loop-from l = record { long : length l.image ≡ length l.bytes; stays : IsSpoilt (take l.from-index l.ranges) l.bytes l.image }
