use Rattle.std.proofs.Common.{◌≡◌, fold, drop}
use Rattle.serve_status.specs.Frames.{with_byte}
use Rattle.serve_status.proofs.frames.FileReading.behind.Given as goal

-- what the rest tells behind what was read is what all of it tells
abbrev pub invariant-loop-byte : goal.invariant-loop-byte
invariant-loop-byte l = fold with_byte l.reading (drop l.byte-index l.bytes) ≡ fold with_byte l.fn.self l.bytes
