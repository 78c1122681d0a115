use Rattle.std.proofs.Common.{◌≡◌, drop}
use Rattle.predictive_parsing.specs.Bytes.{word}
use Rattle.predictive_parsing.proofs.bytes.Cursor+u8.word.Given as goal

-- the bytes that are still to come
abbrev pub invariant-loop-byte : goal.invariant-loop-byte
invariant-loop-byte l = word (drop l.byte-index l.word) l.self ≡ word l.fn.word l.fn.self
