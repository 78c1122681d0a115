use Rattle.std.proofs.Common.{◌≡◌, fold, drop}
use Rattle.std.specs.List.{flat_map}
use Rattle.rdt_types.specs.Printed.{spelled, spelling_of}
use Rattle.rdt_types.specs.Shards.{hashed}
use Rattle.rdt_types.proofs.shard.hashed_text.Given as goal

-- the rest after what was hashed is the whole
abbrev pub invariant-loop-byte : goal.invariant-loop-byte
invariant-loop-byte l =
    fold hashed l.hash (flat_map (λ b. spelled (spelling_of b)) (drop l.byte-index l.text))
    ≡ fold hashed (hashed l.fn.hash 34) (flat_map (λ b. spelled (spelling_of b)) l.text)
