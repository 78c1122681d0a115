use Rattle.std.proofs.Common.{◌≡◌, ◌++◌, take}
use Rattle.std.specs.List.{flat_map}
use Rattle.rdt_types.specs.Printed.{spelled, spelling_of}
use Rattle.dtext.proofs.print.push_bytes.Given as goal

-- the bytes so far
abbrev pub invariant-loop-byte : goal.invariant-loop-byte
invariant-loop-byte l = l.out ≡ l.fn.out ++ flat_map (λ byte. spelled (spelling_of byte)) (take l.byte-index l.bytes)
