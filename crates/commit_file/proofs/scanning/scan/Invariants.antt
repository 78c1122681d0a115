use Rattle.std.proofs.Common.{drop, length}
use Rattle.commit_file.proofs.Scanned.{IsBegun}
use Rattle.commit_file.proofs.scanning.scan.Given as goal

abbrev pub invariant-loop-payload : goal.invariant-loop-payload
invariant-loop-payload g l =
    IsBegun g.C.Chain.follows l.version (g.C.Chain.payloads l.fn.chain) l.bytes l.rest
    (drop (length (g.C.Chain.payloads l.fn.chain)) (g.C.Chain.payloads l.chain)) (g.C.Chain.payloads l.chain)

abbrev pub decreases-loop-payload : goal.decreases-loop-payload
decreases-loop-payload g l = length l.rest
