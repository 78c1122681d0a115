use Rattle.std.proofs.Common.{length}
use Rattle.edge_slab.specs.Edges.{places_of}
use Rattle.edge_slab.proofs.Dropping.{DroppedSoFar}
use Rattle.edge_slab.proofs.edges.EdgeSlab.drop_subscriber.Given as goal

-- what went so far is of the subscriber
abbrev pub invariant-loop-place : goal.invariant-loop-place
invariant-loop-place l = DroppedSoFar l.fn.self l.subscriber l.self

abbrev pub decreases-loop-place : goal.decreases-loop-place
decreases-loop-place l = length (places_of l.self l.subscriber)
