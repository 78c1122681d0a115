use Rattle.std.proofs.Common.{length}
use Rattle.store_tests.proofs.bodies.+ends_in_blank.Given as goal

-- the text gets shorter
abbrev pub decreases-ends_in_blank : goal.decreases-ends_in_blank
decreases-ends_in_blank l = length l.text.now
