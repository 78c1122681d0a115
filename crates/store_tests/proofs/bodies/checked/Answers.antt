use Rattle.store_tests.proofs.Appending.{checked-tree}
use Rattle.store_tests.proofs.bodies.checked.Goals as goal

pub returns-clause-read : goal.returns-clause-read
returns-clause-read c =
    checked-tree c.check.result c.args.source.now c.in-Ok-from_slice.text c.in-Ok.body c.in-Ok.ensures.tree c.in-Ok-from_slice.ensures c.check.ensures.body
    c.check.ensures.source c.check.ensures.typed
