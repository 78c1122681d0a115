use Rattle.std.proofs.Common.{◌∙◌}
use Rattle.diamond_store.proofs.store.replicas.Goals as goal

pub returns-in_err-new-clause-same : goal.returns-in_err-new-clause-same
returns-in_err-new-clause-same g c = c.split-copy.ensures.unchanged ∙ c.loop-place.invariant.token
