use Rattle.std.proofs.Common.{subst, sym}
use Rattle.diamond_server.specs.Accounts.{IsTold}
use Rattle.diamond_server.specs.Ways.{having_met}
use Rattle.diamond_server.proofs.ended.settle.Goals as goal

-- as of the client
pub returns-in-Ok-clause-told : goal.returns-in-Ok-clause-told
returns-in-Ok-clause-told g c x y status told =
    subst (IsTold g.S.Serves.promised (having_met c.args.pass.now) x y status) (sym c.in-Ok.is)
    (c.settle.ensures.told x y status (subst (IsTold g.S.Serves.promised (λ p. p) x y status) c.in-Ok.is told))
