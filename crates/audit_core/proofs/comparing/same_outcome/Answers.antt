use Rattle.std.proofs.lemmas.Bool.Decides.{Decides-at}
use Rattle.audit_core.proofs.Same.{outcome_tells}
use Rattle.audit_core.proofs.comparing.same_outcome.Goals as goal

pub returns : goal.returns
returns c = Decides-at _ _ c.eq.ensures (outcome_tells c.args.a.now c.args.b.now)
