use Rattle.std.proofs.Common.{ℕ, ◌≤◌, subst, ◌∙◌}
use Rattle.rdt_types.specs.declared.limits.TheConstants.{LEAST_SHARDS, MOST_SHARDS}
use Rattle.session_core.proofs.Kept.{opened-is}
use Rattle.session_core.proofs.verbs.opened.Goals as goal

pub returns : goal.returns
returns g c = opened-is c.begin.result (g.B.Backend.known c.args.backend.now).shards c.args.body
    (subst (λ (n : ℕ). (LEAST_SHARDS ≤ n) × (n ≤ MOST_SHARDS)) c.shards.ensures.shards c.shards.ensures.in_range)
    c.begin.ensures.body (c.begin.ensures.shards ∙ c.shards.ensures.shards) c.begin.ensures.unread c.begin.ensures.unprepared
