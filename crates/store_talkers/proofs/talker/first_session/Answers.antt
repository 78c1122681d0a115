use Rattle.std.proofs.Common.{ℕ, ◌≤◌, sym, subst, ◌∙◌}
use Rattle.rdt_types.specs.declared.limits.TheConstants.{LEAST_SHARDS, MOST_SHARDS}
use Rattle.session_core.specs.declared.session.Session.{Session}
use Rattle.session_core.specs.Holding.{Follows}
use Rattle.diamond_server.proofs.Talked.{new-attends, first-is}
use Rattle.store_talkers.proofs.talker.first_session.Goals as goal

-- a new client's session goes on
pub returns : goal.returns
returns g c =
    let known = g.B.Backend.known c.args.backend.now in
    let shards = subst (λ (n : ℕ). (LEAST_SHARDS ≤ n) × (n ≤ MOST_SHARDS)) c.shards-shards.ensures.shards c.shards-shards.ensures.in_range in
    let is = c.new.ensures ∙ first-is known c.client.result c.seen.result c.client.ensures c.seen.ensures.seen in
    subst (λ (s : Session). Follows known s) (sym is) (new-attends known shards c.seen.ensures.readable c.requires)
