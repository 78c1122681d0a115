use Rattle.std.proofs.Common.{ℕ, ◌≤◌, subst}
use Rattle.rdt_types.specs.declared.limits.TheConstants.{LEAST_SHARDS, MOST_SHARDS}
use Rattle.diamond_server.proofs.Settled.{promises-map, served-explained, cut-explained}
use Rattle.diamond_server.proofs.Talked.{new-attends}
use Rattle.diamond_server.proofs.ways.SessionLinesServes.serve.Goals as goal

-- the session is explained by what its backend knows at its end
pub returns-clause-promises : goal.returns-clause-promises
returns-clause-promises g c =
    let range = subst (λ (n : ℕ). (LEAST_SHARDS ≤ n) × (n ≤ MOST_SHARDS)) c.shards-shards.ensures.shards c.shards-shards.ensures.in_range in
    let begins = new-attends (g.B.Backend.known c.args.backend.now) range c.seen-seen.ensures.readable c.requires.new in (
      promises-map _ _ _ _ _ _ _ _ _ (λ Reads. served-explained g.B.Backend.known g.B.Backend.goes _ _ _ _ Reads begins)
          (λ Takes. cut-explained g.B.Backend.known g.B.Backend.goes _ _ _ _ Takes begins) c.serve_by.ensures.promises,
      c.serve_by.ensures.told,
    )
