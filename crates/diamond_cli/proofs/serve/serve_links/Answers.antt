use Rattle.std.proofs.Common.{refl}
use Rattle.diamond_cli.proofs.Served.{ok-map, no-clients, none-follow, same-served}
use Rattle.diamond_cli.proofs.serve.serve_links.Goals as goal

-- the store begins with no commit
pub serve_kept-requires-clause-lawful : goal.serve_kept-requires-clause-lawful
serve_kept-requires-clause-lawful g c ks h = none-follow _ c.new-none.ensures

pub serve_kept-requires-clause-clients : goal.serve_kept-requires-clause-clients
serve_kept-requires-clause-clients g c ks h = no-clients _ c.new-none.ensures

-- all sessions ended, and the line was tried
pub returns-clause-ended : goal.returns-clause-ended
returns-clause-ended g c =
    ok-map c.say.result _ _ (λ status said. record {
      tally = c.in_ok-served.served.tally;
      journal = c.in_ok-served.served.commits;
      served = same-served _ _ _ _ _ _ _ _ _ _ _ _ c.new-none.ensures refl c.in_ok-served.ensures.served;
      said = said;
    }) c.say.ensures.said
