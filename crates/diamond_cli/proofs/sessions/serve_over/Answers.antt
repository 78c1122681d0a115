use Rattle.std.proofs.Common.{ap}
use Rattle.diamond_cli.proofs.Served.{has-served}
use Rattle.diamond_cli.proofs.sessions.serve_over.Goals as goal

-- the pass has learnt all that came of the links, and then closes the store
pub returns-clause-served : goal.returns-clause-served
returns-clause-served g c =
    let closed = c.close-keeper.ensures in
    has-served _ _ _ _ _ _ _ _ _ _ _ _ _ _ _ _ (ap (λ l. l.first) c.requires.lock) (ap (λ l. l.origin) c.requires.lock) c.in_ok-store.ensures.pass
    c.requires.base c.requires.clients c.serve_links.ensures.learns c.in_ok-tally.ensures.served closed.begins closed.legal closed.counted
