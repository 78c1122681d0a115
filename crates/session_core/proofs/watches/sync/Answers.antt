use Rattle.client_watches.specs.Lines as watches
use Rattle.session_core.proofs.LinePerforming.{watched}
use Rattle.session_core.proofs.watches.sync.Goals as goal

pub returns-clause-plays : goal.returns-clause-plays
returns-clause-plays g c =
    watched _ _ _ _ c.args.session.now (watches.sync c.args.session.now.watching) c.sync_by.result c.turned.result c.sync_by.new.self c.turned.ensures c.sync_by.ensures.plays
