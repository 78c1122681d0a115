use Rattle.client_watches.specs.Lines as watches
use Rattle.session_core.proofs.LinePerforming.{watched}
use Rattle.session_core.proofs.watches.watch.Goals as goal

pub returns-clause-plays : goal.returns-clause-plays
returns-clause-plays g c =
    watched _ _ _ _ c.args.session.now (watches.watch c.args.session.now.watching c.args.new_watch.name c.args.new_watch.body) c.watch_by.result c.turned.result c.watch_by.new.self c.turned.ensures c.watch_by.ensures.plays
