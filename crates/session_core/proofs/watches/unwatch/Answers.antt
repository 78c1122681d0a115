use Rattle.client_watches.specs.Lines as watches
use Rattle.session_core.proofs.LinePerforming.{watched}
use Rattle.session_core.proofs.watches.unwatch.Goals as goal

pub returns-clause-plays : goal.returns-clause-plays
returns-clause-plays g c =
    watched _ _ _ _ c.args.session.now (watches.unwatch c.args.session.now.watching c.args.name.now) c.unwatch.result c.turned.result c.unwatch.new.self c.turned.ensures c.unwatch.ensures.plays
