use Rattle.client_watches.specs.GoingOn.{WatchLine}
use Rattle.session_core.specs.declared.line.Line.TheVariants as asked
use Rattle.session_core.proofs.Accounting.{line_attends, line_accounted}
use Rattle.session_core.proofs.Quiet.{watches_owe}
use Rattle.session_core.proofs.Stopping.{does_quiet}
use Rattle.session_core.proofs.acting.sync_turn.Goals as goal

pub returns-clause-accounted : goal.returns-clause-accounted
returns-clause-accounted g c = line_accounted _ _ _ _ c.args.session.now c.sync.new.session asked.Sync c.requires.attends tt c.sync.result
    (does_quiet _ _ _ _ _ _ c.sync.result (watches_owe c.args.session.now WatchLine.sync) c.sync.ensures.plays)

pub returns-clause-attends : goal.returns-clause-attends
returns-clause-attends g c = line_attends _ _ _ _ c.args.session.now c.sync.new.session asked.Sync c.requires.attends tt c.sync.result
    (does_quiet _ _ _ _ _ _ c.sync.result (watches_owe c.args.session.now WatchLine.sync) c.sync.ensures.plays)

pub returns-clause-plays : goal.returns-clause-plays
returns-clause-plays g c = c.sync.ensures.plays
