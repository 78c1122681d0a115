use Rattle.std.proofs.lemmas.Result.{err_from_is_err_and}
use Rattle.diamond_server.proofs.Talked.{follows-on, waited-attends, synced-on, told-behind, told-unwoken}
use Rattle.diamond_server.proofs.Stopping.{wakes-failed, wakes-stopped}
use Rattle.diamond_server.proofs.answering.woken.Goals as goal

-- the session goes on where its client was woken
pub waited_by-requires : goal.waited_by-requires
waited_by-requires g c = record {
  follows = follows-on (g.B.Backend.known c.wait.new.self) c.args.session.now
      (waited-attends g.B.Backend.known g.B.Backend.goes c.args.backend.now c.args.session.now c.wait.new.self c.requires.attends c.in_ok-wait.ensures.goes);
}

-- and behind its answer
pub returns-clause-attends : goal.returns-clause-attends
returns-clause-attends g c =
    synced-on g.B.Backend.known g.B.Backend.goes c.wait.new.self c.args.session.now c.waited_by.result c.waited_by.new.backend c.waited_by.new.self
    (waited-attends g.B.Backend.known g.B.Backend.goes c.args.backend.now c.args.session.now c.wait.new.self c.requires.attends c.in_ok-wait.ensures.goes)
    (c.waited_by.ensures.plays c.requires.attends.on)

-- a fault was counted exactly where it tells one, since up to there none was
pub returns-clause-told : goal.returns-clause-told
returns-clause-told g c =
    told-behind c.waited_by.result (g.B.Backend.known c.args.backend.now).faults (g.B.Backend.known c.wait.new.self).faults
    (g.B.Backend.known c.waited_by.new.backend).faults c.in_ok-wait.ensures.goes.answered.goes_on.faults
    (c.waited_by.ensures.told c.requires.attends.on)

-- or exactly where the wait failed by one
pub returns-in_err-wait-clause-told : goal.returns-in_err-wait-clause-told
returns-in_err-wait-clause-told g c =
    let p = err_from_is_err_and c.from_residual.result c.from_residual.ensures.1 in
    rw (p.1, p.2) (told-unwoken _ (g.B.Backend.known c.args.backend.now) (g.B.Backend.known c.wait.new.self) c.in_err-wait.ensures.goes.answered)

-- the wait failed
pub returns-in_err-wait-clause-begun : goal.returns-in_err-wait-clause-begun
returns-in_err-wait-clause-begun g c =
    wakes-failed g.B.Backend.known g.B.Backend.goes c.args.backend.now c.args.session.now _ c.from_residual.result c.wait.new.self
    c.in_err-wait.ensures.goes

-- or what follows it stopped
pub returns-clause-begun : goal.returns-clause-begun
returns-clause-begun g c =
    wakes-stopped g.B.Backend.known g.B.Backend.goes c.args.backend.now c.args.session.now c.wait.new.self c.waited_by.result c.waited_by.new.backend
    c.waited_by.new.self c.in_ok-wait.ensures.goes (c.waited_by.ensures.plays c.requires.attends.on)
