use Rattle.std.proofs.Common.{sym}
use Rattle.remote_service.proofs.Meant.{short, read-kept}
use Rattle.remote_service.proofs.service.Service.read.Goals as goal

-- what was given is kept
pub returns-clause-serves : goal.returns-clause-serves
returns-clause-serves g c = read-kept g.B.Backend.known g.B.Backend.goes c.args.self.now c.args.backend.now c.read-outcome.new.self
    c.requires.serves c.keep_snap.new.self c.args.address.now (short c.args.address.now (sym c.if-not-is_short.ensures)) c.read-outcome.result
    c.seen.result c.keep_snap.result c.read-outcome.ensures.goes c.keep_snap.ensures
