use Rattle.remote_wire.specs.declared.request.Request.TheVariants as request
use Rattle.docc_prepare.specs.Calls.{Call}
use Rattle.remote_service.specs.Malformed.{can_prepare}
use Rattle.remote_service.proofs.Meant.{passes-as, may-prepare, meant, prepare-responds, prepare-kept}
use Rattle.remote_service.proofs.service.Service.prepare.Goals as goal

-- what passes the test may be prepared
pub prepare-outcome-requires : goal.prepare-outcome-requires
prepare-outcome-requires g c =
    let k = g.B.Backend.known c.args.backend.now in
    may-prepare c.args.self.now k c.args.shard c.args.observed.now c.requires.serves
    (passes-as c.args.self.now k c.args.shard c.args.observed.now c.as_slice.ensures c.shards.ensures.shards c.as_slice-2.ensures
    c.if-not-can_prepare.ensures)

-- by the one call
pub returns-clause-responds : goal.returns-clause-responds
returns-clause-responds g c =
    let k = g.B.Backend.known c.args.backend.now in
    let passes = passes-as c.args.self.now k c.args.shard c.args.observed.now c.as_slice.ensures c.shards.ensures.shards c.as_slice-2.ensures
    c.if-not-can_prepare.ensures in
    meant g.B.Backend.known g.B.Backend.goes c.args.self.now c.keep_front.new.self c.args.backend.now c.prepare-outcome.new.self
    (request.Prepare c.args.shard c.args.observed.now) (can_prepare c.args.self.now.snaps k.shards c.args.shard c.args.observed.now)
    (Call.prepare c.args.shard c.args.observed.now) c.keep_front.result passes
    (prepare-responds g.B.Backend.known g.B.Backend.goes c.args.self.now c.args.backend.now c.prepare-outcome.new.self c.requires.serves
    c.keep_front.new.self c.args.shard c.args.observed.now (may-prepare c.args.self.now k c.args.shard c.args.observed.now c.requires.serves passes)
    c.prepare-outcome.result c.seen.result c.keep_front.result c.seen.ensures.seen c.prepare-outcome.ensures.goes c.keep_front.ensures)

-- what was given is kept
pub returns-clause-serves : goal.returns-clause-serves
returns-clause-serves g c =
    let k = g.B.Backend.known c.args.backend.now in
    let passes = passes-as c.args.self.now k c.args.shard c.args.observed.now c.as_slice.ensures c.shards.ensures.shards c.as_slice-2.ensures
    c.if-not-can_prepare.ensures in
    prepare-kept g.B.Backend.known g.B.Backend.goes c.args.self.now c.args.backend.now c.prepare-outcome.new.self c.requires.serves
    c.keep_front.new.self c.args.shard c.args.observed.now (may-prepare c.args.self.now k c.args.shard c.args.observed.now c.requires.serves passes)
    c.prepare-outcome.result c.seen.result c.keep_front.result c.prepare-outcome.ensures.goes c.keep_front.ensures
