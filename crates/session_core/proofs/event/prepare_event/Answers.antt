use Rattle.std.proofs.Common.{◌≡◌, List, subst, sym}
use Rattle.abort_witness.specs.declared.witness.Based.{Based}
use Rattle.docc_prepare.specs.Attempts.{in_shard, based}
use Rattle.docc_prepare.specs.Calls.Call.{prepare}
use Rattle.docc_prepare.specs.Calls.{front_answered}
use Rattle.docc_prepare.specs.Backends.{CanPrepare, Goes}
use Rattle.docc_prepare.specs.declared.attempt.Next.TheVariants as next
use Rattle.session_core.proofs.Kept.{can-prepare, some-shards}
use Rattle.session_core.proofs.Performing.{prepare_does}
use Rattle.session_core.proofs.event.prepare_event.Goals as goal

pub prepare-answer-requires : goal.prepare-answer-requires
prepare-answer-requires g c =
    let e : c.args.all.now ≡ in_shard c.args.attempt.now.shards c.args.shard (based c.args.attempt.now.snaps c.args.run.now.observations)
    = c.requires.all in
    subst (CanPrepare (g.B.Backend.known c.args.backend.now) c.args.shard) (sym e)
    (can-prepare (g.B.Backend.known c.args.backend.now) c.args.attempt.now c.args.shard c.args.run.now c.requires.holds
    (some-shards c.args.attempt.now) c.requires.next)

pub returns-clause-plays : goal.returns-clause-plays
returns-clause-plays g c =
    let e : c.args.all.now ≡ in_shard c.args.attempt.now.shards c.args.shard (based c.args.attempt.now.snaps c.args.run.now.observations)
    = c.requires.all in
    λ s. prepare_does s c.args.attempt.now (next.Prepare c.args.shard c.args.run.now) c.requires.next
    (subst (λ (bs : List Based). Goes g.B.Backend.known g.B.Backend.goes c.args.backend.now (prepare c.args.shard bs)
    (front_answered c.prepare-answer.result) c.prepare-answer.new.self) e c.prepare-answer.ensures.goes)
    c.args.shard c.after_prepare.new.attempt c.after_prepare.result c.after_prepare.ensures.turned
