use Rattle.std.proofs.Common.{◌≤◌, take, IfOk, OnErr, sym, subst}
use Rattle.version_shard.specs.Shards.{horizon}
use Rattle.diamond_store.specs.Reading.{ReadsBack}
use Rattle.diamond_store.proofs.Validated.{back-told, back-wanted}
use Rattle.diamond_store.proofs.replica.value_at.Goals as goal

pub returns-clause-reads : goal.returns-clause-reads
returns-clause-reads c = λ journal within holds.
    let s = c.args.shard.now in
    subst (λ t. IfOk t (ReadsBack journal s.window c.args.address.now c.args.number)) (sym c.value_told.ensures)
    (back-told journal s c.args.address.now c.args.number c.requires.within within c.read_at-answer.result
    (c.read_at-answer.ensures (take s.front journal) holds))

pub returns-clause-err : goal.returns-clause-err
returns-clause-err c = λ journal holds.
    subst (λ t. OnErr t (horizon c.args.shard.now ≤ c.args.number)) (sym c.value_told.ensures)
    (back-wanted journal c.args.shard.now c.args.address.now c.args.number c.read_at-answer.result (c.read_at-answer.ensures journal holds))
