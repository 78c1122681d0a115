use Rattle.std.proofs.Common.{take, IfOk, OnErr, sym, subst}
use Rattle.txn_lang.specs.declared.commit.Commit.{Commit}
use Rattle.docc_prepare.specs.Serial.{AreOfTheirKinds}
use Rattle.docc_prepare.proofs.Each.{each-take}
use Rattle.docc_prepare.proofs.Growing.{legal_is_orderly}
use Rattle.local_world.specs.Answering.{IsValidatedBy, WantsWitness}
use Rattle.local_world.proofs.Validated.{as-told, as-wanted}
use Rattle.local_world.proofs.following.validate_in.Goals as goal

pub returns-clause-answer : goal.returns-clause-answer
returns-clause-answer g c = λ journal legal holds.
    subst (λ t. IfOk t (IsValidatedBy journal c.args.shard.now c.args.based.now)) (sym c.front_told.ensures)
    (as-told (take c.args.shard.now.front journal) c.args.shard.now c.args.based.now holds.readable
    (record {
      numbered = holds.readable.numbered;
      kinds = each-take (λ (commit : Commit). AreOfTheirKinds commit.deltas) c.args.shard.now.front journal (legal_is_orderly journal legal).kinds;
    })
    c.requires.kinds c.validate-found.result (c.validate-found.ensures.answers (take c.args.shard.now.front journal) holds))

pub returns-clause-err : goal.returns-clause-err
returns-clause-err g c = λ journal holds.
    subst (λ t. OnErr t (WantsWitness journal c.args.shard.now c.args.based.now)) (sym c.front_told.ensures)
    (as-wanted (take c.args.shard.now.front journal) c.args.shard.now c.args.based.now c.validate-found.result
    (c.validate-found.ensures.answers (take c.args.shard.now.front journal) holds))
