use Rattle.std.proofs.Common.{take, sym, subst}
use Rattle.diamond_store.specs.Reading.{Finds, IfWanted}
use Rattle.local_world.specs.Answering.{WantsWitness}
use Rattle.diamond_store.proofs.Validated.{found-told, found-wanted}
use Rattle.diamond_store.proofs.replica.validate.Goals as goal

pub returns-clause-finds : goal.returns-clause-finds
returns-clause-finds g c = λ m journal sound within holds bases.
    let s = c.args.shard.now in
    subst (Finds journal s.window s.number c.args.based.now s.front) (sym c.front_told.ensures)
    (found-told m journal sound s holds within c.args.based.now c.requires.kinds bases c.validate-found.result
    (c.validate-found.ensures.answers (take s.front journal) holds))

pub returns-clause-want : goal.returns-clause-want
returns-clause-want g c = λ journal holds.
    let s = c.args.shard.now in
    subst (λ a. IfWanted a (WantsWitness journal s c.args.based.now)) (sym c.front_told.ensures)
    (found-wanted journal s c.args.based.now c.validate-found.result (c.validate-found.ensures.answers (take s.front journal) holds))
