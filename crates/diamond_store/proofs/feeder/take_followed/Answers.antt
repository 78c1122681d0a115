use Rattle.diamond_store.proofs.Sound.{lawful-sound}
use Rattle.diamond_store.proofs.Told.{tells-later}
use Rattle.diamond_store.proofs.feeder.take_followed.Goals as goal

pub returns-clause-tells : goal.returns-clause-tells
returns-clause-tells g c =
    let first = c.from_registry.new.post.token.seen in
    let t = c.from_journal in
    tells-later first t.new.token.seen t.ensures.begins (lawful-sound g.N.Naming.lock.base t.new.token.seen t.ensures.lawful).orderly.numbered
    c.enter_anew.new.registry (c.enter_anew.ensures.tells first c.from_registry.ensures.tells)
