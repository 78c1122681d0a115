use Rattle.std.proofs.Common.{arith}
use Rattle.journal_relay.proofs.Prefixes.{length-prefix}
use Rattle.diamond_store.proofs.Sound.{lawful-sound}
use Rattle.diamond_store.proofs.Told.{tells-later, tells-followed}
use Rattle.diamond_store.proofs.feeder.follow.Goals as goal

pub returns-in_err-tail-clause-tells : goal.returns-in_err-tail-clause-tells
returns-in_err-tail-clause-tells g c =
    let t = c.tail_all in
    tells-later c.args.post.now.token.seen t.new.token.seen t.ensures.later.seen
    (lawful-sound g.N.Naming.lock.base t.new.token.seen t.ensures.lawful).orderly.numbered c.args.post.now.registry c.requires.tells

pub returns-clause-tells : goal.returns-clause-tells
returns-clause-tells g c =
    let t = c.tail_all in
    let seen = t.new.token.seen in
    let numbered = (lawful-sound g.N.Naming.lock.base seen t.ensures.lawful).orderly.numbered in
    let longer = length-prefix c.args.post.now.token.seen seen t.ensures.later.seen in
    let within = c.requires.within in
    tells-followed seen c.args.post.now.registry c.follow.new.self
    (tells-later c.args.post.now.token.seen seen t.ensures.later.seen numbered c.args.post.now.registry c.requires.tells)
    c.follow.result c.in_ok-tail.tail c.front-front.result c.args.to numbered c.front-front.ensures (omega arith) c.requires.behind c.in_ok-tail.ensures.tail
    c.follow.ensures.front c.follow.ensures.ok c.follow.ensures.as_before c.follow.ensures.err
