use Rattle.std.proofs.Common.{sym, ◌∙◌}
use Rattle.diamond_store.proofs.Sound.{lawful-sound}
use Rattle.diamond_store.proofs.Told.{tells-later, tells-registered, told-already}
use Rattle.diamond_store.proofs.feeder.register.Goals as goal

pub returns-then-has-clause-told : goal.returns-then-has-clause-told
returns-then-has-clause-told g c = λ a. told-already c.args.post.now.registry c.args.taker.now.client c.args.address.now a (sym c.has.ensures ∙ c.if-has.true)

pub returns-in_err-missed-clause-tells : goal.returns-in_err-missed-clause-tells
returns-in_err-missed-clause-tells g c =
    let t = c.tail_at in
    tells-later c.args.post.now.token.seen t.new.token.seen t.ensures.later.seen
    (lawful-sound g.N.Naming.lock.base t.new.token.seen t.ensures.lawful).orderly.numbered c.args.post.now.registry c.requires.tells

pub returns-clause-tells : goal.returns-clause-tells
returns-clause-tells g c =
    let t = c.tail_at in
    let seen = t.new.token.seen in
    let numbered = (lawful-sound g.N.Naming.lock.base seen t.ensures.lawful).orderly.numbered in
    tells-registered seen c.args.post.now.registry c.subscribe.new.self c.args.taker.now.client c.args.taker.now.taken c.args.address.now
    (tells-later c.args.post.now.token.seen seen t.ensures.later.seen numbered c.args.post.now.registry c.requires.tells)
    c.requires.taken c.subscribe.ensures.front c.subscribe.result c.in_ok-missed.missed c.front.result c.front.ensures
    c.in_ok-missed.ensures.tail c.subscribe.ensures.ok c.subscribe.ensures.err
