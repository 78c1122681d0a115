use Rattle.history_lock.proofs.Prefixes.{IsPrefix-trans}
use Rattle.diamond_store.proofs.Sound.{lawful-sound}
use Rattle.diamond_store.proofs.Told.{tells-later, fed-whole}
use Rattle.diamond_store.proofs.feeder.Feeder.take.Goals as goal

pub follow-requires-clause-tells : goal.follow-requires-clause-tells
follow-requires-clause-tells g c =
    let t = c.learn-to in
    tells-later c.self.inside.post.token.seen t.new.token.seen t.ensures.begins
    (lawful-sound g.N.Naming.lock.base t.new.token.seen t.ensures.token_lawful).orderly.numbered c.self.inside.post.registry c.self.invariant

pub returns-clause-feed : goal.returns-clause-feed
returns-clause-feed g c =
    let journal = c.learn-to.new.other.seen in
    let known = c.take_followed.new.post.token.seen in
    let mid = c.learn-to.new.token.seen in
    let late = c.follow.new.post.token.seen in
    fed-whole journal known
    (IsPrefix-trans journal late known (IsPrefix-trans journal mid late c.learn-to.ensures.knows c.follow.ensures.begins) c.take_followed.ensures.begins)
    (lawful-sound g.N.Naming.lock.base known c.count-known.ensures.lawful).orderly.numbered c.args.taker.now.addresses.now.keys c.args.taker.now.taken
    c.follow.new.post.registry.front c.learn-to.result c.in_ok-feed.feed c.in_ok-feed.ensures.feed c.in_ok-follow.ensures.reached c.learn-to.ensures.length
