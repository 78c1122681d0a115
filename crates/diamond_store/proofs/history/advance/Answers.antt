use Rattle.std.proofs.Common.{arith}
use Rattle.journal_relay.proofs.Prefixes.{length-prefix}
use Rattle.journal_relay.proofs.Relaying.{relays-later}
use Rattle.diamond_store.proofs.Relayed.{relays-followed, tail-is-next}
use Rattle.diamond_store.proofs.Sound.{lawful-sound}
use Rattle.diamond_store.proofs.history.advance.Goals as goal

pub returns-in_err-tail-clause-relays : goal.returns-in_err-tail-clause-relays
returns-in_err-tail-clause-relays g c =
    let t = c.locked_changes in
    relays-later c.args.token.now.seen t.new.token.seen t.ensures.later.seen
    (lawful-sound g.N.Naming.lock.base t.new.token.seen t.ensures.lawful).orderly.numbered c.args.relay.now c.requires.relays

pub returns-clause-relays : goal.returns-clause-relays
returns-clause-relays g c =
    let t = c.locked_changes in
    let seen = t.new.token.seen in
    let numbered = (lawful-sound g.N.Naming.lock.base seen t.ensures.lawful).orderly.numbered in
    let longer = length-prefix c.args.token.now.seen seen t.ensures.later.seen in
    let within = c.requires.within in
    relays-followed c.follow.result seen c.args.relay.now c.follow.new.self c.in_ok-tail.tail numbered
    (relays-later c.args.token.now.seen seen t.ensures.later.seen numbered c.args.relay.now c.requires.relays)
    (tail-is-next seen c.args.relay.now c.to-from.result c.args.to c.in_ok-tail.tail c.in_ok-tail.ensures.tail c.to-from.ensures (omega arith))
    c.follow.ensures.ok c.follow.ensures.err
