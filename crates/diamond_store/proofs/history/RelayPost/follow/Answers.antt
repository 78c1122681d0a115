use Rattle.std.proofs.Common.{sym, subst}
use Rattle.journal_relay.specs.Relays.{Relayed, IsNextOf}
use Rattle.journal_relay.proofs.Relaying.{next-later, relays-later}
use Rattle.diamond_store.proofs.Relayed.{relays-followed}
use Rattle.diamond_store.proofs.Sound.{lawful-sound}
use Rattle.diamond_store.proofs.history.RelayPost.follow.Goals as goal

-- the token knows both prefixes then, so what comes next of the other's comes next of its own
pub invariant_of-self : goal.invariant_of-self
invariant_of-self g c =
    let other = c.args.other.now.seen in
    let seen = c.teach.new.other.seen in
    let relay = c.self.inside.relay in
    let tail = c.args.tail.now in
    let numbered = (lawful-sound g.N.Naming.lock.base seen c.teach.ensures.lawful).orderly.numbered in
    let next = subst (λ (r : Relayed). IsNextOf other r tail) (sym c.self.view_is) c.requires in
    relays-followed c.follow.result seen relay c.follow.new.self tail numbered
    (relays-later c.self.inside.token.seen seen c.teach.ensures.begins numbered relay c.self.invariant)
    (next-later other seen c.teach.ensures.knows numbered relay tail next) c.follow.ensures.ok c.follow.ensures.err
