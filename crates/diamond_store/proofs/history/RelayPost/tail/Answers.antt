use Rattle.journal_relay.proofs.Relaying.{relays-later}
use Rattle.diamond_store.proofs.Sound.{lawful-sound}
use Rattle.diamond_store.proofs.history.RelayPost.tail.Goals as goal

-- the other token has learnt what the relay's knows, so the relay stands for its journal
pub returns-clause-tail : goal.returns-clause-tail
returns-clause-tail g c =
    let seen = c.teach.new.other.seen in
    let numbered = (lawful-sound g.N.Naming.lock.base seen c.teach.ensures.lawful).orderly.numbered in
    c.in_ok-tail.ensures seen (relays-later c.self.inside.token.seen seen c.teach.ensures.knows numbered c.self.inside.relay c.self.invariant)
