use Rattle.std.proofs.Common.{sym, subst, arith}
use Rattle.journal_relay.specs.Relays.{Relays}
use Rattle.journal_relay.proofs.Relaying.{relays-nothing}
use Rattle.diamond_store.proofs.Sound.{lawful-sound}
use Rattle.diamond_store.proofs.history.RelayPost.begun.Goals as goal

-- one that has followed nothing stands for what the token knows
pub loop-relay-init : goal.loop-relay-init
loop-relay-init g c =
    let seen = c.args.token.seen in
    let here = c.entries-end.ensures in (
      subst (Relays seen) (sym c.new-relay.ensures) (relays-nothing seen (lawful-sound g.N.Naming.lock.base seen c.count-known.ensures.lawful).orderly.numbered),
      omega (arith, here),
    )
