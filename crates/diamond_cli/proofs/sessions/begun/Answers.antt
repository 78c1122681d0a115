use Rattle.std.proofs.Common.{◌≡◌, sym, subst}
use Rattle.diamond_store.specs.Answers.{IsFirst}
use Rattle.diamond_store.specs.Passes.{Passed}
use Rattle.diamond_cli.proofs.sessions.begun.Goals as goal
use Rattle.diamond_cli.proofs.sessions.begun.Goals.{then-relayed+in_ok-begin_relay, else-relayed}

-- the pass is the new store's, whether a relay has begun or not
pub returns : goal.returns
returns g c =
    let first : Passed → Type 0 = λ p. IsFirst c.args.opened.lock.base c.args.opened.front c.args.settings.now p in
    let same : c.if-relayed.pass ≡ c.in_ok-store.pass = elim c.if-relayed.branch [
      | then-relayed+in_ok-begin_relay w ↦ (let is = w.pass-is in let stays = w.begin_relay.ensures.pass in cc)
      | else-relayed w ↦ (let is = w.pass-is in cc)
    ] in
    record { pass = subst first (sym same) c.in_ok-store.ensures.pass }
