use Rattle.journal_relay.proofs.Relaying.{relays_follow}
use Rattle.journal_relay.proofs.laws.relays_follow.Goals as goal

pub returns : goal.returns
returns c = relays_follow
