use Rattle.journal_relay.proofs.Relaying.{relays_stay}
use Rattle.journal_relay.proofs.laws.relays_stay.Goals as goal

pub returns : goal.returns
returns c = relays_stay
