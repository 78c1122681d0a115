use Rattle.serial_order.proofs.Serial.{legal_is_serial as lemma}
use Rattle.serial_order.proofs.laws.legal_journals_are_serial.Goals as goal

pub returns : goal.returns
returns c = lemma
