use Rattle.serial_order.proofs.Growing.{observed_is_serial as lemma}
use Rattle.serial_order.proofs.laws.observed_is_serial.Goals as goal

pub returns : goal.returns
returns c = lemma
