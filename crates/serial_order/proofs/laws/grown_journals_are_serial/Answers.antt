use Rattle.serial_order.proofs.Growing.{grown_is_serial as lemma}
use Rattle.serial_order.proofs.laws.grown_journals_are_serial.Goals as goal

pub returns : goal.returns
returns c = lemma
