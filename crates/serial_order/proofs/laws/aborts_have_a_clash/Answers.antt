use Rattle.serial_order.proofs.Growing.{aborts_have_a_clash as lemma}
use Rattle.serial_order.proofs.laws.aborts_have_a_clash.Goals as goal

pub returns : goal.returns
returns c = lemma
