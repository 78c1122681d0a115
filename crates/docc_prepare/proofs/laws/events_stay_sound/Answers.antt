use Rattle.docc_prepare.proofs.Sound.{events_stay_sound as lemma}
use Rattle.docc_prepare.proofs.laws.events_stay_sound.Goals as goal

pub returns : goal.returns
returns c = lemma
