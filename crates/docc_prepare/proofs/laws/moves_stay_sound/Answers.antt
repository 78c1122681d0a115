use Rattle.docc_prepare.proofs.Sound.{moves_stay_sound as lemma}
use Rattle.docc_prepare.proofs.laws.moves_stay_sound.Goals as goal

pub returns : goal.returns
returns c = lemma
