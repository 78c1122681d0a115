use Rattle.docc_prepare.proofs.Sound.{every_world_is_sound as lemma}
use Rattle.docc_prepare.proofs.laws.every_world_is_sound.Goals as goal

pub returns : goal.returns
returns c = lemma
