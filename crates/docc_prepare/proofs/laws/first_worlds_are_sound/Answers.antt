use Rattle.docc_prepare.proofs.Sound.{first_is_sound}
use Rattle.docc_prepare.proofs.laws.first_worlds_are_sound.Goals as goal

pub returns : goal.returns
returns c = first_is_sound
