use Rattle.docc_prepare.proofs.Stored.{first_store_is_sound}
use Rattle.docc_prepare.proofs.store_laws.first_stores_are_sound.Goals as goal

pub returns : goal.returns
returns c = first_store_is_sound
