use Rattle.docc_prepare.proofs.Growing.{fits_stays}
use Rattle.docc_prepare.proofs.laws.attempts_fit_longer_journals.Goals as goal

pub returns : goal.returns
returns c = fits_stays
