use Rattle.docc_prepare.proofs.Growing.{legal_is_orderly}
use Rattle.docc_prepare.proofs.laws.legal_journals_are_orderly.Goals as goal

pub returns : goal.returns
returns c = legal_is_orderly
