use Rattle.conflict_table.proofs.Rows.{fits_again}
use Rattle.conflict_table.proofs.laws.fits_again.Goals as goal

pub returns : goal.returns
returns c = fits_again
