use Rattle.rerun_driver.proofs.Stale.{stale_is_touched}
use Rattle.rerun_driver.proofs.laws.stale_is_touched.Goals as goal

pub returns : goal.returns
returns c = stale_is_touched
