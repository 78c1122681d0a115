use Rattle.txn_lang.proofs.PlacesKept.{keeps-empty}
use Rattle.txn_lang.proofs.environment.Environment.new.Goals as goal

pub invariant_of-result : goal.invariant_of-result
invariant_of-result g c = rw (c.new.ensures, c.new-2.ensures) keeps-empty
