use Rattle.std.proofs.Common.{sym, subst}
use Rattle.rerun_driver.specs.code.Numbers.{IsRising}
use Rattle.rerun_driver.proofs.Rising.{rising-with}
use Rattle.rerun_driver.proofs.numbers.Numbers.put.Goals as goal

pub invariant_of-self : goal.invariant_of-self
invariant_of-self c = subst IsRising (sym c.put.ensures.put) (rising-with c.self.inside.items.items c.args.number c.self.invariant)
