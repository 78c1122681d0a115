use Rattle.std.proofs.Common.{◌≡◌, drop}
use Rattle.rerun_driver.specs.code.Rolls.{told_along}
use Rattle.rerun_driver.proofs.telling.tell_placed.Given as goal

-- once those at the addresses that are left are told, all are
abbrev pub invariant-loop-address : goal.invariant-loop-address
invariant-loop-address l = told_along l.places l.changes (drop l.address-index l.changes) l.roll ≡ told_along l.places l.changes l.changes l.fn.roll
