use Rattle.std.proofs.Common.{◌≡◌, drop}
use Rattle.rerun_driver.specs.code.Rolls.{told_set}
use Rattle.rerun_driver.proofs.telling.tell_set.Given as goal

-- once those that are left are told, all are
abbrev pub invariant-loop-number : goal.invariant-loop-number
invariant-loop-number l = told_set l.changes (drop l.number-index l.numbers) l.roll ≡ told_set l.changes l.numbers l.fn.roll
