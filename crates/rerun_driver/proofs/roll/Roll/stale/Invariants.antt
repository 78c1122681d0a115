use Rattle.std.proofs.Common.{◌≡◌, ◌++◌, drop}
use Rattle.rerun_driver.specs.Watches.{bodies_of}
use Rattle.rerun_driver.specs.code.Rolls.{bodies_in}
use Rattle.rerun_driver.proofs.roll.Roll.stale.Given as goal

-- those so far, and those of the other numbers, are those of all
abbrev pub invariant-loop-number : goal.invariant-loop-number
invariant-loop-number l =
    bodies_of l.list.items ++ bodies_in l.self.0 l.self.1 (drop l.number-index l.numbers) ≡ bodies_in l.self.0 l.self.1 l.numbers
