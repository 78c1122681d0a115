use Rattle.std.proofs.Common.{◌≡◌}
use Rattle.rerun_driver.proofs.Rolls.{first_told}
use Rattle.rerun_driver.proofs.roll.Roll.tell_all.Given as goal

-- the watches before this place were told
abbrev pub invariant-loop-place : goal.invariant-loop-place
invariant-loop-place l = l.self ≡ (l.fn.self.0, first_told l.changes l.place l.fn.self.1)
