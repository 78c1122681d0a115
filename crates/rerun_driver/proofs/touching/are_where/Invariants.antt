use Rattle.std.proofs.Common.{◌≡◌, drop}
use Rattle.rdt_types.specs.declared.address.Address.{Address}
use Rattle.rerun_driver.specs.Watches.{is_observed_by}
use Rattle.rerun_driver.proofs.touching.are_where.Given as goal

-- so far the addresses are the same, so what is left decides
abbrev pub invariant-loop-place : goal.invariant-loop-place
invariant-loop-place l =
    ((a : Address) → is_observed_by a (drop l.place l.observations) ≡ is_observed_by a (drop l.place l.before))
    → (a : Address) → is_observed_by a l.observations ≡ is_observed_by a l.before
