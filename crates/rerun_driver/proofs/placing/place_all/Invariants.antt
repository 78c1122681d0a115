use Rattle.std.proofs.Common.{◌≡◌, ◌⊎◌, ℕ, true, drop}
use Rattle.rdt_types.specs.declared.address.Address.{Address}
use Rattle.rerun_driver.specs.Watches.{is_observed_by}
use Rattle.rerun_driver.specs.code.Numbers.{is_among}
use Rattle.rerun_driver.specs.code.Places.{stands}
use Rattle.rerun_driver.specs.code.Rolls.{IsExact, seen_by}
use Rattle.rerun_driver.proofs.placing.place_all.Given as goal

-- a number whose watch observed something stands there, or is still to be put; and what was exact is
abbrev pub invariant-loop-number : goal.invariant-loop-number
invariant-loop-number l = record {
  left : (n : ℕ) (a : Address) → is_observed_by a (seen_by l.roll n) ≡ true
      → (stands l.places a n ≡ true) ⊎ (is_among (drop l.number-index l.roll.0) n ≡ true);
  exact : IsExact l.fn.places l.roll → IsExact l.places l.roll;
}
