use Rattle.std.proofs.Common.{◌≡◌, ◌⊎◌, ℕ, true, drop}
use Rattle.rdt_types.specs.declared.address.Address.{Address}
use Rattle.rerun_driver.specs.Watches.{is_observed_by}
use Rattle.rerun_driver.specs.code.Places.{stands, IsPutOnly}
use Rattle.rerun_driver.proofs.placing.put_all.Given as goal

-- who stood somewhere stands there, the number stands where it isn't still to be put, and nobody else does
abbrev pub invariant-loop-seen : goal.invariant-loop-seen
invariant-loop-seen l = record {
  stays : (a : Address) (m : ℕ) → stands l.fn.places a m ≡ true → stands l.places a m ≡ true;
  put : (a : Address) → is_observed_by a l.observations ≡ true
      → (stands l.places a l.number ≡ true) ⊎ (is_observed_by a (drop l.seen-index l.observations) ≡ true);
  only : IsPutOnly l.fn.places l.places l.observations l.number;
}
