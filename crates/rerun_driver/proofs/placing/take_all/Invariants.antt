use Rattle.std.proofs.Common.{◌≡◌, ◌⊎◌, ℕ, true, false, nat_eq, drop}
use Rattle.rdt_types.specs.declared.address.Address.{Address}
use Rattle.rerun_driver.specs.Watches.{is_observed_by}
use Rattle.rerun_driver.specs.code.Places.{stands}
use Rattle.rerun_driver.proofs.placing.take_all.Given as goal

-- the other numbers stand where they stood, none stands elsewhere, and this one is gone where it isn't still to be taken
abbrev pub invariant-loop-seen : goal.invariant-loop-seen
invariant-loop-seen l = record {
  others : (a : Address) (m : ℕ) → nat_eq l.number m ≡ false → stands l.places a m ≡ stands l.fn.places a m;
  fewer : (a : Address) (m : ℕ) → stands l.places a m ≡ true → stands l.fn.places a m ≡ true;
  gone : (a : Address) → is_observed_by a l.observations ≡ true
      → (stands l.places a l.number ≡ false) ⊎ (is_observed_by a (drop l.seen-index l.observations) ≡ true);
}
