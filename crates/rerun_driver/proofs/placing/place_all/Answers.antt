use Rattle.std.proofs.Common.{inr}
use Rattle.rerun_driver.proofs.Placed.{seen-among}
use Rattle.rerun_driver.proofs.placing.place_all.Goals as goal

pub loop-number-init : goal.loop-number-init
loop-number-init c = record {
  left = λ n a seen. inr (seen-among c.args.roll.now.0 c.args.roll.now.1 a n seen);
  exact = λ e. e;
}
