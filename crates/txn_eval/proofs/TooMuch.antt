-- A load that doesn't fit into 64 bits is above the limit.
use Rattle.std.proofs.Common.{◌≡◌, ◌≤◌, ◌^◌, ℕ, arith}
use Rattle.txn_lang.specs.declared.progress.Stop.TheVariants as stop
use Rattle.txn_lang.specs.declared.progress.Progress.{Progress}
use Rattle.txn_lang.specs.Steps.{carry, stopped}

pub too_much : {M : Type 0} (p : Progress M) (n : ℕ) → 2 ^ 64 ≤ n → carry n p ≡ stopped stop.Big p
too_much p n over = grind (arith, over)
