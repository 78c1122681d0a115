use Rattle.std.proofs.Common.{List, sym, subst}
use Rattle.rdt_types.specs.declared.address.Address.{Address}
use Rattle.txn_lang.specs.declared.snaps.Snap.{Snap}
use Rattle.txn_lang.specs.Observed.{Extends}
use Rattle.txn_eval.specs.Running.{values_of}
use Rattle.client_cache.specs.Cached.{held}
use Rattle.rerun_driver.proofs.CacheRuns.{extends-none}
use Rattle.rerun_driver.proofs.rerun.Begun.new.Goals as goal

pub returns : goal.returns
returns c body cache = record {
  taken = subst (λ (snaps : List (Address × Snap)). Extends (values_of snaps) (held cache)) (sym c.new.ensures) (extends-none (held cache));
  paused = c.begun.ensures body.stmts c.new.result;
}
