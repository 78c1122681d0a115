-- Runs on the values of a cache that pause where they need what isn't held, and go on once it is.
use Rattle.std.specs.Prelude.{ℕ, List}
use Rattle.std.specs.BTreeMap.{insert_entry}
use Rattle.rdt_types.specs.declared.address.Address.{Address}
use Rattle.rdt_types.specs.declared.value.Value.{Value}
use Rattle.rdt_types.specs.Addresses.{address_cmp}
use Rattle.txn_trees.specs.declared.statement.Body.{Body}
use Rattle.txn_lang.specs.declared.snaps.Snap.{Snap}
use Rattle.txn_lang.specs.Observed.{Extends}
use Rattle.txn_eval.specs.declared.pause.Pause.{Pause}
use Rattle.txn_eval.specs.Pausing.{IsPauseOf}
use Rattle.txn_eval.specs.Running.{values_of}
use Rattle.client_cache.specs.Cached.{Cached, held}
use Rattle.rerun_driver.specs.declared.rerun.Begun.{Begun}

-- The run of a body has begun on the values of a cache: what it has taken is held there, and it comes to its pause on that.
pub record IsBegun (body : Body) (cache : Cached) (begun : Begun) : Type 0 where
  pub taken : Extends (values_of begun.snaps) (held cache)
  pub paused : IsPauseOf body.stmts begun.snaps begun.pause

-- a run that has taken these values and come to this pause
abbrev pub begun_at : List (Address × Snap) → Pause → Begun
begun_at snaps pause = record { snaps = snaps; pause = pause }

-- what a run has taken, with a value of a number more
abbrev pub with_taken : List (Address × Snap) → Address → ℕ → Value → List (Address × Snap)
with_taken snaps address base value = insert_entry address_cmp snaps address (record { base = base; value = value })
