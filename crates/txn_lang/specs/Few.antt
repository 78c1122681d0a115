-- How much a run reads: each observation and each need costs a tick, so there are no more of them than ticks.
use Rattle.std.specs.Prelude.{◌≡◌, ◌≤◌, ℕ, zero, suc, length, Some}
use Rattle.rdt_types.specs.declared.address.Address.{Address}
use Rattle.rdt_types.specs.declared.value.Value.{Value}
use Rattle.txn_trees.specs.declared.statement.Body.{Body}
use Rattle.txn_lang.specs.declared.limits.TheConstants.{TICK_LIMIT}
use Rattle.txn_lang.specs.declared.run.Run.{Run}
use Rattle.txn_lang.specs.States.{PartialState}
use Rattle.txn_lang.specs.Execution.{need, done, exec}
use Rattle.txn_lang.specs.Observed.{Extends}

-- The second state has what the first has, and a value at the address that the run on the first needs.
pub record IsReadNext (b : Body) (s t : PartialState) : Type 0 where
  pub address : Address
  pub value : Value
  pub needed : exec b s ≡ need address
  pub there : t address ≡ Some value
  pub others : Extends s t

-- A state after so many reads in turn, each at the address that the run on the state before it needs.
abbrev pub AreReadInTurn : Body → ℕ → PartialState → Type 0
AreReadInTurn b zero t = Unit {0}
AreReadInTurn b (suc n) t = (s : PartialState) × AreReadInTurn b n s × IsReadNext b s t

-- ---- laws

-- a run that is done observed no more than it may charge ticks
abbrev pub ObservationsAreFew : Type 0
ObservationsAreFew = (b : Body) (s : PartialState) (r : Run) → exec b s ≡ done r → length r.observations ≤ TICK_LIMIT

-- a run is given no more values in turn than it may charge ticks
abbrev pub ReadsAreFew : Type 0
ReadsAreFew = (b : Body) (n : ℕ) (t : PartialState) → AreReadInTurn b n t → n ≤ TICK_LIMIT

-- on any state nothing was read yet
none-read : (b : Body) (s : PartialState) → AreReadInTurn b 0 s
none-read b s = tt
