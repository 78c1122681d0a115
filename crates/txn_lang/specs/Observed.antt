-- What a run needs and what it observes: it needs a value only where the state has none, and what it observed is there.
use Rattle.std.specs.Prelude.{◌≡◌, Some, None}
use Rattle.std.specs.List.{AllByRecursion}
use Rattle.rdt_types.specs.declared.address.Address.{Address}
use Rattle.rdt_types.specs.declared.value.Value.{Value}
use Rattle.rdt_types.specs.Values.{kind_of}
use Rattle.conflict_table.specs.Observing.{kind_observed, IsWithin}
use Rattle.txn_trees.specs.declared.statement.Body.{Body}
use Rattle.txn_lang.specs.declared.run.Run.{Run}
use Rattle.txn_lang.specs.declared.run.Seen.{Seen}
use Rattle.txn_lang.specs.States.{State, PartialState, known}
use Rattle.txn_lang.specs.Execution.{exec, need, done}

-- The state has the value that was observed, and it fits the observation: a place that was observed is within that list, and a
-- peak is as it was answered. Where the value is of the kind of its address, so is the observation.
pub record IsThere (s : PartialState) (z : Seen) : Type 0 where
  pub value : Value
  pub is : s z.address ≡ Some value
  pub within : IsWithin z.obs value
  pub kind : kind_of value ≡ z.address.kind → kind_observed z.obs ≡ z.address.kind

-- the second state has every value that the first has
abbrev pub Extends : PartialState → PartialState → Type 0
Extends s t = (a : Address) (v : Value) → s a ≡ Some v → t a ≡ Some v

-- ---- laws

-- a run needs a value only where the state has none
abbrev pub NeedsAreMissing : Type 0
NeedsAreMissing = (b : Body) (s : PartialState) (a : Address) → exec b s ≡ need a → s a ≡ None

-- so on a whole state every run is done
abbrev pub WholeRunsAreDone : Type 0
WholeRunsAreDone = (b : Body) (s : State) → (r : Run) × (exec b (known s) ≡ done r)

-- what a run that is done observed is there
abbrev pub ObservedIsThere : Type 0
ObservedIsThere = (b : Body) (s : PartialState) (r : Run) → exec b s ≡ done r → AllByRecursion (IsThere s) r.observations

-- a run that is done is the same on a state with more values
abbrev pub RunsStayDone : Type 0
RunsStayDone = (b : Body) (s t : PartialState) (r : Run) → Extends s t → exec b s ≡ done r → exec b t ≡ done r

-- a run that needs an address needs it on a state with more values too, where that one is still missing
abbrev pub NeedsStay : Type 0
NeedsStay = (b : Body) (s t : PartialState) (a : Address) → Extends s t → exec b s ≡ need a → t a ≡ None → exec b t ≡ need a
