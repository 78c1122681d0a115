-- A run rests on what it observed, and on nothing else of the state.
use Rattle.std.specs.Prelude.{◌≡◌, List, Some}
use Rattle.std.specs.List.{AllByRecursion}
use Rattle.rdt_types.specs.declared.value.Value.{Value}
use Rattle.rdt_types.specs.Values.{kind_of}
use Rattle.conflict_table.specs.Observing.{observe}
use Rattle.txn_trees.specs.declared.statement.Body.{Body}
use Rattle.txn_lang.specs.declared.run.Run.{Run}
use Rattle.txn_lang.specs.declared.run.Seen.{Seen}
use Rattle.txn_lang.specs.States.{PartialState}
use Rattle.txn_lang.specs.Execution.{exec, done}

-- The second state has a value where the first was observed, and if the first has one too, the two are of one kind and the
-- observation answers the same of both.
pub record AgreesOn (s t : PartialState) (z : Seen) : Type 0 where
  pub there : Value
  pub is : t z.address ≡ Some there
  pub same : (v : Value) → s z.address ≡ Some v → (kind_of v ≡ kind_of there) × (observe z.obs v ≡ observe z.obs there)

-- two states agree on each of some observations
abbrev pub Agree : PartialState → PartialState → List Seen → Type 0
Agree s t seen = AllByRecursion (AgreesOn s t) seen

-- If the run of a body on one state is done, and a second state agrees with it on all that was observed, then the run on the
-- second is the same.
abbrev pub RunsAreDetermined : Type 0
RunsAreDetermined = (b : Body) (s t : PartialState) (r : Run) → exec b s ≡ done r → Agree s t r.observations → exec b t ≡ done r
