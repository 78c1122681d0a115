-- How long what a run asks for may be: keys and texts that are longer end a run before it asks.
use Rattle.std.specs.Prelude.{◌≡◌, ◌≤◌, ℕ, List, [], length, codes, refl}
use Rattle.std.specs.List.{AllByRecursion}
use Rattle.rdt_types.specs.declared.address.Address.{Address}
use Rattle.conflict_table.specs.declared.observation.Obs.{Obs}
use Rattle.conflict_table.specs.declared.observation.Obs.TheVariants as obs
use Rattle.txn_trees.specs.declared.statement.Body.{Body}
use Rattle.txn_lang.specs.declared.limits.TheConstants.{TEXT_LIMIT}
use Rattle.txn_lang.specs.declared.run.Run.{Run}
use Rattle.txn_lang.specs.States.{PartialState}
use Rattle.txn_lang.specs.Execution.{need, done, exec}

-- an address whose key is no longer than texts may be
abbrev pub IsShortAddress : Address → Type 0
IsShortAddress address = length address.key ≤ TEXT_LIMIT

-- the text that an observation is of: an element or a field, or none
abbrev pub text_in : Obs → List ℕ
text_in (obs.SetHas element) = element
text_in (obs.HashAt field) = field
text_in other = []

-- an observation at such an address, of no longer text
pub record IsShortObservation (address : Address) (observation : Obs) : Type 0 where
  pub key : IsShortAddress address
  pub text : length (text_in observation) ≤ TEXT_LIMIT

-- A law: what a run needs, and all that it observed, is short. No body is left out, since whatever makes a text tests its size,
-- and no number has a longer one.
pub record RunsAskShort : Type 0 where
  pub needed : (b : Body) (s : PartialState) (a : Address) → exec b s ≡ need a → IsShortAddress a
  pub observed : (b : Body) (s : PartialState) (r : Run) → exec b s ≡ done r
      → AllByRecursion (λ z. IsShortObservation z.address z.obs) r.observations

text_in-example : text_in (obs.SetHas (codes "a")) ≡ codes "a"
text_in-example = refl
