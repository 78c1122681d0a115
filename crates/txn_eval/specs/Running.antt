-- What a run comes to, and on which values it rests.
use Rattle.std.specs.Prelude.{List}
use Rattle.std.specs.Option.{option_map}
use Rattle.std.specs.Map.{lookup}
use Rattle.std.specs.BTreeMap.{is_at}
use Rattle.rdt_types.specs.declared.address.Address.{Address}
use Rattle.rdt_types.specs.Addresses.{address_cmp}
use Rattle.txn_lang.specs.declared.snaps.Snap.{Snap}
use Rattle.txn_lang.specs.States.{PartialState}
use Rattle.txn_lang.specs.Execution.{Ran, need, done}
use Rattle.txn_eval.specs.declared.running.Step.{Step}
use Rattle.txn_eval.specs.declared.running.Step.TheVariants as step

-- the values of snaps, as a state that has a value at their addresses alone
abbrev pub values_of : List (Address × Snap) → PartialState
values_of snaps address = option_map (λ snap. snap.value) (lookup (is_at (address_cmp address)) snaps)

-- what a run comes to, as the definition says it
abbrev pub ran_of : Step → Ran
ran_of (step.Need address) = need address
ran_of (step.Done run) = done run
