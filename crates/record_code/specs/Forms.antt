-- The forms that outcomes and deltas have in a payload. All that a run leaves has them.
use Rattle.std.specs.Prelude.{◌≡◌, ◌≤◌, ℕ, T, List, [], length, codes, refl}
use Rattle.std.specs.List.{AllByRecursion}
use Rattle.std.specs.List.Sorted.{IsStrictlySortedBy}
use Rattle.std.specs.Map.{keys_of}
use Rattle.std.specs.FinMap as map
use Rattle.rdt_types.specs.declared.address.Address.{Address}
use Rattle.rdt_types.specs.declared.delta.Delta.{Delta}
use Rattle.rdt_types.specs.declared.delta.Delta.TheVariants as delta
use Rattle.rdt_types.specs.declared.mark.Mark.{Mark}
use Rattle.rdt_types.specs.declared.mark.Mark.TheVariants as mark
use Rattle.rdt_types.specs.declared.outcome.Item.{Item}
use Rattle.rdt_types.specs.declared.outcome.Item.TheVariants as item
use Rattle.rdt_types.specs.declared.outcome.Outcome.{Outcome}
use Rattle.rdt_types.specs.declared.outcome.Outcome.TheVariants as outcome
use Rattle.rdt_types.specs.Addresses.{address_cmp}
use Rattle.rdt_types.specs.Deltas.{kind_changed}
use Rattle.rdt_types.specs.DeltaMaps.{Deltas}
use Rattle.rdt_types.specs.Keyed as keyed
use Rattle.rdt_types.specs.Listed as listed
use Rattle.rdt_types.specs.Marks.{added, put_by}
use Rattle.txn_lang.specs.declared.limits.TheConstants.{TEXT_LIMIT}

-- a text that is no longer than texts may be
abbrev pub IsShort : List ℕ → Type 0
IsShort text = length text ≤ TEXT_LIMIT

-- an emitted value, none of whose texts is longer
abbrev pub HasShortTexts : Item → Type 0
HasShortTexts (item.Text text) = IsShort text
HasShortTexts (item.Texts texts) = AllByRecursion IsShort texts
HasShortTexts _ = Unit {0}

-- an outcome none of whose texts is longer
abbrev pub IsShortOutcome : Outcome → Type 0
IsShortOutcome (outcome.Ok items) = AllByRecursion HasShortTexts items
IsShortOutcome (outcome.Fail reason) = IsShort reason
IsShortOutcome _ = Unit {0}

-- a mark of a hash with no longer text
abbrev pub IsShortMark : Mark → Type 0
IsShortMark (mark.Put text) = IsShort text
IsShortMark mark.Removed = Unit {0}

-- a delta of its form, none of whose texts is longer
abbrev pub HasForm : Delta → Type 0
HasForm (delta.PutText text) = IsShort text
HasForm (delta.Set d) = T (keyed.has_form added d) × AllByRecursion (λ marked. IsShort marked.0) (map.entries d.marks)
HasForm (delta.Hash d) =
    T (keyed.has_form put_by d)
    × AllByRecursion (λ marked. IsShort marked.0 × IsShortMark marked.1) (map.entries d.marks)
HasForm (delta.List d) =
    T (listed.has_form d)
    × AllByRecursion (λ named. IsShort named.0) (map.entries d.removed)
    × AllByRecursion IsShort d.pushed
HasForm _ = Unit {0}

-- a delta of its form at an address of its kind, whose key is no longer than texts may be
pub record IsFiled (pair : Address × Delta) : Type 0 where
  pub key : IsShort pair.0.key
  pub kind : kind_changed pair.1 ≡ pair.0.kind
  pub form : HasForm pair.1

-- there are deltas only where the body ran to its end
abbrev pub OnlyWhereOk : Outcome → Deltas → Type 0
OnlyWhereOk (outcome.Ok items) deltas = Unit {0}
OnlyWhereOk _ deltas = deltas ≡ []

-- What a run leaves: an outcome, and deltas by strictly rising addresses.
pub record AreForms (how : Outcome) (deltas : Deltas) : Type 0 where
  pub outcome : IsShortOutcome how
  pub rising : IsStrictlySortedBy address_cmp (keys_of deltas)
  pub each : AllByRecursion IsFiled deltas
  pub only : OnlyWhereOk how deltas

-- a text of two bytes is within the limit
IsShort-example : IsShort (codes "no") ≡ (2 ≤ 1024)
IsShort-example = refl

-- a failure has no deltas
OnlyWhereOk-example : OnlyWhereOk (outcome.Fail (codes "no")) []
OnlyWhereOk-example = refl
