-- What commits leave, as a list: each address that one of them wrote, and the value there.
use Rattle.std.specs.Prelude.{◌≡◌, Bool, if◌then◌else◌, List, [], ◌∷◌, fold, take, Some, None, is_some, unwrap_or, pos, refl}
use Rattle.std.specs.List.{list_any, AllByRecursion}
use Rattle.std.specs.List.Sorted.{IsStrictlySortedBy}
use Rattle.std.specs.Map.{lookup, keys_of}
use Rattle.std.specs.BTreeMap.{insert_entry, is_at}
use Rattle.rdt_types.specs.declared.address.Address.{Address}
use Rattle.rdt_types.specs.declared.delta.Delta.{Delta}
use Rattle.rdt_types.specs.declared.value.Value.{Value}
use Rattle.rdt_types.specs.declared.value.Value.TheVariants as value
use Rattle.rdt_types.specs.Addresses.{address_cmp}
use Rattle.rdt_types.specs.Values.{default_of}
use Rattle.rdt_types.specs.Deltas.{apply}
use Rattle.rdt_types.specs.DeltaMaps.{Deltas, delta_at}
use Rattle.txn_lang.specs.declared.commit.Commit.{Commit}
use Rattle.txn_lang.specs.States.{Journal, State, left_by, put_and_add, x_at}

-- values at some addresses
abbrev pub Values : Type 0
Values = List (Address × Value)

-- the state that these are: elsewhere there are the defaults
abbrev pub state_of : Values → State
state_of values address = unwrap_or (lookup (is_at (address_cmp address)) values) (default_of address.kind)

-- what a delta makes of the value at an address
abbrev pub changed : Values → Address → Delta → Value
changed values address delta = apply delta (state_of values address)

-- values, with what a delta makes of the one at its address
abbrev pub with_change : Values → Address × Delta → Values
with_change values change = insert_entry address_cmp values change.0 (changed values change.0 change.1)

-- values, with what the first delta at an address leaves there
abbrev pub with_first : Values → Address → Delta → Values
with_first values address delta = insert_entry address_cmp values address (apply delta (default_of address.kind))

-- values after the deltas of a commit
abbrev pub with_deltas : Values → Deltas → Values
with_deltas values deltas = fold with_change values deltas

-- THE DUMP of commits: nothing, and then their deltas in order.
abbrev pub dump_of : Journal → Values
dump_of journal = fold (λ values commit. with_deltas values commit.deltas) [] journal

-- the put of 3 and the addition of 4 leave one value
dump_of-example : dump_of put_and_add ≡ (x_at, value.Counter (pos 7)) ∷ []
dump_of-example = refl

-- the first alone leaves 3
dump_of-first : dump_of (take 1 put_and_add) ≡ (x_at, value.Counter (pos 3)) ∷ []
dump_of-first = refl

-- ---- a law

-- one of these commits wrote at an address
abbrev pub wrote : Journal → Address → Bool
wrote journal address = list_any (λ (commit : Commit). is_some (delta_at commit.deltas address)) journal

-- the deltas of each commit stand by rising address, as all do that a `DeltaMap` holds
abbrev pub AreRising : Journal → Type 0
AreRising journal = AllByRecursion (λ (commit : Commit). IsStrictlySortedBy address_cmp (keys_of commit.deltas)) journal

-- A dump is the state, without what no commit wrote: by rising address, at each address that was written the value that the
-- state has there, and nothing at any other, where that has its default.
pub record DumpsAreStates (journal : Journal) : Type 0 where
  pub rising : IsStrictlySortedBy address_cmp (keys_of (dump_of journal))
  pub values : (address : Address) → lookup (is_at (address_cmp address)) (dump_of journal)
      ≡ (if wrote journal address then Some (left_by journal address) else None)
  pub others : state_of (dump_of journal) ≡ left_by journal

-- so is that of each list
abbrev pub OneDump : Type 0
OneDump = (journal : Journal) → AreRising journal → DumpsAreStates journal
