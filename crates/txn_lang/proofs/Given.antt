-- Values that are put into a map one by one, each at the address that the run on those before it needs, are read in turn.
use Rattle.std.proofs.Common.{◌≡◌, suc, Bool, true, false, cond, List, [], ◌∷◌, length, Option, Some, None, refl, sym, ap, ◌∙◌, subst}
use Rattle.std.specs.BTreeMap.{insert_entry, is_at}
use Rattle.std.specs.Map.{lookup}
use Rattle.std.specs.Option.{option_map}
use Rattle.std.specs.Ordering.{is_eq, match_ordering}
use Rattle.std.specs.declared.cmp.Ordering.{Ordering}
use Rattle.std.specs.declared.cmp.Ordering.TheVariants.{Less, Equal, Greater}
use Rattle.plain_data.proofs.Entries.{equal, lookup-insert_entry}
use Rattle.rdt_types.specs.contracts.address.AddressOrd.TheImpl.Laws as order
use Rattle.rdt_types.specs.declared.address.Address.{Address}
use Rattle.rdt_types.specs.declared.value.Value.{Value}
use Rattle.rdt_types.specs.Addresses.{address_cmp}
use Rattle.rdt_types.proofs.Addresses.{address_cmp-equal}
use Rattle.txn_trees.specs.declared.statement.Body.{Body}
use Rattle.txn_lang.specs.declared.snaps.Snap.{Snap}
use Rattle.txn_lang.specs.States.{PartialState}
use Rattle.txn_lang.specs.Execution.{need, exec}
use Rattle.txn_lang.specs.Few.{IsReadNext, AreReadInTurn}
use Rattle.txn_lang.proofs.Few.{same-itself, no_value}
use Rattle.txn_lang.proofs.Observed.{needs_are_missing}

-- the value of a snap that may be there
abbrev value_in : Option Snap → Option Value
value_in snap = option_map (λ (snap : Snap). snap.value) snap

-- the values of snaps, as a state that has a value at their addresses alone
abbrev pub given : List (Address × Snap) → PartialState
given snaps address = value_in (lookup (is_at (address_cmp address)) snaps)

module _ (snaps : List (Address × Snap)) (a : Address) (snap : Snap) where
  -- the snaps with this one put in at its address
  abbrev more : List (Address × Snap)
  more = insert_entry address_cmp snaps a snap

  -- what was put in is found at its address, and at each other one what was found before
  given-more : (q : Address) → given more q ≡ value_in (cond (is_eq (address_cmp q a)) (Some snap) (lookup (is_at (address_cmp q)) snaps))
  given-more q = ap value_in (lookup-insert_entry address_cmp order.total-law q a snap snaps)

  -- what the run needs and is given is its next read
  pub read_next : (b : Body) → exec b (given snaps) ≡ need a → IsReadNext b (given snaps) (given more)
  read_next b needed = record {
    address = a;
    value = snap.value;
    needed = needed;
    there = given-more a ∙ ap (λ c. value_in (cond c (Some snap) (lookup (is_at (address_cmp a)) snaps))) (same-itself a);
    others = λ q v is. given-more q ∙ by q v is (is_eq (address_cmp q a)) refl;
  }
    where
      by : (q : Address) (v : Value) → given snaps q ≡ Some v → (c : Bool) → is_eq (address_cmp q a) ≡ c
          → value_in (cond c (Some snap) (lookup (is_at (address_cmp q)) snaps)) ≡ Some v
      by q v is false e = is
      by q v is true e =
          let at : q ≡ a = address_cmp-equal q a (equal (address_cmp q a) e) in
          absurd (no_value (needs_are_missing b (given snaps) a needed) (subst (λ x. given snaps x ≡ Some v) at is))

-- what is put in where nothing is found is one more
length-inserted : (snaps : List (Address × Snap)) (a : Address) (snap : Snap)
    → given snaps a ≡ None → length (insert_entry address_cmp snaps a snap) ≡ suc (length snaps)
length-inserted [] a snap e = refl
length-inserted (x ∷ snaps) a snap e = by (address_cmp a x.0) e (λ later. length-inserted snaps a snap later)
  where
    by : (r : Ordering) → value_in (cond (is_eq r) (Some x.1) (lookup (is_at (address_cmp a)) snaps)) ≡ None
        → (given snaps a ≡ None → length (insert_entry address_cmp snaps a snap) ≡ suc (length snaps))
        → length (match_ordering r ((a, snap) ∷ x ∷ snaps) ((x.0, snap) ∷ snaps) (x ∷ insert_entry address_cmp snaps a snap)) ≡ suc (suc (length snaps))
    by Less e rest = refl
    by Equal e rest = absurd (cc)
    by Greater e rest = ap suc (rest e)

-- one more value, where the run on those before needs it
pub given_in_turn : (b : Body) (snaps : List (Address × Snap)) (a : Address) (snap : Snap) → AreReadInTurn b (length snaps) (given snaps)
    → exec b (given snaps) ≡ need a → AreReadInTurn b (length (insert_entry address_cmp snaps a snap)) (given (insert_entry address_cmp snaps a snap))
given_in_turn b snaps a snap turn needed =
    subst (λ n. AreReadInTurn b n (given (insert_entry address_cmp snaps a snap)))
    (sym (length-inserted snaps a snap (needs_are_missing b (given snaps) a needed)))
    (given snaps, turn, read_next snaps a snap b needed)
