-- What the deltas of a commit make of values, and of the state that these are.
use Rattle.std.proofs.Common.{◌≡◌, Bool, true, false, cond, [], ◌∷◌, Option, Some, None, refl, sym, ap, ◌∙◌}
use Rattle.std.specs.Prelude.{unwrap_or}
use Rattle.std.specs.List.Sorted.{IsStrictlySortedBy}
use Rattle.std.specs.Map.{keys_of}
use Rattle.std.specs.Ordering.{is_eq}
use Rattle.plain_data.proofs.Entries.{equal, lookup-insert_entry}
use Rattle.rdt_types.specs.declared.address.Address.{Address}
use Rattle.rdt_types.specs.declared.delta.Delta.{Delta}
use Rattle.rdt_types.specs.declared.value.Value.{Value}
use Rattle.rdt_types.specs.Addresses.{address_cmp}
use Rattle.rdt_types.specs.Values.{default_of}
use Rattle.rdt_types.specs.Deltas.{apply}
use Rattle.rdt_types.specs.DeltaMaps.{Deltas, delta_at}
use Rattle.rdt_types.specs.contracts.address.AddressOrd.TheImpl.Laws as order
use Rattle.txn_lang.specs.States.{apply_maybe, after}
use Rattle.audit_core.specs.Dumps.{Values, state_of, changed, with_change, with_deltas}
use Rattle.audit_core.proofs.Lending.{value_at, none_behind, same_address}

-- what is found after a delta that may be there
abbrev pub found_after : Values → Address → Option Delta → Option Value
found_after values a None = value_at values a
found_after values a (Some delta) = Some (apply delta (state_of values a))

-- one delta, and those behind it, which are all at other addresses
by_head : (values : Values) (d : Address × Delta) (ds : Deltas) (a : Address) (b : Bool) → is_eq (address_cmp a d.0) ≡ b
    → (is_eq (address_cmp a d.0) ≡ true → delta_at ds a ≡ None)
    → (found : Option Value) → value_at (with_change values d) a ≡ found
    → found ≡ cond b (Some (changed values d.0 d.1)) (value_at values a)
    → (o : Option Delta) → delta_at ds a ≡ o
    → found_after (with_change values d) a o ≡ found_after values a (cond b (Some d.1) o)
by_head values d ds a true e none found is by None f = is ∙ by ∙ ap (λ x. Some (apply d.1 (state_of values x))) (sym (same_address a d.0 e))
by_head values d ds a true e none found is by (Some later) f = absurd (let no = none e in cc)
by_head values d ds a false e none found is by None f = is ∙ by
by_head values d ds a false e none found is by (Some later) f =
    ap (λ o. Some (apply later (unwrap_or o (default_of a.kind)))) (is ∙ by)

-- what is found at an address after the deltas of a commit
pub found-with_deltas : (deltas : Deltas) (values : Values) (a : Address) → IsStrictlySortedBy address_cmp (keys_of deltas)
    → value_at (with_deltas values deltas) a ≡ found_after values a (delta_at deltas a)
unfolding IsStrictlySortedBy
found-with_deltas [] values a rising = refl
found-with_deltas (d ∷ ds) values a rising =
    found-with_deltas ds (with_change values d) a rising.1
    ∙ by_head values d ds a (is_eq (address_cmp a d.0)) refl (λ e. none_behind a d.0 ds (equal _ e) rising.0)
    (value_at (with_change values d) a) refl (lookup-insert_entry address_cmp order.total-law a d.0 (changed values d.0 d.1) values)
    (delta_at ds a) refl

-- so the state is the one before with the delta at each address applied
pub state-with_deltas : (deltas : Deltas) (values : Values) (a : Address) → IsStrictlySortedBy address_cmp (keys_of deltas)
    → state_of (with_deltas values deltas) a ≡ after deltas a (state_of values a)
state-with_deltas deltas values a rising =
    ap (λ o. unwrap_or o (default_of a.kind)) (found-with_deltas deltas values a rising) ∙ by (delta_at deltas a) refl
  where
    by : (o : Option Delta) → delta_at deltas a ≡ o → unwrap_or (found_after values a o) (default_of a.kind) ≡ after deltas a (state_of values a)
    by None e = sym (ap (λ o. apply_maybe o (state_of values a)) e)
    by (Some d) e = sym (ap (λ o. apply_maybe o (state_of values a)) e)
