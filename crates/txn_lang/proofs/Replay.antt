-- Deltas that are composed as a run goes on, and the replay of its operations.
use Rattle.std.proofs.Common.{◌≡◌, Bool, true, false, cond, List, [], ◌∷◌, fold, map, filter, Option, Some, None, refl, sym, ap, ◌∙◌, subst}
use Rattle.std.specs.List.{AllByRecursion}
use Rattle.std.specs.Ordering.{is_eq}
use Rattle.plain_data.proofs.Entries.{lookup-insert_entry, lookup-alike, equal}
use Rattle.rdt_types.specs.declared.address.Kind.{Kind}
use Rattle.rdt_types.specs.declared.address.Address.{Address}
use Rattle.rdt_types.specs.declared.delta.Delta.{Delta}
use Rattle.rdt_types.specs.declared.value.Value.{Value}
use Rattle.rdt_types.specs.declared.operation.WriteOp.{WriteOp}
use Rattle.rdt_types.specs.contracts.address.AddressOrd.TheImpl.Laws as order
use Rattle.rdt_types.specs.Addresses.{address_cmp}
use Rattle.rdt_types.specs.Values.{kind_written}
use Rattle.rdt_types.specs.Deltas.{delta_of}
use Rattle.rdt_types.specs.DeltaMaps.{Deltas, delta_at, after_maybe, with_delta}
use Rattle.rdt_types.proofs.Addresses.{address_cmp-equal}
use Rattle.conflict_table.specs.Composed.{composed_after, composed_of, left_by}
use Rattle.conflict_table.specs.declared.read.ReadOp.TheVariants as read
use Rattle.conflict_table.proofs.Composing.{reads_go_by_compositions}
use Rattle.txn_lang.specs.States.{apply_maybe}
use Rattle.txn_lang.specs.Own.{Operations, at_address, AreOfTheirKinds, DeltasLeaveWhatOperationsLeave}

-- one more delta leaves the other addresses as they are
pub delta_at-with_delta : (ds : Deltas) (a b : Address) (d : Delta)
    → delta_at (with_delta ds b d) a ≡ cond (is_eq (address_cmp a b)) (Some (after_maybe (delta_at ds a) d)) (delta_at ds a)
delta_at-with_delta ds a b d =
    lookup-insert_entry address_cmp order.total-law a b (after_maybe (delta_at ds b) d) ds ∙ by (is_eq (address_cmp a b)) refl
  where
    by : (t : Bool) → is_eq (address_cmp a b) ≡ t
        → cond t (Some (after_maybe (delta_at ds b) d)) (delta_at ds a) ≡ cond t (Some (after_maybe (delta_at ds a) d)) (delta_at ds a)
    by true e = ap (λ before. Some (after_maybe before d)) (sym (lookup-alike address_cmp order.total-law a b ds (equal (address_cmp a b) e)))
    by false e = refl

-- an operation at the address comes before the later ones there
at_address-cons : (a : Address) (w : Address × WriteOp) (own : Operations) (t : Bool) → is_eq (address_cmp a w.0) ≡ t
    → at_address a (w ∷ own) ≡ cond t (w.1 ∷ at_address a own) (at_address a own)
at_address-cons a w own true e =
    ap (λ b. map (λ u. u.1) (cond b (w ∷ filter (λ u. is_eq (address_cmp a u.0)) own)
    (filter (λ u. is_eq (address_cmp a u.0)) own))) e
at_address-cons a w own false e =
    ap (λ b. map (λ u. u.1) (cond b (w ∷ filter (λ u. is_eq (address_cmp a u.0)) own)
    (filter (λ u. is_eq (address_cmp a u.0)) own))) e

-- an operation at the address is composed before the later ones there, and one elsewhere isn't among them
composed-cons : (a : Address) (w : Address × WriteOp) (d : Option Delta) (own : Operations) (t : Bool) → is_eq (address_cmp a w.0) ≡ t
    → composed_after (cond t (Some (after_maybe d (delta_of w.1))) d) (at_address a own) ≡ composed_after d (at_address a (w ∷ own))
composed-cons a w d own true e = ap (λ ops. composed_after d ops) (sym (at_address-cons a w own true e))
composed-cons a w d own false e = ap (λ ops. composed_after d ops) (sym (at_address-cons a w own false e))

-- the deltas of operations have at an address the composition of the operations there
pub delta_at-deltas : (own : Operations) (ds : Deltas) (a : Address)
    → delta_at (fold (λ deltas w. with_delta deltas w.0 (delta_of w.1)) ds own) a ≡ composed_after (delta_at ds a) (at_address a own)
delta_at-deltas [] ds a = refl
delta_at-deltas (w ∷ own) ds a =
    delta_at-deltas own (with_delta ds w.0 (delta_of w.1)) a
    ∙ (ap (λ d. composed_after d (at_address a own)) (delta_at-with_delta ds a w.0 (delta_of w.1))
    ∙ composed-cons a w (delta_at ds a) own (is_eq (address_cmp a w.0)) refl)

-- operations are of a kind
abbrev pub AllOf : Kind → List WriteOp → Type 0
AllOf k ops = AllByRecursion (λ o. kind_written o ≡ k) ops

-- the operations at an address are of its kind, where each is of the kind of its own
pub AllOf-at_address : (a : Address) (own : Operations) → AreOfTheirKinds own → AllOf a.kind (at_address a own)
AllOf-at_address a [] all = tt
AllOf-at_address a (w ∷ own) all = by (is_eq (address_cmp a w.0)) refl (AllOf-at_address a own all.1)
  where
    by : (t : Bool) → is_eq (address_cmp a w.0) ≡ t → AllOf a.kind (at_address a own) → AllOf a.kind (at_address a (w ∷ own))
    by true e rest = subst (AllOf a.kind) (sym (at_address-cons a w own true e)) (all.0 ∙ ap (λ b. b.kind) (sym (address_cmp-equal a w.0 (equal _ e))), rest)
    by false e rest = subst (AllOf a.kind) (sym (at_address-cons a w own false e)) rest

-- no delta leaves the value as it is, and a delta leaves what it makes of it
apply_maybe-left_by : (d : Option Delta) (v : Value) → apply_maybe d v ≡ left_by d v
apply_maybe-left_by None v = refl
apply_maybe-left_by (Some d) v = refl

-- the deltas have there the composition of the operations there, which leaves what these leave
pub deltas_leave : DeltasLeaveWhatOperationsLeave
deltas_leave own a v all =
    ap (λ d. apply_maybe d v) (delta_at-deltas own [] a)
    ∙ apply_maybe-left_by (composed_of (at_address a own)) v
    ∙ (reads_go_by_compositions read.Get a.kind (at_address a own) v (AllOf-at_address a own all)).2
