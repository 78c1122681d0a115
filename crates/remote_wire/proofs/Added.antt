-- Deltas by rising addresses, added one by one to a feed without changes, are the feed's.
use Rattle.std.proofs.Common.{◌≡◌, [], ◌∷◌, ◌++◌, cond, Some, None, refl, sym, ap, subst, ◌∙◌, append_assoc}
use Rattle.std.proofs.lemmas.List.{append-nil}
use Rattle.std.specs.List.{AllByRecursion}
use Rattle.std.specs.List.Sorted.{IsStrictlySortedBy}
use Rattle.std.specs.Map.{keys_of}
use Rattle.std.specs.BTreeMap.{insert_entry}
use Rattle.std.specs.Ordering.{is_eq, match_ordering, ordering_reverse}
use Rattle.std.specs.declared.cmp.Ordering.TheVariants.{Less, Greater}
use Rattle.rdt_types.specs.declared.address.Address.{Address}
use Rattle.rdt_types.specs.declared.delta.Delta.{Delta}
use Rattle.rdt_types.specs.Addresses.{address_cmp}
use Rattle.rdt_types.specs.DeltaMaps.{Deltas, delta_at, after_maybe, with_delta}
use Rattle.rdt_types.specs.contracts.address.AddressOrd.TheImpl.Laws as addresses
use Rattle.change_feed.specs.Feeds.{joined}

-- what holds of all holds of one among them
among : (P : Address → Type 0) (front : Deltas) (p : Address × Delta) (rest : Deltas)
    → AllByRecursion P (keys_of (front ++ p ∷ rest)) → P p.0
among P [] p rest h = h.0
among P (e ∷ front) p rest h = among P front p rest h.1

-- an address behind all others finds nothing there
delta_at-behind : (front : Deltas) (p : Address × Delta) (rest : Deltas)
    → IsStrictlySortedBy address_cmp (keys_of (front ++ p ∷ rest)) → delta_at front p.0 ≡ None
unfolding IsStrictlySortedBy
delta_at-behind [] p rest rising = refl
delta_at-behind (e ∷ front) p rest rising =
    let below : address_cmp e.0 p.0 ≡ Less = among (λ y. address_cmp e.0 y ≡ Less) front p rest rising.0 in
    let above : address_cmp p.0 e.0 ≡ Greater = addresses.total-law.antisymm p.0 e.0 ∙ ap ordering_reverse below in
    ap (λ r. cond (is_eq r) (Some e.1) (delta_at front p.0)) above ∙ delta_at-behind front p rest rising.1

-- and its delta goes to the end
insert_entry-behind : (front : Deltas) (p : Address × Delta) (rest : Deltas) (d : Delta)
    → IsStrictlySortedBy address_cmp (keys_of (front ++ p ∷ rest))
    → insert_entry address_cmp front p.0 d ≡ front ++ (p.0, d) ∷ []
unfolding IsStrictlySortedBy
insert_entry-behind [] p rest d rising = refl
insert_entry-behind (e ∷ front) p rest d rising =
    let below : address_cmp e.0 p.0 ≡ Less = among (λ y. address_cmp e.0 y ≡ Less) front p rest rising.0 in
    let above : address_cmp p.0 e.0 ≡ Greater = addresses.total-law.antisymm p.0 e.0 ∙ ap ordering_reverse below in
    ap (λ r. match_ordering r ((p.0, d) ∷ e ∷ front) ((e.0, d) ∷ front) (e ∷ insert_entry address_cmp front p.0 d)) above
    ∙ ap (λ (l : Deltas). e ∷ l) (insert_entry-behind front p rest d rising.1)

with_delta-behind : (front : Deltas) (p : Address × Delta) (rest : Deltas)
    → IsStrictlySortedBy address_cmp (keys_of (front ++ p ∷ rest))
    → with_delta front p.0 p.1 ≡ front ++ p ∷ []
with_delta-behind front p rest rising =
    ap (λ o. insert_entry address_cmp front p.0 (after_maybe o p.1)) (delta_at-behind front p rest rising)
    ∙ insert_entry-behind front p rest p.1 rising

joined-behind : (front rest : Deltas) → IsStrictlySortedBy address_cmp (keys_of (front ++ rest))
    → joined front rest ≡ front ++ rest
joined-behind front [] rising = sym (append-nil front)
joined-behind front (p ∷ rest) rising =
    let same : front ++ p ∷ rest ≡ (front ++ p ∷ []) ++ rest = sym (append_assoc front (p ∷ []) rest) in
    ap (λ (l : Deltas). joined l rest) (with_delta-behind front p rest rising)
    ∙ joined-behind (front ++ p ∷ []) rest
    (subst (λ (l : Deltas). IsStrictlySortedBy address_cmp (keys_of l)) same rising)
    ∙ sym same

pub joined-nothing : (all : Deltas) → IsStrictlySortedBy address_cmp (keys_of all) → joined [] all ≡ all
joined-nothing all rising = joined-behind [] all rising
