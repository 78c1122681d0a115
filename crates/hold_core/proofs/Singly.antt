-- Deltas one after another disturb what all do, and meet no more.
use Rattle.std.proofs.Common.{◌≡◌, ◌+◌, ◌≤◌, Bool, true, false, cond, ◌||◌, List, [], ◌∷◌, length, filter, Some, None, is_some, refl, ap, ◌∙◌, arith}
use Rattle.std.specs.declared.cmp.Ordering.{Ordering}
use Rattle.std.specs.declared.cmp.Ordering.TheVariants.{Less, Equal, Greater}
use Rattle.std.specs.Ordering.{is_eq}
use Rattle.std.specs.BTreeMap.{is_at}
use Rattle.std.specs.List.{AllByRecursion}
use Rattle.std.specs.List.Sorted.{IsStrictlySortedBy}
use Rattle.std.specs.Map.{keys_of}
use Rattle.rdt_types.specs.declared.address.Address.{Address}
use Rattle.rdt_types.specs.declared.delta.Delta.{Delta}
use Rattle.rdt_types.specs.Addresses.{address_cmp}
use Rattle.rdt_types.specs.DeltaMaps.{Deltas, delta_at}
use Rattle.rdt_types.proofs.Addresses.{address_cmp-equal}
use Rattle.txn_lang.specs.declared.run.Seen.{Seen}
use Rattle.journal_core.specs.Holds.{hits, disturbs, disturbs_some}
use Rattle.hold_core.specs.Books.{is_written, met_in}
use Rattle.hold_core.proofs.Found.{one_if}

-- an order that is Equal says so
pub equal : (r : Ordering) → is_eq r ≡ true → r ≡ Equal
equal Less e = cc
equal Equal e = refl
equal Greater e = cc

-- four tests in another order
four : (h r a b : Bool) → ((h || r) || (a || b)) ≡ (((h || false) || a) || (r || b))
four true r a b = refl
four false true true b = refl
four false true false b = refl
four false false true b = refl
four false false false b = refl

-- some are disturbed by the first delta, or by the others
pub disturbs-cons : (pair : Address × Delta) (rest : Deltas) (observations : List Seen)
    → disturbs_some (pair ∷ rest) observations ≡ (disturbs_some (pair ∷ []) observations || disturbs_some rest observations)
disturbs-cons pair rest [] = refl
disturbs-cons pair rest (seen ∷ others) =
    ap (λ b. (hits seen pair || disturbs rest seen) || b) (disturbs-cons pair rest others)
    ∙ four (hits seen pair) (disturbs rest seen) (disturbs_some (pair ∷ []) others) (disturbs_some rest others)

-- nothing is written at an address below those that are
delta_at-below : (address : Address) (deltas : Deltas) → AllByRecursion (λ y. address_cmp address y ≡ Less) (keys_of deltas)
    → delta_at deltas address ≡ None
delta_at-below address [] above = refl
delta_at-below address (pair ∷ rest) above =
    ap (λ r. cond (is_eq r) (Some pair.1) (delta_at rest address)) above.0 ∙ delta_at-below address rest above.1

-- a test counts its item or not
counted : {A : Type 0} (b : Bool) (x : A) (xs : List A) → length (cond b (x ∷ xs) xs) ≡ one_if b + length xs
counted true x xs = omega arith
counted false x xs = omega arith

-- nothing disturbs where nothing is written
pub disturbs-none : (observations : List Seen) → disturbs_some [] observations ≡ false
disturbs-none [] = refl
disturbs-none (seen ∷ others) = disturbs-none others

-- what rises behind its first is above that, and rises
pub above-first : (pair : Address × Delta) (rest : Deltas) → IsStrictlySortedBy address_cmp (keys_of (pair ∷ rest))
    → AllByRecursion (λ y. address_cmp pair.0 y ≡ Less) (keys_of rest)
unfolding IsStrictlySortedBy
above-first pair rest rising = rising.0

pub behind-first : (pair : Address × Delta) (rest : Deltas) → IsStrictlySortedBy address_cmp (keys_of (pair ∷ rest))
    → IsStrictlySortedBy address_cmp (keys_of rest)
unfolding IsStrictlySortedBy
behind-first pair rest rising = rising.1

-- what is at an address below those of other deltas meets none of these
met-once : (pair : Address × Delta) (rest : Deltas) (seen : Seen) → AllByRecursion (λ y. address_cmp pair.0 y ≡ Less) (keys_of rest)
    → one_if (is_written (pair ∷ []) seen) + one_if (is_written rest seen) ≤ one_if (is_written (pair ∷ rest) seen)
met-once pair rest seen above = by (is_at (address_cmp seen.address) pair.0) refl
  where
    by : (b : Bool) → is_at (address_cmp seen.address) pair.0 ≡ b
        → one_if (is_some (cond b (Some pair.1) (delta_at [] seen.address))) + one_if (is_written rest seen)
        ≤ one_if (is_some (cond b (Some pair.1) (delta_at rest seen.address)))
    by false at = omega arith
    by true at =
        let same : seen.address ≡ pair.0 = address_cmp-equal seen.address pair.0 (equal _ at) in
        let none : delta_at rest seen.address ≡ None = ap (delta_at rest) same ∙ delta_at-below pair.0 rest above in
        let unwritten = ap one_if (ap is_some none) in
        omega (arith, unwritten)

-- so the first delta and the others meet no more than all do
pub met-cons : (pair : Address × Delta) (rest : Deltas) (observations : List Seen)
    → AllByRecursion (λ y. address_cmp pair.0 y ≡ Less) (keys_of rest)
    → met_in (pair ∷ []) observations + met_in rest observations ≤ met_in (pair ∷ rest) observations
met-cons pair rest [] above = omega arith
met-cons pair rest (seen ∷ others) above =
    let behind = met-cons pair rest others above in
    let own = counted (is_written (pair ∷ []) seen) seen (filter (is_written (pair ∷ [])) others) in
    let other = counted (is_written rest seen) seen (filter (is_written rest) others) in
    let all = counted (is_written (pair ∷ rest) seen) seen (filter (is_written (pair ∷ rest)) others) in
    let once = met-once pair rest seen above in
    omega (arith, behind, own, other, all, once)
