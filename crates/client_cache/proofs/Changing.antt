-- What a cache holds once a feed's deltas were applied.
use Rattle.std.proofs.Common.{◌≡◌, Bool, true, false, cond, List, [], ◌∷◌, map, Option, Some, None, option_map, IsSome, is_some, refl, sym, ap, subst, ◌∙◌}
use Rattle.std.specs.List.{AllByRecursion}
use Rattle.std.specs.List.Sorted.{IsStrictlySortedBy}
use Rattle.std.specs.Map.{lookup, set_value, keys_of}
use Rattle.std.specs.BTreeMap.{is_at}
use Rattle.std.specs.Cmp.{eq_by_cmp_equiv}
use Rattle.std.specs.Ordering.{is_eq, ordering_reverse}
use Rattle.std.specs.declared.cmp.Ordering.{Ordering}
use Rattle.std.specs.declared.cmp.Ordering.TheVariants.{Less, Equal, Greater}
use Rattle.std.proofs.lemmas.Map.{lookup-set_value, keys-set_value}
use Rattle.plain_data.proofs.Entries.{equal, lookup-alike}
use Rattle.rdt_types.specs.declared.address.Address.{Address}
use Rattle.rdt_types.specs.declared.value.Value.{Value}
use Rattle.rdt_types.specs.declared.delta.Delta.{Delta}
use Rattle.rdt_types.specs.Addresses.{address_cmp}
use Rattle.rdt_types.specs.contracts.address.AddressOrd.TheImpl.Laws as order
use Rattle.rdt_types.proofs.Addresses.{address_cmp-equal}
use Rattle.rdt_types.specs.Deltas.{apply}
use Rattle.rdt_types.specs.DeltaMaps.{Deltas, delta_at}
use Rattle.change_feed.proofs.Feeds.{none_behind}
use Rattle.client_cache.specs.Histories.{apply_maybe}
use Rattle.client_cache.specs.Cached.{Values}
use Rattle.client_cache.specs.code.Changing.{changed_one, changed_from, with_all}

-- the value at an address, if there is one
abbrev pub value_at : Values → Address → Option Value
value_at values address = lookup (is_at (address_cmp address)) values

-- equal addresses are equal either way round
turned : (a b : Address) → is_eq (address_cmp a b) ≡ is_eq (address_cmp b a)
turned a b = ap is_eq (order.total-law.antisymm a b) ∙ by (address_cmp b a)
  where
    by : (r : Ordering) → is_eq (ordering_reverse r) ≡ is_eq r
    by Less = refl
    by Equal = refl
    by Greater = refl

-- what is found after a value was put in the place of another
value_at-set_value : (q address : Address) (w : Value) (values : Values) → IsSome (value_at values address)
    → value_at (set_value (is_at (address_cmp address)) values w) q ≡ cond (is_eq (address_cmp address q)) (Some w) (value_at values q)
value_at-set_value q address w values some =
    lookup-set_value (eq_by_cmp_equiv order.total-law) (is_at (address_cmp address))
    (λ x y e. ap is_eq (order.total-law.congr address x y (equal (address_cmp address x) e))) q w values some

-- where nothing is held nothing is put
pub nothing_put : (test : Address → Bool) (values : Values) (w : Value) → lookup test values ≡ None → set_value test values w ≡ values
nothing_put test [] w e = refl
nothing_put test (pair ∷ values) w e = by (test pair.0) (nothing_put test values w) e
  where
    by : (b : Bool) → (lookup test values ≡ None → set_value test values w ≡ values) → cond b (Some pair.1) (lookup test values) ≡ None
        → cond b ((pair.0, w) ∷ values) (pair ∷ set_value test values w) ≡ pair ∷ values
    by true rest f = absurd (cc)
    by false rest f = ap (λ all. pair ∷ all) (rest f)

-- ---- all deltas of a feed, in the order of their addresses

-- what is found after a delta that may be there
abbrev after : Values → Values → Address → Option Delta → Option Value
after values now a None = value_at now a
after values now a (Some d) = option_map (apply d) (value_at values a)

-- two have the same at some addresses
abbrev Agree : Values → Values → List Address → Type 0
Agree values now addresses = AllByRecursion (λ b. value_at now b ≡ value_at values b) addresses

-- a value put below some addresses leaves those alone
agree-set_value : (values now : Values) (address : Address) (w : Value) (addresses : List Address) → IsSome (value_at now address)
    → AllByRecursion (λ y. address_cmp address y ≡ Less) addresses → Agree values now addresses
    → Agree values (set_value (is_at (address_cmp address)) now w) addresses
agree-set_value values now address w [] some below same = tt
agree-set_value values now address w (b ∷ addresses) some below same = (
  value_at-set_value b address w now some ∙ ap (λ r. cond (is_eq r) (Some w) (value_at now b)) below.0 ∙ same.0,
  agree-set_value values now address w addresses some below.1 same.1,
)

-- a delta where nothing is held changes nothing
without : (values now : Values) (change : Address × Delta) (changes : Deltas) (a : Address) → value_at values change.0 ≡ None
    → value_at now change.0 ≡ value_at values change.0 → AllByRecursion (λ y. address_cmp change.0 y ≡ Less) (keys_of changes)
    → after values now a (delta_at changes a) ≡ after values now a (cond (is_eq (address_cmp a change.0)) (Some change.1) (delta_at changes a))
without values now change changes a none same below = by (is_eq (address_cmp a change.0)) refl
  where
    by : (b : Bool) → is_eq (address_cmp a change.0) ≡ b
        → after values now a (delta_at changes a) ≡ after values now a (cond b (Some change.1) (delta_at changes a))
    by false e = refl
    by true e =
        let is : address_cmp a change.0 ≡ Equal = equal _ e in
        let here : value_at values a ≡ None = lookup-alike address_cmp order.total-law a change.0 values is ∙ none in
        let there : value_at now a ≡ None = lookup-alike address_cmp order.total-law a change.0 now is ∙ same ∙ none in
        ap (after values now a) (none_behind a change.0 changes is below) ∙ there ∙ sym (ap (option_map (apply change.1)) here)

-- a delta where a value is held puts what it makes of it
within : (values now : Values) (change : Address × Delta) (changes : Deltas) (a : Address) (v : Value) → value_at values change.0 ≡ Some v
    → IsSome (value_at now change.0) → AllByRecursion (λ y. address_cmp change.0 y ≡ Less) (keys_of changes)
    → after values (set_value (is_at (address_cmp change.0)) now (apply change.1 v)) a (delta_at changes a)
    ≡ after values now a (cond (is_eq (address_cmp a change.0)) (Some change.1) (delta_at changes a))
within values now change changes a v held some below = by (is_eq (address_cmp a change.0)) refl (delta_at changes a) refl
  where
    by : (b : Bool) → is_eq (address_cmp a change.0) ≡ b → (o : Option Delta) → delta_at changes a ≡ o
        → after values (set_value (is_at (address_cmp change.0)) now (apply change.1 v)) a o ≡ after values now a (cond b (Some change.1) o)
    by false e (Some d) f = refl
    by false e None f =
        value_at-set_value a change.0 (apply change.1 v) now some
        ∙ ap (λ b. cond b (Some (apply change.1 v)) (value_at now a)) (turned change.0 a ∙ e)
    by true e (Some d) f = absurd (let none = none_behind a change.0 changes (equal _ e) below in cc)
    by true e None f =
        let here : value_at values a ≡ Some v = lookup-alike address_cmp order.total-law a change.0 values (equal _ e) ∙ held in
        value_at-set_value a change.0 (apply change.1 v) now some
        ∙ ap (λ b. cond b (Some (apply change.1 v)) (value_at now a)) (turned change.0 a ∙ e)
        ∙ sym (ap (option_map (apply change.1)) here)

-- once all are put, each delta was applied to what was held at its address
all_after : (values now : Values) (changes : Deltas) (a : Address) → IsStrictlySortedBy address_cmp (keys_of changes)
    → Agree values now (keys_of changes) → value_at (with_all now (changed_from values changes)) a ≡ after values now a (delta_at changes a)
unfolding IsStrictlySortedBy
all_after values now [] a rising same = refl
all_after values now (change ∷ changes) a rising same =
    by (value_at values change.0) refl (λ m agree. all_after values m changes a rising.1 agree)
  where
    by : (o : Option Value) → value_at values change.0 ≡ o
        → ((m : Values) → Agree values m (keys_of changes) → value_at (with_all m (changed_from values changes)) a ≡ after values m a (delta_at changes a))
        → value_at (with_all now (changed_one change.0 change.1 o (changed_from values changes))) a
        ≡ after values now a (cond (is_eq (address_cmp a change.0)) (Some change.1) (delta_at changes a))
    by None e rest = rest now same.1 ∙ without values now change changes a e same.0 rising.0
    by (Some v) e rest =
        let some : IsSome (value_at now change.0) = ap is_some (same.0 ∙ e) in
        rest (set_value (is_at (address_cmp change.0)) now (apply change.1 v))
        (agree-set_value values now change.0 (apply change.1 v) (keys_of changes) some rising.0 same.1)
        ∙ within values now change changes a v e some rising.0

-- a list has the same as itself
agree-self : (values : Values) (addresses : List Address) → Agree values values addresses
agree-self values [] = tt
agree-self values (b ∷ addresses) = (refl, agree-self values addresses)

-- what is held after the code's two passes is what was held, with the feed's delta applied
pub held-advanced : (values : Values) (changes : Deltas) (a : Address) → IsStrictlySortedBy address_cmp (keys_of changes)
    → value_at (with_all values (changed_from values changes)) a ≡ option_map (apply_maybe (delta_at changes a)) (value_at values a)
held-advanced values changes a rising = all_after values values changes a rising (agree-self values (keys_of changes))
    ∙ by (delta_at changes a) (value_at values a) refl
  where
    by : (o : Option Delta) (v : Option Value) → value_at values a ≡ v → after values values a o ≡ option_map (apply_maybe o) (value_at values a)
    by (Some d) v e = refl
    by None None e = e ∙ sym (ap (option_map (apply_maybe None)) e)
    by None (Some v) e = e ∙ sym (ap (option_map (apply_maybe None)) e)

-- ---- as one list

-- at an address below all others nothing is held
none_held : (q address : Address) (values : Values) → address_cmp q address ≡ Equal
    → AllByRecursion (λ y. address_cmp address y ≡ Less) (keys_of values) → value_at values q ≡ None
none_held q address [] same below = refl
none_held q address (pair ∷ values) same below =
    ap (λ r. cond (is_eq r) (Some pair.1) (value_at values q)) (order.total-law.congr q address pair.0 same ∙ below.0)
    ∙ none_held q address values same below.1

-- values at the same addresses, which rise, are the same where each is
same_values : (xs ys : Values) → keys_of xs ≡ keys_of ys → IsStrictlySortedBy address_cmp (keys_of xs)
    → ((a : Address) → value_at xs a ≡ value_at ys a) → xs ≡ ys
unfolding IsStrictlySortedBy
same_values [] [] keys rising same = refl
same_values [] (y ∷ ys) keys rising same = absurd (cc)
same_values (x ∷ xs) [] keys rising same = absurd (cc)
same_values (x ∷ xs) (y ∷ ys) keys rising same =
    λ i. (first i, here i) ∷ same_values xs ys rest rising.1 behind i
  where
    first : x.0 ≡ y.0
    first = cc

    rest : keys_of xs ≡ keys_of ys
    rest = cc

    own : is_at (address_cmp x.0) x.0 ≡ true
    own = (eq_by_cmp_equiv order.total-law).refl x.0

    -- what is found at the first address, of either
    found : cond (is_at (address_cmp x.0) x.0) (Some x.1) (value_at xs x.0) ≡ cond (is_at (address_cmp x.0) x.0) (Some y.1) (value_at ys x.0)
    found = same x.0 ∙ ap (λ a. cond (is_at (address_cmp x.0) a) (Some y.1) (value_at ys x.0)) (sym first)

    here : x.1 ≡ y.1
    here =
        let both : Some x.1 ≡ Some y.1 =
        sym (ap (λ b. cond b (Some x.1) (value_at xs x.0)) own) ∙ found ∙ ap (λ b. cond b (Some y.1) (value_at ys x.0)) own in cc

    behind : (a : Address) → value_at xs a ≡ value_at ys a
    behind a = by (is_at (address_cmp a) x.0) refl
      where
        by : (b : Bool) → is_at (address_cmp a) x.0 ≡ b → value_at xs a ≡ value_at ys a
        by true e =
            let at = equal (address_cmp a x.0) e in
            none_held a x.0 xs at rising.0
            ∙ sym (none_held a x.0 ys at (subst (AllByRecursion (λ z. address_cmp x.0 z ≡ Less)) rest rising.0))
        by false e =
            ap (λ b. cond b (Some x.1) (value_at xs a)) (sym e) ∙ same a
            ∙ ap (λ b. cond b (Some y.1) (value_at ys a)) (sym (ap (λ z. is_at (address_cmp a) z) first) ∙ e)

-- values with deltas applied
abbrev all_applied : Deltas → Values → Values
all_applied changes values = map (λ entry. (entry.0, apply_maybe (delta_at changes entry.0) entry.1)) values

-- each keeps its address
keys-applied : (changes : Deltas) (values : Values) → keys_of (all_applied changes values) ≡ keys_of values
keys-applied changes [] = refl
keys-applied changes (pair ∷ values) = ap (λ ks. pair.0 ∷ ks) (keys-applied changes values)

-- a value that is put where one is held adds no address
keys-with_all : (now changed : Values) → keys_of (with_all now changed) ≡ keys_of now
keys-with_all now [] = refl
keys-with_all now (pair ∷ changed) =
    keys-with_all (set_value (is_at (address_cmp pair.0)) now pair.1) changed ∙ keys-set_value (is_at (address_cmp pair.0)) now pair.1

-- what is found among them
value_at-applied : (changes : Deltas) (values : Values) (a : Address)
    → value_at (all_applied changes values) a ≡ option_map (apply_maybe (delta_at changes a)) (value_at values a)
value_at-applied changes [] a = refl
value_at-applied changes (pair ∷ values) a = by (is_at (address_cmp a) pair.0) refl (value_at-applied changes values a)
  where
    by : (b : Bool) → is_at (address_cmp a) pair.0 ≡ b
        → value_at (all_applied changes values) a ≡ option_map (apply_maybe (delta_at changes a)) (value_at values a)
        → cond b (Some (apply_maybe (delta_at changes pair.0) pair.1)) (value_at (all_applied changes values) a)
        ≡ option_map (apply_maybe (delta_at changes a)) (cond b (Some pair.1) (value_at values a))
    by true e rest =
        ap (λ x. Some (apply_maybe (delta_at changes x) pair.1)) (sym (address_cmp-equal a pair.0 (equal (address_cmp a pair.0) e)))
    by false e rest = rest

-- the code's two passes leave each held value with its delta applied, and nothing else
pub with_all-applied : (values : Values) (changes : Deltas) → IsStrictlySortedBy address_cmp (keys_of values)
    → IsStrictlySortedBy address_cmp (keys_of changes) → with_all values (changed_from values changes) ≡ all_applied changes values
with_all-applied values changes held rising =
    let keys = keys-with_all values (changed_from values changes) in
    same_values (with_all values (changed_from values changes)) (all_applied changes values)
    (keys ∙ sym (keys-applied changes values))
    (subst (IsStrictlySortedBy address_cmp) (sym keys) held)
    (λ a. held-advanced values changes a rising ∙ sym (value_at-applied changes values a))
