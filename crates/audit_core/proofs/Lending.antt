-- Values that are lent to a run, and put back in their places.
use Rattle.std.proofs.Common.{◌≡◌, Bool, true, false, cond, List, [], ◌∷◌, Option, Some, None, option_map, IsSome, is_some, refl, sym, ap, ◌∙◌}
use Rattle.std.specs.Prelude.{unwrap_or}
use Rattle.std.specs.List.{AllByRecursion}
use Rattle.std.specs.List.Sorted.{IsStrictlySortedBy}
use Rattle.std.specs.Map.{lookup, set_value, keys_of}
use Rattle.std.specs.BTreeMap.{insert_entry, is_at}
use Rattle.std.specs.Cmp.{eq_by_cmp_equiv}
use Rattle.std.specs.Ordering.{is_eq, ordering_reverse, match_ordering}
use Rattle.std.specs.declared.cmp.Ordering.{Ordering}
use Rattle.std.specs.declared.cmp.Ordering.TheVariants.{Less, Equal, Greater}
use Rattle.std.proofs.lemmas.Map.{lookup-set_value}
use Rattle.plain_data.proofs.Entries.{equal, lookup-insert_entry}
use Rattle.plain_data.proofs.Overlays.{Some_is}
use Rattle.rdt_types.specs.declared.address.Address.{Address}
use Rattle.rdt_types.specs.declared.delta.Delta.{Delta}
use Rattle.rdt_types.specs.declared.value.Value.{Value}
use Rattle.rdt_types.specs.Deltas.{apply}
use Rattle.rdt_types.specs.Addresses.{address_cmp}
use Rattle.rdt_types.specs.Values.{default_of}
use Rattle.rdt_types.specs.contracts.address.AddressOrd.TheImpl.Laws as order
use Rattle.rdt_types.proofs.Addresses.{address_cmp-equal}
use Rattle.txn_lang.specs.declared.snaps.Snap.{Snap}
use Rattle.txn_lang.specs.States.{State, known}
use Rattle.txn_lang.specs.Observed.{Extends}
use Rattle.txn_eval.specs.Running.{values_of}
use Rattle.audit_core.specs.Dumps.{Values, state_of, with_change}
use Rattle.audit_core.specs.code.Running.{is_small, left_of, without_value, with_snap, with_snaps, IsLent}

-- ---- maps by address

-- where nothing is kept nothing is put
pub nothing_put : (test : Address → Bool) (values : Values) (w : Value) → lookup test values ≡ None → set_value test values w ≡ values
nothing_put test [] w e = refl
nothing_put test (pair ∷ values) w e = by (test pair.0) (nothing_put test values w) e
  where
    by : (b : Bool) → (lookup test values ≡ None → set_value test values w ≡ values) → cond b (Some pair.1) (lookup test values) ≡ None
        → cond b ((pair.0, w) ∷ values) (pair ∷ set_value test values w) ≡ pair ∷ values
    by true rest f = absurd (cc)
    by false rest f = ap (λ all. pair ∷ all) (rest f)

-- nothing is found among pairs that all stand behind the address
pub none_behind : {X : Type 0} (q address : Address) (pairs : List (Address × X)) → address_cmp q address ≡ Equal
    → AllByRecursion (λ y. address_cmp address y ≡ Less) (keys_of pairs) → lookup (is_at (address_cmp q)) pairs ≡ None
none_behind q address [] same below = refl
none_behind q address (pair ∷ pairs) same below =
    ap (λ r. cond (is_eq r) (Some pair.1) (lookup (is_at (address_cmp q)) pairs)) (order.total-law.congr q address pair.0 same ∙ below.0)
    ∙ none_behind q address pairs same below.1

-- what stands in front of an address stands in front of all that stand behind it
in_front : (a b : Address) (keys : List Address) → address_cmp a b ≡ Less → AllByRecursion (λ y. address_cmp b y ≡ Less) keys
    → AllByRecursion (λ y. address_cmp a y ≡ Less) keys
in_front a b [] less below = tt
in_front a b (key ∷ keys) less below = (order.total-law.trans a b key less below.0, in_front a b keys less below.1)

-- among keys that rise nothing is found behind one that is greater
none_less : {X : Type 0} (a : Address) (pair : Address × X) (pairs : List (Address × X)) → address_cmp a pair.0 ≡ Less
    → AllByRecursion (λ y. address_cmp pair.0 y ≡ Less) (keys_of pairs) → lookup (is_at (address_cmp a)) pairs ≡ None
none_less a pair pairs less below =
    none_behind a a pairs (equal (address_cmp a a) ((eq_by_cmp_equiv order.total-law).refl a)) (in_front a pair.0 (keys_of pairs) less below)

-- where a value is kept, putting one in its place inserts it
pub put_there : (address : Address) (values : Values) (w : Value) → IsStrictlySortedBy address_cmp (keys_of values)
    → IsSome (lookup (is_at (address_cmp address)) values)
    → set_value (is_at (address_cmp address)) values w ≡ insert_entry address_cmp values address w
unfolding IsStrictlySortedBy
put_there address [] w rising there = absurd (cc)
put_there address (pair ∷ values) w rising there = by (address_cmp address pair.0) refl there (put_there address values w rising.1)
  where
    by : (r : Ordering) → address_cmp address pair.0 ≡ r → IsSome (cond (is_eq r) (Some pair.1) (lookup (is_at (address_cmp address)) values))
        → (IsSome (lookup (is_at (address_cmp address)) values)
        → set_value (is_at (address_cmp address)) values w ≡ insert_entry address_cmp values address w)
        → cond (is_eq r) ((pair.0, w) ∷ values) (pair ∷ set_value (is_at (address_cmp address)) values w)
        ≡ match_ordering r ((address, w) ∷ pair ∷ values) ((pair.0, w) ∷ values) (pair ∷ insert_entry address_cmp values address w)
    by Less e some rest = absurd (let none = ap is_some (none_less address pair values e rising.0) in cc)
    by Equal e some rest = refl
    by Greater e some rest = ap (λ values. pair ∷ values) (rest some)

-- so it is with what a delta makes of the value
pub changed_there : (address : Address) (values : Values) (delta : Delta) (v w : Value) → IsStrictlySortedBy address_cmp (keys_of values)
    → lookup (is_at (address_cmp address)) values ≡ Some v → w ≡ apply delta v
    → set_value (is_at (address_cmp address)) values w ≡ with_change values (address, delta)
changed_there address values delta v w rising there is =
    put_there address values w rising (ap is_some there)
    ∙ ap (insert_entry address_cmp values address) (is ∙ ap (λ o. apply delta (unwrap_or o (default_of address.kind))) (sym there))

-- and where none is kept, one is inserted that a delta makes of the default
pub changed_first : (address : Address) (values : Values) (delta : Delta) → lookup (is_at (address_cmp address)) values ≡ None
    → insert_entry address_cmp values address (apply delta (default_of address.kind)) ≡ with_change values (address, delta)
changed_first address values delta none =
    ap (λ o. insert_entry address_cmp values address (apply delta (unwrap_or o (default_of address.kind)))) (sym none)

-- equal addresses are equal either way round
turned : (a b : Address) → is_eq (address_cmp a b) ≡ is_eq (address_cmp b a)
turned a b = ap is_eq (order.total-law.antisymm a b) ∙ by (address_cmp b a)
  where
    by : (r : Ordering) → is_eq (ordering_reverse r) ≡ is_eq r
    by Less = refl
    by Equal = refl
    by Greater = refl

-- what passes the test is the same address
pub same_address : (a b : Address) → is_eq (address_cmp a b) ≡ true → a ≡ b
same_address a b e = address_cmp-equal a b (equal (address_cmp a b) e)

-- the value at an address, if there is one
abbrev pub value_at : Values → Address → Option Value
value_at values address = lookup (is_at (address_cmp address)) values

-- what is found after a value was put in the place of another
value_at-set_value : (q address : Address) (w : Value) (values : Values) → IsSome (value_at values address)
    → value_at (set_value (is_at (address_cmp address)) values w) q ≡ cond (is_eq (address_cmp address q)) (Some w) (value_at values q)
value_at-set_value q address w values some =
    lookup-set_value (eq_by_cmp_equiv order.total-law) (is_at (address_cmp address))
    (λ x y e. ap is_eq (order.total-law.congr address x y (equal (address_cmp address x) e))) q w values some

module _ (values : Values) (address : Address) (w : Value) where
  -- the values with this one in the place of the one at its address
  abbrev put : Values
  put = set_value (is_at (address_cmp address)) values w

  -- at other addresses they are the same
  elsewhere : (a : Address) → is_eq (address_cmp a address) ≡ false → value_at put a ≡ value_at values a
  elsewhere a e = by (value_at values address) refl
    where
      by : (o : Option Value) → value_at values address ≡ o → value_at put a ≡ value_at values a
      by None f = ap (λ all. value_at all a) (nothing_put (is_at (address_cmp address)) values w f)
      by (Some v) f =
          value_at-set_value a address w values (ap is_some f)
          ∙ ap (λ b. cond b (Some w) (value_at values a)) (turned address a ∙ e)

  -- where one was kept, it is this one
  there : (a : Address) (v : Value) → a ≡ address → value_at values address ≡ Some v → value_at put a ≡ Some w
  there a v same f =
      value_at-set_value a address w values (ap is_some f)
      ∙ ap (λ b. cond b (Some w) (value_at values a)) (ap (λ x. is_eq (address_cmp address x)) same ∙ itself address)
    where
      itself : (x : Address) → is_eq (address_cmp x x) ≡ true
      itself x = (eq_by_cmp_equiv order.total-law).refl x

  -- what isn't kept wasn't kept before
  not_before : (a : Address) → value_at put a ≡ None → value_at values a ≡ None
  not_before a e = by (value_at values address) refl
    where
      by_test : (b : Bool) → cond b (Some w) (value_at values a) ≡ None → value_at values a ≡ None
      by_test true f = absurd (cc)
      by_test false f = f

      by : (o : Option Value) → value_at values address ≡ o → value_at values a ≡ None
      by None f = ap (λ all. value_at all a) (sym (nothing_put (is_at (address_cmp address)) values w f)) ∙ e
      by (Some v) f = by_test (is_eq (address_cmp address a)) (sym (value_at-set_value a address w values (ap is_some f)) ∙ e)

-- ---- lending

-- nothing is lent at first
pub lent-none : (values : Values) → IsLent (state_of values) values []
lent-none values = record {
  whole = λ a. refl;
  absent = λ a e. ap (λ o. unwrap_or o (default_of a.kind)) e;
  small = λ a v e is. absurd (cc);
}

-- what was lent are values of the state
pub lent-extends : (m : State) (values : Values) (snaps : List (Address × Snap)) → IsLent m values snaps → Extends (values_of snaps) (known m)
lent-extends m values snaps lent a v e = ap Some (sym (lent.whole a) ∙ ap (λ o. unwrap_or o (state_of values a)) e)

-- a value as it is lent
abbrev snap_of : Value → Snap
snap_of value = record { base = 0; value = value }

-- what is there once a value was put in the place of one that is small, and this is what was put
small-stays : (values : Values) (address : Address) (other : Value) → is_small (state_of values address) ≡ true
    → state_of (set_value (is_at (address_cmp address)) values (left_of (state_of values address) other)) address ≡ state_of values address
small-stays values address other is = by (value_at values address) refl
  where
    left : left_of (state_of values address) other ≡ state_of values address
    left = ap (λ b. cond b (state_of values address) other) is

    by : (o : Option Value) → value_at values address ≡ o
        → state_of (set_value (is_at (address_cmp address)) values (left_of (state_of values address) other)) address ≡ state_of values address
    by None f =
        ap (λ all. state_of all address) (nothing_put (is_at (address_cmp address)) values (left_of (state_of values address) other) f)
    by (Some v) f =
        ap (λ o. unwrap_or o (default_of address.kind)) (there values address (left_of (state_of values address) other) address v refl f) ∙ left

module _ (m : State) (values : Values) (snaps : List (Address × Snap)) (address : Address) where
  -- what is left in the place of the value that is lent
  abbrev left : Value
  left = left_of (state_of values address) (default_of address.kind)

  -- the value at an address, once it is lent too
  whole-more : values_of snaps address ≡ None → IsLent m values snaps → (a : Address) (b : Bool) → is_eq (address_cmp a address) ≡ b
      → unwrap_or (option_map (λ (s : Snap). s.value) (cond b (Some (snap_of (state_of values address))) (lookup (is_at (address_cmp a)) snaps)))
      (state_of (without_value values address) a) ≡ m a
  whole-more missing lent a true e =
      sym (ap (λ o. unwrap_or o (state_of values address)) missing) ∙ lent.whole address ∙ ap m (sym (same_address a address e))
  whole-more missing lent a false e =
      ap (λ o. unwrap_or (values_of snaps a) (unwrap_or o (default_of a.kind))) (elsewhere values address left a e) ∙ lent.whole a

  -- what is small stays in its place
  small-more : IsLent m values snaps → (a : Address) (v : Value) (b : Bool) → is_eq (address_cmp a address) ≡ b
      → option_map (λ (s : Snap). s.value) (cond b (Some (snap_of (state_of values address))) (lookup (is_at (address_cmp a)) snaps)) ≡ Some v
      → is_small v ≡ true → state_of (without_value values address) a ≡ v
  small-more lent a v true e is small =
      let same : state_of values address ≡ v = Some_is (state_of values address) v is in
      ap (state_of (without_value values address)) (same_address a address e)
      ∙ small-stays values address (default_of address.kind) (ap is_small same ∙ small) ∙ same
  small-more lent a v false e is small =
      ap (λ o. unwrap_or o (default_of a.kind)) (elsewhere values address left a e) ∙ lent.small a v is small

  -- one more value is lent, at an address where none was
  pub lent-more : values_of snaps address ≡ None → IsLent m values snaps
      → IsLent m (without_value values address) (insert_entry address_cmp snaps address (snap_of (state_of values address)))
  lent-more missing lent = record {
    whole = λ a.
        ap (λ o. unwrap_or (option_map (λ (s : Snap). s.value) o) (state_of (without_value values address) a)) (found a)
        ∙ whole-more missing lent a (is_eq (address_cmp a address)) refl;
    absent = λ a e. lent.absent a (not_before values address left a e);
    small = λ a v is.
        small-more lent a v (is_eq (address_cmp a address)) refl (sym (ap (option_map (λ (s : Snap). s.value)) (found a)) ∙ is);
  }
    where
      found : (a : Address) → lookup (is_at (address_cmp a)) (insert_entry address_cmp snaps address (snap_of (state_of values address)))
          ≡ cond (is_eq (address_cmp a address)) (Some (snap_of (state_of values address))) (lookup (is_at (address_cmp a)) snaps)
      found a = lookup-insert_entry address_cmp order.total-law a address (snap_of (state_of values address)) snaps

-- ---- taking back

module _ (m : State) (values : Values) (pair : Address × Snap) (snaps : List (Address × Snap)) where
  -- the values with the first of those lent back
  abbrev back : Values
  back = set_value (is_at (address_cmp pair.0)) values pair.1.value

  -- what is lent among the others is at another address
  others : AllByRecursion (λ y. address_cmp pair.0 y ≡ Less) (keys_of snaps) → (a : Address) (v : Value) → values_of snaps a ≡ Some v
      → is_eq (address_cmp a pair.0) ≡ false
  others below a v is = by (is_eq (address_cmp a pair.0)) refl
    where
      by : (b : Bool) → is_eq (address_cmp a pair.0) ≡ b → b ≡ false
      by false e = refl
      by true e = absurd (let none = ap (option_map (λ (s : Snap). s.value)) (none_behind a pair.0 snaps (equal _ e) below) in cc)

  -- so it was lent before, too
  before : (a : Address) (v : Value) → is_eq (address_cmp a pair.0) ≡ false → values_of snaps a ≡ Some v → values_of (pair ∷ snaps) a ≡ Some v
  before a v e is = ap (λ b. option_map (λ (s : Snap). s.value) (cond b (Some pair.1) (lookup (is_at (address_cmp a)) snaps))) e ∙ is

  -- those of the others are lent still
  back-whole : IsLent m values (pair ∷ snaps) → AllByRecursion (λ y. address_cmp pair.0 y ≡ Less) (keys_of snaps) → (a : Address) (b : Bool)
      → is_eq (address_cmp a pair.0) ≡ b
      → unwrap_or (option_map (λ (s : Snap). s.value) (cond b (Some pair.1) (lookup (is_at (address_cmp a)) snaps))) (state_of values a) ≡ m a
      → unwrap_or (values_of snaps a) (state_of back a) ≡ m a
  back-whole lent below a false e whole =
      ap (λ o. unwrap_or (values_of snaps a) (unwrap_or o (default_of a.kind))) (elsewhere values pair.0 pair.1.value a e) ∙ whole
  back-whole lent below a true e whole =
      ap (λ o. unwrap_or (option_map (λ (s : Snap). s.value) o) (state_of back a)) (none_behind a pair.0 snaps (equal _ e) below)
      ∙ by (value_at values pair.0) refl
    where
      same : a ≡ pair.0
      same = same_address a pair.0 e

      by : (o : Option Value) → value_at values pair.0 ≡ o → state_of back a ≡ m a
      by (Some v) f = ap (λ o. unwrap_or o (default_of a.kind)) (there values pair.0 pair.1.value a v same f) ∙ whole
      by None f =
          let missing : value_at values a ≡ None = ap (value_at values) same ∙ f in
          ap (λ o. unwrap_or o (default_of a.kind)) (ap (λ all. value_at all a) (nothing_put (is_at (address_cmp pair.0)) values pair.1.value f) ∙ missing)
          ∙ sym (lent.absent a missing)

  -- so the first is taken back
  back-lent : IsLent m values (pair ∷ snaps) → AllByRecursion (λ y. address_cmp pair.0 y ≡ Less) (keys_of snaps) → IsLent m back snaps
  back-lent lent below = record {
    whole = λ a. back-whole lent below a (is_eq (address_cmp a pair.0)) refl (lent.whole a);
    absent = λ a e. lent.absent a (not_before values pair.0 pair.1.value a e);
    small = λ a v is small.
        let e = others below a v is in
        ap (λ o. unwrap_or o (default_of a.kind)) (elsewhere values pair.0 pair.1.value a e) ∙ lent.small a v (before a v e is) small;
  }

  -- what is small has never left its place
  small-whole : IsLent m values (pair ∷ snaps) → AllByRecursion (λ y. address_cmp pair.0 y ≡ Less) (keys_of snaps) → is_small pair.1.value ≡ true
      → (a : Address) (b : Bool) → is_eq (address_cmp a pair.0) ≡ b
      → unwrap_or (option_map (λ (s : Snap). s.value) (cond b (Some pair.1) (lookup (is_at (address_cmp a)) snaps))) (state_of values a) ≡ m a
      → unwrap_or (values_of snaps a) (state_of values a) ≡ m a
  small-whole lent below small a false e whole = whole
  small-whole lent below small a true e whole =
      ap (λ o. unwrap_or (option_map (λ (s : Snap). s.value) o) (state_of values a)) (none_behind a pair.0 snaps (equal _ e) below)
      ∙ lent.small a pair.1.value (ap (λ b. option_map (λ (s : Snap). s.value) (cond b (Some pair.1) (lookup (is_at (address_cmp a)) snaps))) e) small
      ∙ whole

  small-lent : IsLent m values (pair ∷ snaps) → AllByRecursion (λ y. address_cmp pair.0 y ≡ Less) (keys_of snaps) → is_small pair.1.value ≡ true
      → IsLent m values snaps
  small-lent lent below is = record {
    whole = λ a. small-whole lent below is a (is_eq (address_cmp a pair.0)) refl (lent.whole a);
    absent = lent.absent;
    small = λ a v found small. lent.small a v (before a v (others below a v found) found) small;
  }

  -- either way the others are lent still
  one_back : IsLent m values (pair ∷ snaps) → AllByRecursion (λ y. address_cmp pair.0 y ≡ Less) (keys_of snaps) → IsLent m (with_snap values pair) snaps
  one_back lent below = by (is_small pair.1.value) refl
    where
      by : (b : Bool) → is_small pair.1.value ≡ b → IsLent m (cond b values back) snaps
      by true is = small-lent lent below is
      by false is = back-lent lent below

-- once all are taken back, the values are the state
pub taken_back : (m : State) (snaps : List (Address × Snap)) (values : Values) → IsLent m values snaps
    → IsStrictlySortedBy address_cmp (keys_of snaps) → (a : Address) → state_of (with_snaps values snaps) a ≡ m a
unfolding IsStrictlySortedBy
taken_back m [] values lent rising a = lent.whole a
taken_back m (pair ∷ snaps) values lent rising a =
    taken_back m snaps (with_snap values pair) (one_back m values pair snaps lent rising.0) rising.1 a
