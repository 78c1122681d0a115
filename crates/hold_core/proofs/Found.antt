-- What an index finds is what a look at all observations would.
use Rattle.std.proofs.Common.{◌≡◌, ℕ, ◌+◌, ◌<◌, ◌≤◌, suc, zero, Bool, true, false, cond, ◌&&◌, ◌||◌, List, [], ◌∷◌, ◌++◌, length, take, drop}
use Rattle.std.proofs.Common.{Option, Some, None, is_some, slice_get, get_or, count_by, sum_by, refl, sym, ap, ◌∙◌, subst, arith}
use Rattle.std.specs.List.{list_any, range_with_len}
use Rattle.std.specs.List.Sorted.{IsPartitionedBy}
use Rattle.std.specs.Option.{option_cmp, option_map}
use Rattle.std.specs.Ordering.{is_eq, is_lt, ordering_index}
use Rattle.std.specs.declared.cmp.Ordering.{Ordering}
use Rattle.std.specs.declared.cmp.Ordering.TheVariants.{Less, Equal, Greater}
use Rattle.std.specs.BTreeMap.{is_at}
use Rattle.std.specs.Cmp.Lexicographic.{options_total}
use Rattle.std.proofs.lemmas.Bool.{false≢true}
use Rattle.std.proofs.lemmas.List.{get_or-drop, get_or_default, get_or-take, length-drop, length-take-le, take-append-drop}
use Rattle.std.proofs.lemmas.List.Folds.{list_any_none, list_any-append}
use Rattle.std.proofs.lemmas.List.Sums.{sum_by-append, length-filter}
use Rattle.std.proofs.lemmas.List.Sorted.{list_any-IsPermutation, sum_by-IsPermutation, searchable_from_sorted, IsNonDecreasingBy-drop}
use Rattle.rdt_types.specs.declared.address.Address.{Address}
use Rattle.rdt_types.specs.declared.delta.Delta.{Delta}
use Rattle.rdt_types.specs.contracts.address.AddressOrd.TheImpl.Laws as order
use Rattle.rdt_types.specs.Addresses.{address_cmp}
use Rattle.conflict_table.specs.Clashes.{clash}
use Rattle.txn_lang.specs.declared.run.Seen.{Seen}
use Rattle.journal_core.specs.Holds.{hits, disturbs, disturbs_some}
use Rattle.hold_core.specs.Books.{is_written, met_in}
use Rattle.hold_core.specs.code.Index.{first_places, address_at, IsIndex, order_at, is_met_at, seen_at, hit_by, is_hit_at, Rises, IsReached, IsFirstAt}

-- ---- orders

-- what is no higher than one that is less is less
less-before : (a b : Ordering) → ordering_index a ≤ ordering_index b → is_lt b ≡ true → is_lt a ≡ true
less-before Less b low less = refl
less-before Equal Less low less = absurd (omega (arith, low))
less-before Equal Equal low less = less
less-before Equal Greater low less = less
less-before Greater Less low less = absurd (omega (arith, low))
less-before Greater Equal low less = less
less-before Greater Greater low less = less

-- what is less isn't equal
less-unequal : (a : Ordering) → is_lt a ≡ true → is_eq a ≡ false
less-unequal Less less = refl
less-unequal Equal less = sym less
less-unequal Greater less = refl

-- nor is what is no lower than one that is neither
past-unequal : (a b : Ordering) → ordering_index a ≤ ordering_index b → is_lt a ≡ false → is_eq a ≡ false → is_eq b ≡ false
past-unequal Less b low reached past = absurd (false≢true (sym reached))
past-unequal Equal b low reached past = absurd (false≢true (sym past))
past-unequal Greater Less low reached past = refl
past-unequal Greater Equal low reached past = absurd (omega (arith, low))
past-unequal Greater Greater low reached past = refl

-- ---- along the places of one index

module _ (observations : List Seen) where
  -- sorted places rise along each address
  pub rises-of : (address : Address) (places : List ℕ) → IsIndex observations places → Rises observations address places
  rises-of address places index =
      searchable_from_sorted (options_total order.total-law) (address_at observations) places (Some address) index.sorted

  -- so those before the address stand first
  pub parted : (address : Address) (places : List ℕ) → Rises observations address places
      → IsPartitionedBy (λ place. is_lt (order_at observations address place)) places
  parted address places rises i j d order within before = less-before _ _ (rises i j d order within) before

  -- a delta at the address hits nothing where what was observed isn't at it
  missed : (pair : Address × Delta) (place : ℕ) → is_met_at observations pair.0 place ≡ false → is_hit_at observations pair place ≡ false
  missed pair place = by (slice_get observations place)
    where
      by : (o : Option Seen) → is_eq (option_cmp address_cmp (option_map (λ seen. seen.address) o) (Some pair.0)) ≡ false → hit_by pair o ≡ false
      by None unmet = refl
      by (Some seen) unmet = ap (λ b. b && clash seen.obs pair.1) unmet

  -- what is found at a place is there, at the address
  found : (address : Address) (place : ℕ) (seen : Seen) → seen_at observations address place ≡ Some seen
      → (is_met_at observations address place ≡ true) × (slice_get observations place ≡ Some seen)
  found address place seen = by (slice_get observations place)
    where
      which : (b : Bool) (there : Seen) → cond b (Some there) None ≡ Some seen → (b ≡ true) × (Some there ≡ Some seen)
      which true there is = (refl, is)
      which false there is = absurd (cc)

      by : (o : Option Seen) → cond (is_eq (option_cmp address_cmp (option_map (λ s. s.address) o) (Some address))) o None ≡ Some seen
          → (is_eq (option_cmp address_cmp (option_map (λ s. s.address) o) (Some address)) ≡ true) × (o ≡ Some seen)
      by None is = absurd (cc)
      by (Some there) is = which (is_eq (address_cmp there.address address)) there is

  pub found-met : (address : Address) (place : ℕ) (seen : Seen) → seen_at observations address place ≡ Some seen
      → is_met_at observations address place ≡ true
  found-met address place seen is = (found address place seen is).0

  -- so whether a delta there hits it is whether it clashes with it
  pub found-hit : (pair : Address × Delta) (place : ℕ) (seen : Seen) → seen_at observations pair.0 place ≡ Some seen
      → is_hit_at observations pair place ≡ clash seen.obs pair.1
  found-hit pair place seen is =
      let here = found pair.0 place seen is in
      let at : is_at (address_cmp seen.address) pair.0 ≡ true =
      sym (ap (λ o. is_eq (option_cmp address_cmp (option_map (λ s. s.address) o) (Some pair.0))) here.1) ∙ here.0 in
      ap (hit_by pair) here.1 ∙ ap (λ b. b && clash seen.obs pair.1) at

  -- where nothing is found, what was observed isn't at the address
  pub not-found : (address : Address) (place : ℕ) → seen_at observations address place ≡ None → is_met_at observations address place ≡ false
  not-found address place = by (slice_get observations place)
    where
      which : (b : Bool) (there : Seen) → cond b (Some there) None ≡ None → b ≡ false
      which true there is = absurd (cc)
      which false there is = refl

      by : (o : Option Seen) → cond (is_eq (option_cmp address_cmp (option_map (λ s. s.address) o) (Some address))) o None ≡ None
          → is_eq (option_cmp address_cmp (option_map (λ s. s.address) o) (Some address)) ≡ false
      by None is = refl
      by (Some there) is = which (is_eq (address_cmp there.address address)) there is

  -- behind a place that is past the address nothing is hit
  pub hit-past : (pair : Address × Delta) (places : List ℕ) (i d : ℕ) → Rises observations pair.0 places → IsReached observations pair.0 places
      → i < length places → is_met_at observations pair.0 (get_or places i d) ≡ false → list_any (is_hit_at observations pair) (drop i places) ≡ false
  hit-past pair places i d rises reached within unmet =
      list_any_none (is_hit_at observations pair) (drop i places)
      (λ k e below.
      let long = length-drop i places in
      missed pair (get_or (drop i places) k e)
      (subst (λ n. is_met_at observations pair.0 n ≡ false) (sym (get_or-drop i places k e))
      (past-unequal _ _ (rises i (i + k) e (omega arith) (omega (arith, long, below))) (reached i e within)
      (subst (λ n. is_met_at observations pair.0 n ≡ false) (get_or_default places i d e within) unmet))))

  -- before the first that is at the address nothing is hit
  pub hit-first : (pair : Address × Delta) (places : List ℕ) (from : ℕ) → IsFirstAt observations pair.0 places from
      → list_any (is_hit_at observations pair) (drop from places) ≡ list_any (is_hit_at observations pair) places
  hit-first pair places from first =
      let hit = is_hit_at observations pair in
      let none : list_any hit (take from places) ≡ false =
      list_any_none hit (take from places)
      (λ k e below.
      let near = length-take-le from places first.0 in
      missed pair (get_or (take from places) k e)
      (less-unequal _ (subst (λ n. is_lt (order_at observations pair.0 n) ≡ true) (sym (get_or-take from places k e (omega (arith, near, below))))
      (first.1.0 k e (omega arith) (omega (arith, near, below)))))) in
      sym (ap (λ b. b || list_any hit (drop from places)) none)
      ∙ sym (list_any-append hit (take from places) (drop from places))
      ∙ ap (list_any hit) (take-append-drop from places)

  -- what is left of places has no more that are at the address
  pub met-left : (address : Address) (places : List ℕ) (from : ℕ)
      → count_by (is_met_at observations address) (drop from places) ≤ count_by (is_met_at observations address) places
  met-left address places from =
      let one : ℕ → ℕ = λ place. cond (is_met_at observations address place) 1 0 in
      let both = sym (sum_by-append one (take from places) (drop from places)) ∙ ap (sum_by one) (take-append-drop from places) in
      omega (arith, both)

  -- what is left of places rises, too
  pub rises-left : (address : Address) (places : List ℕ) (from : ℕ) → Rises observations address places → Rises observations address (drop from places)
  rises-left address places from rises =
      IsNonDecreasingBy-drop (λ place. ordering_index (order_at observations address place)) from places rises

  -- and from the first that is at the address on none is before it
  pub reached-left : (address : Address) (places : List ℕ) (from : ℕ) → IsFirstAt observations address places from
      → IsReached observations address (drop from places)
  reached-left address places from first k d below =
      let long = length-drop from places in
      subst (λ n. is_lt (order_at observations address n) ≡ false) (sym (get_or-drop from places k d))
      (first.1.1 (from + k) d (omega arith) (omega (arith, long, below)))

-- ---- places and what is there

-- a test of places answers as one of what is there
any-places : (g : ℕ → Bool) (f : Seen → Bool) (a : ℕ) (seen : List Seen) → ((k : ℕ) (s : Seen) → slice_get seen k ≡ Some s → g (a + k) ≡ f s)
    → list_any g (range_with_len a (length seen)) ≡ list_any f seen
any-places g f a [] same = refl
any-places g f a (s ∷ rest) same =
    let first : g a ≡ f s = subst (λ n. g n ≡ f s) (omega arith) (same 0 s refl) in
    ap (λ b. b || list_any g (range_with_len (a + 1) (length rest))) first
    ∙ ap (λ b. f s || b) (any-places g f (a + 1) rest (λ k t at. subst (λ n. g n ≡ f t) (omega arith) (same (suc k) t at)))

-- what passes is counted once
abbrev pub one_if : Bool → ℕ
one_if b = cond b 1 0

-- and so does a count
count-places : (g : ℕ → Bool) (f : Seen → Bool) (a : ℕ) (seen : List Seen) → ((k : ℕ) (s : Seen) → slice_get seen k ≡ Some s → g (a + k) ≡ f s)
    → count_by g (range_with_len a (length seen)) ≡ count_by f seen
count-places g f a [] same = refl
count-places g f a (s ∷ rest) same =
    let start : g a ≡ f s = subst (λ n. g n ≡ f s) (omega arith) (same 0 s refl) in
    let first = ap one_if start in
    let others = count-places g f (a + 1) rest (λ k t at. subst (λ n. g n ≡ f t) (omega arith) (same (suc k) t at)) in
    let places = sum_by-append (λ n. cond (g n) 1 0) (a ∷ []) (range_with_len (a + 1) (length rest)) in
    let seens = sum_by-append (λ t. cond (f t) 1 0) (s ∷ []) rest in
    omega (arith, first, others, places, seens)

or-false : (b : Bool) → (b || false) ≡ b
or-false true = refl
or-false false = refl

there : {A : Type 0} (a : A) (b : Bool) → is_some (cond b (Some a) None) ≡ b
there a true = refl
there a false = refl

module _ (observations : List Seen) (places : List ℕ) (index : IsIndex observations places) (address : Address) (delta : Delta) where
  -- a look at all places of an index is one at all observations
  pub hit-all : list_any (is_hit_at observations (address, delta)) places ≡ disturbs_some ((address, delta) ∷ []) observations
  hit-all =
      sym (list_any-IsPermutation (is_hit_at observations (address, delta)) (first_places (length observations)) places index.whole)
      ∙ any-places (is_hit_at observations (address, delta)) (disturbs ((address, delta) ∷ [])) 0 observations
      (λ k s at. subst (λ n. is_hit_at observations (address, delta) n ≡ disturbs ((address, delta) ∷ []) s) (omega arith)
      (ap (hit_by (address, delta)) at ∙ sym (or-false (hits s (address, delta)))))

  -- and as many of them are at the address
  pub met-all : count_by (is_met_at observations address) places ≡ met_in ((address, delta) ∷ []) observations
  met-all =
      sum_by-IsPermutation (λ place. cond (is_met_at observations address place) 1 0) (first_places (length observations)) places index.whole
      ∙ count-places (is_met_at observations address) (is_written ((address, delta) ∷ [])) 0 observations
      (λ k s at. subst (λ n. is_met_at observations address n ≡ is_written ((address, delta) ∷ []) s) (omega arith)
      (ap (λ o. is_eq (option_cmp address_cmp (option_map (λ seen. seen.address) o) (Some address))) at
      ∙ sym (there delta (is_at (address_cmp s.address) address))))
      ∙ sym (length-filter (is_written ((address, delta) ∷ [])) observations)

-- one place more
range-more : (a n : ℕ) → range_with_len a (suc n) ≡ range_with_len a n ++ (a + n) ∷ []
range-more a zero = ap (λ (k : ℕ). k ∷ []) (omega arith)
range-more a (suc n) = ap (λ (l : List ℕ). a ∷ l) (range-more (a + 1) n ∙ ap (λ (k : ℕ). range_with_len (a + 1) n ++ k ∷ []) (omega arith))

pub places-more : (count : ℕ) → first_places (count + 1) ≡ first_places count ++ count ∷ []
places-more count =
    let next : count + 1 ≡ suc count = omega arith in
    let same : 0 + count ≡ count = omega arith in
    ap first_places next ∙ range-more 0 count ∙ ap (λ (k : ℕ). range_with_len 0 count ++ k ∷ []) same
