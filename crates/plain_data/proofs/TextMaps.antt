-- Lists of pairs whose keys rise, as the finite maps of std see them.
use Rattle.std.proofs.Common.{◌≡◌, ℕ, ◌+◌, ◌<◌, get_or, Option, Some, None, IfSome, option_map, Bor, Bool, true, false, cond, T}
use Rattle.std.proofs.Common.{◌&&◌, List, [], ◌∷◌, length, ◌↔◌, refl, sym, ap, ◌∙◌, subst, arith}
use Rattle.std.specs.Cmp.{IsTotalOrder}
use Rattle.std.specs.List.{AllByRecursion, IsAllAdjacentAnswer}
use Rattle.std.specs.Bool.{MatchBool}
use Rattle.std.proofs.lemmas.Map.Keys.{sorted_from_all_adjacent, Less-from_sorted}
use Rattle.std.specs.List.Sorted.{IsStrictlySortedBy}
use Rattle.std.specs.Map.{lookup, keys_of}
use Rattle.std.specs.BTreeMap.{insert_entry, is_at}
use Rattle.std.specs.Ordering.{is_lt, match_ordering}
use Rattle.std.specs.declared.cmp.Ordering.{Ordering}
use Rattle.std.specs.declared.cmp.Ordering.TheVariants.{Less, Equal, Greater}
use Rattle.std.specs.FinMap as map
use Rattle.std.specs.FinMap.Entries.{find, put, is_sorted, below_all, by_order}
use Rattle.std.specs.FinMap.{nat_cmp-IsAntisymmetric, slice_cmp-IsAntisymmetric}
use Rattle.std.specs.Option.{option_copied}
use Rattle.std.proofs.lemmas.Bool.{false≢true}
use Rattle.plain_data.specs.Texts.{Bytes, text_cmp}
use Rattle.plain_data.proofs.Entries.{keys_of-get, length-keys}

-- two that hold
pub both : (a b : Bool) → T a → T b → T (a && b)
both true b p q = q
both false b p q = p

-- of two that hold each holds
pub halves : (a b : Bool) → T (a && b) → T a × T b
halves true b p = (tt, p)
halves false b p = absurd p

-- only Less passes the test of being less
pub less : (r : Ordering) → T (is_lt r) → r ≡ Less
less Less p = refl
less Equal p = absurd p
less Greater p = absurd p

module _ {K V : Type 0} (R : K → K → Ordering) where
  -- a key that is below each other passes the test against all of them
  below_all-from_rising : (k : K) (es : List (K × V)) → AllByRecursion (λ y. R k y ≡ Less) (keys_of es) → T (below_all R k es)
  below_all-from_rising k [] all = tt
  below_all-from_rising k (e ∷ es) all = both _ _ (subst (λ r. T (is_lt r)) (sym all.0) tt) (below_all-from_rising k es all.1)

  -- keys that rise pass the test of a finite map
  pub sorted-from_rising : (es : List (K × V)) → IsStrictlySortedBy R (keys_of es) → T (is_sorted R es)
  unfolding IsStrictlySortedBy
  sorted-from_rising [] rising = tt
  sorted-from_rising (e ∷ es) rising = both _ _ (below_all-from_rising e.0 es rising.0) (sorted-from_rising es rising.1)

  -- and one that passes this test is below each of them
  rising-from_below_all : (k : K) (es : List (K × V)) → T (below_all R k es) → AllByRecursion (λ y. R k y ≡ Less) (keys_of es)
  rising-from_below_all k [] h = tt
  rising-from_below_all k (e ∷ es) h = (less _ (halves _ _ h).0, rising-from_below_all k es (halves _ _ h).1)

  -- keys that pass the test rise
  pub rising-from_sorted : (es : List (K × V)) → T (is_sorted R es) → IsStrictlySortedBy R (keys_of es)
  unfolding IsStrictlySortedBy
  rising-from_sorted [] h = tt
  rising-from_sorted (e ∷ es) h = (rising-from_below_all e.0 es (halves _ _ h).0, rising-from_sorted es (halves _ _ h).1)

  -- the two ways to look a key up agree
  pub lookup-is-find : (q : K) (es : List (K × V)) → lookup (is_at (R q)) es ≡ find R q es
  lookup-is-find q [] = refl
  lookup-is-find q (e ∷ es) = ap (cond (is_at (R q) e.0) (Some e.1)) (lookup-is-find q es)

  -- and so do the two ways to put a value at a key
  pub insert_entry-is-put : (k : K) (v : V) (es : List (K × V)) → insert_entry R es k v ≡ put R k v es
  insert_entry-is-put k v [] = refl
  insert_entry-is-put k v (e ∷ es) =
      elim (R k e.0) as (λ r. match_ordering r ((k, v) ∷ e ∷ es) ((e.0, v) ∷ es) (e ∷ insert_entry R es k v)
      ≡ by_order r ((k, v) ∷ e ∷ es) ((e.0, v) ∷ es) (e ∷ put R k v es)) [
        | Less ↦ refl
        | Equal ↦ refl
        | Greater ↦ ap (λ rest. e ∷ rest) (insert_entry-is-put k v es)
      ]

-- a list of length 0 is empty
pub empty-length : {X : Type 0} (xs : List X) → length xs ≡ 0 → xs ≡ []
empty-length [] e = refl
empty-length (x ∷ xs) e = absurd (cc)

module _ {K V : Type 0} (R : K → K → Ordering) where
  -- the map of a list in order has this list as its pairs, and so its length
  length-from_sorted : (es : List (K × V)) → T (is_sorted R es) → map.len (map.from_sorted {R = R} es) ≡ length es
  length-from_sorted es h = map.len-entries _ ∙ ap length (map.entries-from_sorted R es h)

  -- a list without pairs is the empty map, and no other list is
  pub empty-from_sorted : (es : List (K × V)) → T (is_sorted R es) → (es ≡ []) ↔ (map.from_sorted {R = R} es ≡ map.empty)
  empty-from_sorted es h = (
    (λ e. map.empty_of_len _ (length-from_sorted es h ∙ ap length e)),
    (λ e. empty-length es (sym (length-from_sorted es h) ∙ ap map.len e ∙ map.len-empty R V)),
  )

  -- the map of a list in which a value was put is the map with that value
  pub from_sorted-put : IsTotalOrder R → (es fs : List (K × V)) (k : K) (v : V) → T (is_sorted R es) → T (is_sorted R fs)
      → fs ≡ insert_entry R es k v → map.from_sorted {R = R} fs ≡ map.insert (map.from_sorted es) k v
  from_sorted-put o es fs k v before after is =
      map.same_entries_map _ _
      (map.entries-from_sorted R fs after
      ∙ is
      ∙ insert_entry-is-put R k v es
      ∙ ap (put R k v) (sym (map.entries-from_sorted R es before))
      ∙ sym (map.entries-insert o _ k v))

-- ---- whether keys rise

-- an answer whose test of being less is true is Less
is_less : (r : Ordering) → is_lt r ≡ true → r ≡ Less
is_less r h = less r (subst T (sym h) tt)

module _ {V : Type 0} (R : Bytes → Bytes → Ordering) (o : IsTotalOrder R) where
  -- so two neighbouring keys compare as the keys of two neighbouring pairs
  next-keys : (es : List (Bytes × V)) (k : ℕ) (d : Bytes × V)
      → R (get_or (keys_of es) k d.0) (get_or (keys_of es) (k + 1) d.0) ≡ R (get_or es k d).0 (get_or es (k + 1) d).0
  next-keys es k d i = R (keys_of-get es k d i) (keys_of-get es (k + 1) d i)

  -- keys rise exactly where each is below the next
  pub rising-from_adjacent : (es : List (Bytes × V)) (b : Bool) → IsAllAdjacentAnswer (λ x y t. t ≡ is_lt (R x.0 y.0)) es b
      → MatchBool b (IsStrictlySortedBy R (keys_of es)) (IsStrictlySortedBy R (keys_of es) → ⊥)
  rising-from_adjacent [] true adjacent = rising-from_sorted {V = V} R [] tt
  rising-from_adjacent (e ∷ es) true adjacent =
      sorted_from_all_adjacent o (keys_of (e ∷ es)) e.0
      (λ k within. next-keys (e ∷ es) k e ∙ is_less _ (sym (adjacent k e (subst (λ n. k + 1 < n) (length-keys (e ∷ es)) within))))
  rising-from_adjacent [] false adjacent = λ rising. omega (arith, adjacent.1)
  rising-from_adjacent (e ∷ es) false adjacent = λ rising.
      let k = adjacent.0 in
      let below = Less-from_sorted R (keys_of (e ∷ es)) k (k + 1) e.0 rising (omega arith) (subst (λ n. k + 1 < n) (sym (length-keys (e ∷ es))) adjacent.1) in
      false≢true (adjacent.2 e ∙ ap is_lt (sym (next-keys (e ∷ es) k e) ∙ below))

-- texts that compare equal are one
pub same : (x y : Bytes) → text_cmp x y ≡ Equal → x ≡ y
same = slice_cmp-IsAntisymmetric nat_cmp-IsAntisymmetric

-- a pair whose key compares equal to a text is the text and the value there
pub pair_is : {V : Type 0} (r : Option (Bor (Bytes × V))) (key : Bytes) (o : Option V) → option_map (λ e. e.1) (option_copied r) ≡ o
    → IfSome r (λ pair. text_cmp key pair.now.0 ≡ Equal) → option_copied r ≡ option_map (λ v. (key, v)) o
pair_is None key o is equal = ap (option_map (λ v. (key, v))) is
pair_is (Some pair) key o is equal = ap (λ k. Some (k, pair.now.1)) (sym (same key pair.now.0 equal)) ∙ ap (option_map (λ v. (key, v))) is
