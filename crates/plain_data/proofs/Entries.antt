-- A list of pairs whose keys rise: the place of a key in it, and what is found and put there.
use Rattle.std.proofs.Common.{◌≡◌, ℕ, zero, suc, ◌<◌, ◌≤◌, Bool, true, false, cond, List, [], ◌∷◌, length, get_or, set, Option, Some, refl}
use Rattle.std.proofs.Common.{sym, ap, ◌∙◌, arith, ◌⊎◌, inl, inr}
use Rattle.std.specs.List.{slice_get, insert, AllByRecursion}
use Rattle.std.specs.List.Sorted.{IsStrictlySortedBy, IsPartitionedBy}
use Rattle.std.specs.Map.{lookup, keys_of}
use Rattle.std.specs.BTreeMap.{insert_entry, is_at}
use Rattle.std.specs.Cmp.{IsTotalOrder, alike_right}
use Rattle.std.specs.Ordering.{is_eq, is_gt, match_ordering, ordering_reverse}
use Rattle.std.specs.declared.cmp.Ordering.{Ordering}
use Rattle.std.specs.declared.cmp.Ordering.TheVariants.{Less, Equal, Greater}
use Rattle.std.proofs.lemmas.Map.Keys.{Less-from_sorted}
use Rattle.std.proofs.lemmas.Bool.{false≢true, cases_lt}

-- only Greater passes the test of being greater
pub greater : (r : Ordering) → is_gt r ≡ true → r ≡ Greater
greater Greater e = refl
greater Less e = absurd (false≢true e)
greater Equal e = absurd (false≢true e)

-- only Equal passes the test of equality
pub equal : (r : Ordering) → is_eq r ≡ true → r ≡ Equal
equal Equal e = refl
equal Less e = absurd (false≢true e)
equal Greater e = absurd (false≢true e)

-- what is neither greater nor equal is less
pub less : (r : Ordering) → is_gt r ≡ false → (r ≡ Equal → ⊥) → r ≡ Less
less Less e f = refl
less Equal e f = absurd (f refl)
less Greater e f = absurd (false≢true (sym e))

-- where the test of equality fails, the answer isn't Equal, which passes it
pub unequal : (r : Ordering) → is_eq r ≡ false → r ≡ Equal → ⊥
unequal r e f = false≢true (sym e ∙ ap is_eq f)

-- within a list `get` finds what is read by an index
pub get-within : {X : Type 0} (xs : List X) (i : ℕ) (d : X) → i < length xs → slice_get xs i ≡ Some (get_or xs i d)
get-within [] i d h = absurd (omega arith)
get-within (x ∷ xs) zero d h = refl
get-within (x ∷ xs) (suc i) d h = get-within xs i d (omega arith)

-- what is read at a place by `get` is what is read there by an index
pub get_or-found : {X : Type 0} (xs : List X) (i : ℕ) (x d : X) → slice_get xs i ≡ Some x → get_or xs i d ≡ x
get_or-found [] i x d e = absurd (cc)
get_or-found (y ∷ ys) zero x d e = cc
get_or-found (y ∷ ys) (suc i) x d e = get_or-found ys i x d e

-- the key at a place is the key of the pair there
pub keys_of-get : {K V : Type 0} (es : List (K × V)) (i : ℕ) (d : K × V) → get_or (keys_of es) i d.0 ≡ (get_or es i d).0
keys_of-get [] i d = refl
keys_of-get (e ∷ es) zero d = refl
keys_of-get (e ∷ es) (suc i) d = keys_of-get es i d

-- there are as many keys as pairs
pub length-keys : {K V : Type 0} (es : List (K × V)) → length (keys_of es) ≡ length es
length-keys [] = refl
length-keys (e ∷ es) = ap suc (length-keys es)

module _ {K : Type 0} (R : K → K → Ordering) (o : IsTotalOrder R) where
  -- what is below a key is below what is above it
  below : (k a b : K) → R a b ≡ Less → R k b ≡ Greater → R k a ≡ Greater
  below k a b first second =
      let b-below-k : R b k ≡ Less = o.antisymm b k ∙ ap ordering_reverse second in
      o.antisymm k a ∙ ap ordering_reverse (o.trans a b k first b-below-k)

  -- what is above the first key of some is above a key below it
  all_above : (k x : K) (ks : List K) → R k x ≡ Less → AllByRecursion (λ y. R x y ≡ Less) ks → AllByRecursion (λ y. R k y ≡ Less) ks
  all_above k x [] first all = all
  all_above k x (y ∷ ks) first all = (o.trans k x y first all.0, all_above k x ks first all.1)

module _ {K V : Type 0} (R : K → K → Ordering) (o : IsTotalOrder R) where
  -- the keys below k stand before the others
  pub partitioned : (k : K) (es : List (K × V)) → IsStrictlySortedBy R (keys_of es) → IsPartitionedBy (λ e. is_gt (R k e.0)) es
  partitioned k es rising i j d within inside above = by (cases_lt i j)
    where
      same : i ≡ j → is_gt (R k (get_or es i d).0) ≡ true
      same e = ap (λ n. is_gt (R k (get_or es n d).0)) e ∙ above

      before : i < j → is_gt (R k (get_or es i d).0) ≡ true
      before h =
          let keys : R (get_or (keys_of es) i d.0) (get_or (keys_of es) j d.0)
          ≡ Less = Less-from_sorted R (keys_of es) i j d.0 rising h (omega (arith, length-keys es)) in
          let pairs : R (get_or es i d).0 (get_or es j d).0 ≡ Less = ap (λ a. R a (get_or es j d).0) (sym (keys_of-get es i d))
          ∙ (ap (λ b. R (get_or (keys_of es) i d.0) b) (sym (keys_of-get es j d)) ∙ keys) in
          ap is_gt (below R o k _ _ pairs (greater _ above))

      by : (i < j) ⊎ (j ≤ i) → is_gt (R k (get_or es i d).0) ≡ true
      by (inl h) = before h
      by (inr h) = same (omega arith)

  -- all keys before a place are below k, and the one at the place isn't
  abbrev pub Below : K → List (K × V) → ℕ → Type 0
  Below k es i = (j : ℕ) (e : K × V) → j < i → slice_get es j ≡ Some e → R k e.0 ≡ Greater

  -- the value at an equal key is found
  pub lookup-hit : (k : K) (es : List (K × V)) (i : ℕ) (e : K × V) → Below k es i → slice_get es i ≡ Some e → R k e.0 ≡ Equal
      → lookup (is_at (R k)) es ≡ Some e.1
  lookup-hit k [] i e lower here same = absurd (cc)
  lookup-hit k (x ∷ es) zero e lower here same =
      let is : x ≡ e = cc in
      ap (λ r. cond (is_eq r) (Some x.1) (lookup (is_at (R k)) es)) (ap (λ p. R k p.0) is ∙ same) ∙ ap (λ p. Some p.1) is
  lookup-hit k (x ∷ es) (suc i) e lower here same =
      ap (λ r. cond (is_eq r) (Some x.1) (lookup (is_at (R k)) es)) (lower 0 x (omega arith) refl)
      ∙ lookup-hit k es i e (λ j f h g. lower (suc j) f (omega arith) g) here same

  -- the value at an equal key is replaced
  pub insert_entry-hit : (k : K) (v : V) (es : List (K × V)) (i : ℕ) (e : K × V) → Below k es i → slice_get es i ≡ Some e → R k e.0 ≡ Equal
      → set es i (e.0, v) ≡ insert_entry R es k v
  insert_entry-hit k v [] i e lower here same = absurd (cc)
  insert_entry-hit k v (x ∷ es) zero e lower here same =
      let is : x ≡ e = cc in
      ap (λ p. (p.0, v) ∷ es) (sym is)
      ∙ sym (ap (λ r. match_ordering r ((k, v) ∷ x ∷ es) ((x.0, v) ∷ es) (x ∷ insert_entry R es k v)) (ap (λ p. R k p.0) is ∙ same))
  insert_entry-hit k v (x ∷ es) (suc i) e lower here same =
      ap (λ rest. x ∷ rest) (insert_entry-hit k v es i e (λ j f h g. lower (suc j) f (omega arith) g) here same)
      ∙ sym (ap (λ r. match_ordering r ((k, v) ∷ x ∷ es) ((x.0, v) ∷ es) (x ∷ insert_entry R es k v)) (lower 0 x (omega arith) refl))

  -- a new key goes to its place
  pub insert_entry-gap : (k : K) (v : V) (es : List (K × V)) (i : ℕ) → Below k es i
      → ((e : K × V) → slice_get es i ≡ Some e → R k e.0 ≡ Less) → insert es i (k, v) ≡ insert_entry R es k v
  insert_entry-gap k v [] zero lower upper = refl
  insert_entry-gap k v [] (suc i) lower upper = refl
  insert_entry-gap k v (x ∷ es) zero lower upper =
      sym (ap (λ r. match_ordering r ((k, v) ∷ x ∷ es) ((x.0, v) ∷ es) (x ∷ insert_entry R es k v)) (upper x refl))
  insert_entry-gap k v (x ∷ es) (suc i) lower upper =
      ap (λ rest. x ∷ rest) (insert_entry-gap k v es i (λ j f h g. lower (suc j) f (omega arith) g) upper)
      ∙ sym (ap (λ r. match_ordering r ((k, v) ∷ x ∷ es) ((x.0, v) ∷ es) (x ∷ insert_entry R es k v)) (lower 0 x (omega arith) refl))

  -- the entries with one more, by how its key compares to the first
  abbrev pub placed : Ordering → K → V → K × V → List (K × V) → List (K × V)
  placed r k v x es = match_ordering r ((k, v) ∷ x ∷ es) ((x.0, v) ∷ es) (x ∷ insert_entry R es k v)

  -- by where the new key falls: the keys are then the new one and all old ones, the old ones alone, or the first and the rest
  all_keys_placed : (P : K → Type 0) (r : Ordering) (k : K) (v : V) (x : K × V) (es : List (K × V)) → AllByRecursion P (keys_of (x ∷ es))
      → P k → AllByRecursion P (keys_of (insert_entry R es k v)) → AllByRecursion P (keys_of (placed r k v x es))
  all_keys_placed P Less k v x es all p more = (p, all)
  all_keys_placed P Equal k v x es all p more = all
  all_keys_placed P Greater k v x es all p more = (all.0, more)

  -- what holds of all keys and of a new one holds of all after it is put; by induction on the pairs
  all_keys : (P : K → Type 0) (k : K) (v : V) (es : List (K × V)) → AllByRecursion P (keys_of es) → P k
      → AllByRecursion P (keys_of (insert_entry R es k v))
  all_keys P k v [] all p = (p, all)
  all_keys P k v (x ∷ es) all p = all_keys_placed P (R k x.0) k v x es all p (all_keys P k v es all.1 p)

  -- by where the new key falls: below the first it is below all, an equal one changes no key, and a greater one goes behind
  sorted_placed : (r : Ordering) (k : K) (v : V) (x : K × V) (es : List (K × V)) → R k x.0 ≡ r → IsStrictlySortedBy R (keys_of (x ∷ es))
      → IsStrictlySortedBy R (keys_of (insert_entry R es k v)) → IsStrictlySortedBy R (keys_of (placed r k v x es))
  unfolding IsStrictlySortedBy
  sorted_placed Less k v x es e rising more = ((e, all_above R o k x.0 (keys_of es) e rising.0), rising)
  sorted_placed Equal k v x es e rising more = rising
  sorted_placed Greater k v x es e rising more =
      (all_keys (λ y. R x.0 y ≡ Less) k v es rising.0 (o.antisymm x.0 k ∙ ap ordering_reverse e), more)

  -- keys stay in order
  pub sorted-insert_entry : (k : K) (v : V) (es : List (K × V)) → IsStrictlySortedBy R (keys_of es)
      → IsStrictlySortedBy R (keys_of (insert_entry R es k v))
  unfolding IsStrictlySortedBy
  sorted-insert_entry k v [] rising = (tt, tt)
  sorted-insert_entry k v (x ∷ es) rising = sorted_placed (R k x.0) k v x es refl rising (sorted-insert_entry k v es rising.1)

-- a list of no pairs is in order
pub sorted-none : {K V : Type 0} (R : K → K → Ordering) (es : List (K × V)) → es ≡ [] → IsStrictlySortedBy R (keys_of es)
unfolding IsStrictlySortedBy
sorted-none R [] e = tt
sorted-none R (x ∷ es) e = absurd (cc)

-- a place at which something is found is within the list
pub within-get : {X : Type 0} (xs : List X) (i : ℕ) (x : X) → slice_get xs i ≡ Some x → i < length xs
within-get [] i x e = absurd (cc)
within-get (y ∷ ys) zero x e = omega arith
within-get (y ∷ ys) (suc i) x e = omega (arith, within-get ys i x e)

-- ---- what is found after one more entry

module _ {K V : Type 0} (R : K → K → Ordering) (o : IsTotalOrder R) where
  -- where two tests agree, both answer the new value, or both leave the old one aside and look further
  found_by : (b c : Bool) (v : V) (u w : Option V) → b ≡ c → cond b (Some v) w ≡ cond c (Some v) (cond b u w)
  found_by true true v u w e = refl
  found_by false false v u w e = refl
  found_by true false v u w e = absurd (false≢true (sym e))
  found_by false true v u w e = absurd (false≢true e)

  -- by where the new key falls: in front it is met first, an equal one hides the old value, and behind the first no key is both
  lookup_placed : (r : Ordering) (q k : K) (v : V) (x : K × V) (es : List (K × V)) → R k x.0 ≡ r
      → lookup (is_at (R q)) (insert_entry R es k v) ≡ cond (is_eq (R q k)) (Some v) (lookup (is_at (R q)) es)
      → lookup (is_at (R q)) (placed R o r k v x es) ≡ cond (is_eq (R q k)) (Some v) (lookup (is_at (R q)) (x ∷ es))
  lookup_placed Less q k v x es e more = refl
  lookup_placed Equal q k v x es e more =
      found_by (is_eq (R q x.0)) (is_eq (R q k)) v (Some x.1) (lookup (is_at (R q)) es) (ap is_eq (sym (alike_right o k x.0 q e)))
  lookup_placed Greater q k v x es e more =
      ap (λ l. cond (is_eq (R q x.0)) (Some x.1) l) more
      ∙ by (is_eq (R q k)) (is_eq (R q x.0)) refl refl
    where
      by : (b c : Bool) → is_eq (R q k) ≡ b → is_eq (R q x.0) ≡ c
          → cond c (Some x.1) (cond b (Some v) (lookup (is_at (R q)) es)) ≡ cond b (Some v) (cond c (Some x.1) (lookup (is_at (R q)) es))
      by false c f g = refl
      by true false f g = refl
      by true true f g = absurd (false≢true (ap is_eq (sym e) ∙ (ap is_eq (sym (o.congr q k x.0 (equal (R q k) f))) ∙ g)))

  -- at an equal key there is the new value, and at each other key what was there
  pub lookup-insert_entry : (q k : K) (v : V) (es : List (K × V))
      → lookup (is_at (R q)) (insert_entry R es k v) ≡ cond (is_eq (R q k)) (Some v) (lookup (is_at (R q)) es)
  lookup-insert_entry q k v [] = refl
  lookup-insert_entry q k v (x ∷ es) = lookup_placed (R k x.0) q k v x es refl (lookup-insert_entry q k v es)

  -- equal keys find the same
  pub lookup-alike : (a b : K) (es : List (K × V)) → R a b ≡ Equal → lookup (is_at (R a)) es ≡ lookup (is_at (R b)) es
  lookup-alike a b [] e = refl
  lookup-alike a b (x ∷ es) e =
      ap (λ r. cond (is_eq r) (Some x.1) (lookup (is_at (R a)) es)) (o.congr a b x.0 e)
      ∙ ap (λ l. cond (is_eq (R b x.0)) (Some x.1) l) (lookup-alike a b es e)
