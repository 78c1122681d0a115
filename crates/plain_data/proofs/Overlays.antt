-- One pass over two lists of pairs whose keys rise makes the overlay of their maps.
use Rattle.std.proofs.Common.{◌≡◌, ℕ, zero, suc, nat_eq, length, Bool, true, false, not, cond, T, Option, Some, None, List, [], ◌∷◌, ◌++◌}
use Rattle.std.proofs.Common.{fold, refl, sym, ap, ◌∙◌, subst, append_assoc, rules}
use Rattle.std.specs.List.{AllByRecursion, list_all}
use Rattle.std.specs.Option.{unwrap_or}
use Rattle.std.specs.Cmp.{alike_right, eq_by_cmp_equiv, tied_itself}
use Rattle.std.specs.Ordering.{is_lt, is_eq, eq_by_cmp, ordering_reverse}
use Rattle.std.specs.declared.cmp.Ordering.{Ordering}
use Rattle.std.specs.declared.cmp.Ordering.TheVariants.{Less, Equal, Greater}
use Rattle.std.specs.FinMap as map
use Rattle.std.specs.FinMap.Entries.{find, put, where_key, is_sorted, below_all, by_order, is_sorted-put, is_sorted-where_key, find-where_key}
use Rattle.std.specs.FinMap.Entries.{same_entries}
use Rattle.std.specs.Cmp.Lexicographic.{nat_list_cmp_total}
use Rattle.plain_data.specs.Texts.{Bytes, MapOf, text_cmp}
use Rattle.plain_data.specs.Overlays.{with_at, marked_by, overlaid, found_after}
use Rattle.plain_data.specs.code.Merging.{before, after, pair_at, merged}
use Rattle.plain_data.proofs.TextMaps.{both, halves, less, same, empty-from_sorted}
use Rattle.plain_data.proofs.Merging.{before_below, after_below, before_at, after_at, before_above, after_above}

-- a greater key is above what a lesser one is above
greater-through : (key next x : Bytes) → text_cmp key next ≡ Less → text_cmp key x ≡ Greater → text_cmp next x ≡ Greater
greater-through key next x first second =
    let up : text_cmp x key ≡ Less = nat_list_cmp_total.antisymm x key ∙ ap ordering_reverse second in
    nat_list_cmp_total.antisymm next x ∙ ap ordering_reverse (nat_list_cmp_total.trans x key next up first)

module _ {V : Type 0} where
  -- the pairs with a value at a key, or with nothing there
  abbrev pub entry_at : List (Bytes × V) → Bytes → Option V → List (Bytes × V)
  entry_at es key None = where_key text_cmp (λ k. not (eq_by_cmp text_cmp key k)) es
  entry_at es key (Some value) = put text_cmp key value es

  -- keys stay in order where one is taken out, and where a value is put
  sorted-entry_at : (es : List (Bytes × V)) (key : Bytes) (o : Option V) → T (is_sorted text_cmp es)
      → T (is_sorted text_cmp (entry_at es key o))
  sorted-entry_at es key None h = is_sorted-where_key text_cmp _ es h
  sorted-entry_at es key (Some v) h = is_sorted-put text_cmp nat_list_cmp_total key v es h

  -- to answer nothing where a test holds is to answer only where its opposite holds
  turned : (a b : Bool) (o : Option V) → a ≡ b → cond a None o ≡ cond (not b) o None
  turned true true o e = refl
  turned true false o e = absurd (cc)
  turned false true o e = absurd (cc)
  turned false false o e = refl

  -- without a key, nothing is found at it
  found : (es : List (Bytes × V)) (key q : Bytes)
      → cond (eq_by_cmp text_cmp q key) None (find text_cmp q es) ≡ find text_cmp q (entry_at es key None)
  found es key q =
      turned (eq_by_cmp text_cmp q key) (eq_by_cmp text_cmp key q) (find text_cmp q es) ((eq_by_cmp_equiv nat_list_cmp_total).symm q key)
      ∙ sym (find-where_key text_cmp (λ k. not (eq_by_cmp text_cmp key k)) q
      (λ x t. ap (λ r. not (is_eq r)) (sym (alike_right nat_list_cmp_total q x key t))) es)

  -- a key below all others is none of them
  none_is : (key : Bytes) (es : List (Bytes × V)) → T (below_all text_cmp key es)
      → where_key text_cmp (λ k. not (eq_by_cmp text_cmp key k)) es ≡ es
  none_is key [] h = refl
  none_is key (e ∷ es) h =
      ap (λ r. cond (not (is_eq r)) (e ∷ where_key text_cmp (λ k. not (eq_by_cmp text_cmp key k)) es)
      (where_key text_cmp (λ k. not (eq_by_cmp text_cmp key k)) es)) (less _ (halves _ _ h).0)
      ∙ ap (λ xs. e ∷ xs) (none_is key es (halves _ _ h).1)

  -- what is below a key is below all that this key is below, since the order is transitive
  below-through : (x y : Bytes) (es : List (Bytes × V)) → text_cmp x y ≡ Less → T (below_all text_cmp y es) → T (below_all text_cmp x es)
  below-through x y [] first h = tt
  below-through x y (e ∷ es) first h =
      both _ _ (subst (λ r. T (is_lt r)) (sym (nat_list_cmp_total.trans x y e.0 first (less _ (halves _ _ h).0))) tt)
      (below-through x y es first (halves _ _ h).1)

  -- the three parts that a key cuts a list into
  parts : Bytes → Option V → List (Bytes × V) → List (Bytes × V)
  parts key o es = before key es ++ pair_at key o ++ after key es

  -- by where the first pair stands: above the key all pairs are behind it, an equal one is replaced, and one below is passed
  entry_at-parts : (es : List (Bytes × V)) (key : Bytes) (o : Option V) → T (is_sorted text_cmp es)
      → entry_at es key o ≡ before key es ++ pair_at key o ++ after key es
  unfolding before after pair_at
  entry_at-parts [] key None h = refl
  entry_at-parts [] key (Some v) h = refl
  entry_at-parts (e ∷ es) key o h = by (halves _ _ h).0 (λ p. entry_at-parts es key p (halves _ _ h).1) (text_cmp key e.0) refl o
    where
      by : T (below_all text_cmp e.0 es) → ((p : Option V) → entry_at es key p ≡ before key es ++ pair_at key p ++ after key es)
          → (r : Ordering) → text_cmp key e.0 ≡ r → (p : Option V) → entry_at (e ∷ es) key p
          ≡ before key (e ∷ es) ++ pair_at key p ++ after key (e ∷ es)
      by above rest Less is None =
          none_is key (e ∷ es) (both _ _ (subst (λ r. T (is_lt r)) (sym is) tt) (below-through key e.0 es is above))
          ∙ sym (λ i. before_below key e es is i ++ [] ++ after_below key e es is i)
      by above rest Less is (Some v) =
          ap (λ r. by_order r ((key, v) ∷ e ∷ es) ((e.0, v) ∷ es) (e ∷ put text_cmp key v es)) is
          ∙ sym (λ i. before_below key e es is i ++ (key, v) ∷ [] ++ after_below key e es is i)
      by above rest Equal is None =
          ap (λ r. cond (not (is_eq r)) (e ∷ entry_at es key None) (entry_at es key None)) is
          ∙ none_is key es (subst (λ k. T (below_all text_cmp k es)) (sym (same key e.0 is)) above)
          ∙ sym (λ i. before_at key e es is i ++ [] ++ after_at key e es is i)
      by above rest Equal is (Some v) =
          ap (λ r. by_order r ((key, v) ∷ e ∷ es) ((e.0, v) ∷ es) (e ∷ put text_cmp key v es)) is
          ∙ ap (λ k. (k, v) ∷ es) (sym (same key e.0 is))
          ∙ sym (λ i. before_at key e es is i ++ (key, v) ∷ [] ++ after_at key e es is i)
      by above rest Greater is None =
          ap (λ r. cond (not (is_eq r)) (e ∷ entry_at es key None) (entry_at es key None)) is
          ∙ ap (λ xs. e ∷ xs) (rest None)
          ∙ sym (λ i. before_above key e es is i ++ [] ++ after_above key e es is i)
      by above rest Greater is (Some v) =
          ap (λ r. by_order r ((key, v) ∷ e ∷ es) ((e.0, v) ∷ es) (e ∷ put text_cmp key v es)) is
          ∙ ap (λ xs. e ∷ xs) (rest (Some v))
          ∙ sym (λ i. before_above key e es is i ++ (key, v) ∷ [] ++ after_above key e es is i)

  -- all keys of a prefix are below a key
  abbrev AllBelow : Bytes → List (Bytes × V) → Type 0
  AllBelow key prefix = AllByRecursion (λ e. text_cmp key e.0 ≡ Greater) prefix

  -- the pairs below a key, and the one at it, are below every greater key
  AllBelow-before : (key next : Bytes) (o : Option V) (es : List (Bytes × V)) → text_cmp key next ≡ Less
      → AllBelow next (before key es ++ pair_at key o)
  unfolding before pair_at
  AllBelow-before key next None [] up = tt
  AllBelow-before key next (Some v) [] up = (nat_list_cmp_total.antisymm next key ∙ ap ordering_reverse up, tt)
  AllBelow-before key next o (e ∷ es) up = by (AllBelow-before key next o es up) (text_cmp key e.0) refl
    where
      alone : (o : Option V) → AllBelow next ([] ++ pair_at key o)
      alone None = tt
      alone (Some v) = (nat_list_cmp_total.antisymm next key ∙ ap ordering_reverse up, tt)

      by : AllBelow next (before key es ++ pair_at key o) → (r : Ordering) → text_cmp key e.0 ≡ r
          → AllBelow next (before key (e ∷ es) ++ pair_at key o)
      by rest Less is = subst (λ xs. AllBelow next (xs ++ pair_at key o)) (sym (before_below key e es is)) (alone o)
      by rest Equal is = subst (λ xs. AllBelow next (xs ++ pair_at key o)) (sym (before_at key e es is)) (alone o)
      by rest Greater is =
          subst (λ xs. AllBelow next (xs ++ pair_at key o)) (sym (before_above key e es is)) (greater-through key next e.0 up is, rest)

  -- a prefix below the key is passed pair by pair
  before-prefix : (key : Bytes) (prefix es : List (Bytes × V)) → AllBelow key prefix → before key (prefix ++ es) ≡ prefix ++ before key es
  before-prefix key [] es all = refl
  before-prefix key (e ∷ prefix) es all = before_above key e (prefix ++ es) all.0 ∙ ap (λ xs. e ∷ xs) (before-prefix key prefix es all.1)

  -- nothing in such a prefix is above the key, so only the rest counts
  after-prefix : (key : Bytes) (prefix es : List (Bytes × V)) → AllBelow key prefix → after key (prefix ++ es) ≡ after key es
  after-prefix key [] es all = refl
  after-prefix key (e ∷ prefix) es all = after_above key e (prefix ++ es) all.0 ∙ after-prefix key prefix es all.1

  module _ {M : Type 0} (left : M → Option V) where
    -- a prefix whose keys are below the first that is marked stays as it is
    abbrev IsPassed : List (Bytes × V) → List (Bytes × M) → Type 0
    IsPassed prefix [] = Unit {0}
    IsPassed prefix (mark ∷ marks) = AllBelow mark.0 prefix

    -- the first mark passes such a prefix whole, and the later marks meet only what is above the first
    merged-prefix : (prefix es : List (Bytes × V)) (marks : List (Bytes × M)) → IsPassed prefix marks
        → merged left (prefix ++ es) marks ≡ prefix ++ merged left es marks
    unfolding merged
    merged-prefix prefix es [] passed = refl
    merged-prefix prefix es (mark ∷ marks) passed =
        (λ i. (before-prefix mark.0 prefix es passed i ++ pair_at mark.0 (left mark.1)) ++ merged left (after-prefix mark.0 prefix es passed i) marks)
        ∙ ap (λ xs. xs ++ merged left (after mark.0 es) marks) (append_assoc prefix (before mark.0 es) (pair_at mark.0 (left mark.1)))
        ∙ append_assoc prefix (before mark.0 es ++ pair_at mark.0 (left mark.1)) (merged left (after mark.0 es) marks)

    -- what has been merged up to a mark is below the next one, since the marks rise
    passed_next : (es : List (Bytes × V)) (mark : Bytes × M) (marks : List (Bytes × M)) → T (below_all text_cmp mark.0 marks)
        → IsPassed (before mark.0 es ++ pair_at mark.0 (left mark.1)) marks
    passed_next es mark [] h = tt
    passed_next es mark (next ∷ marks) h = AllBelow-before mark.0 next.0 (left mark.1) es (less _ (halves _ _ h).0)

    -- the pairs after marks in order
    abbrev marked_entries : List (Bytes × V) → List (Bytes × M) → List (Bytes × V)
    marked_entries es marks = fold (λ xs mark. entry_at xs mark.0 (left mark.1)) es marks

    -- mark by mark: what is merged up to a mark is settled, as the later marks are above it
    merged-is-marked : (es : List (Bytes × V)) (marks : List (Bytes × M)) → T (is_sorted text_cmp es) → T (is_sorted text_cmp marks)
        → merged left es marks ≡ marked_entries es marks
    unfolding merged
    merged-is-marked es [] h rising = refl
    merged-is-marked es (mark ∷ marks) h rising =
        sym (merged-prefix (before mark.0 es ++ pair_at mark.0 (left mark.1)) (after mark.0 es) marks (passed_next es mark marks (halves _ _ rising).0))
        ∙ ap (λ xs. merged left xs marks) (sym (entry_at-parts es mark.0 (left mark.1) h))
        ∙ merged-is-marked (entry_at es mark.0 (left mark.1)) marks (sorted-entry_at es mark.0 (left mark.1) h) (halves _ _ rising).1

    -- a value is put as among the pairs; where nothing is left, both lists rise and the same is found in them at each key
    entries-with_at : (m : MapOf V) (key : Bytes) (o : Option V) → map.entries (with_at m key o) ≡ entry_at (map.entries m) key o
    entries-with_at m key (Some v) = map.entries-insert nat_list_cmp_total m key v
    entries-with_at m key None =
        same_entries text_cmp nat_list_cmp_total same _ _ (map.entries_sorted _) (sorted-entry_at (map.entries m) key None (map.entries_sorted m))
        (λ q. sym (map.get-entries _ q) ∙ map.get-remove nat_list_cmp_total m key q ∙ ap (cond (eq_by_cmp text_cmp q key) None) (map.get-entries m q)
        ∙ found (map.entries m) key q)

    -- mark by mark, the pairs of the map go as the list of pairs goes
    entries-marked_by : (m : MapOf V) (marks : List (Bytes × M))
        → map.entries (marked_by left m marks) ≡ marked_entries (map.entries m) marks
    entries-marked_by m [] = refl
    entries-marked_by m (mark ∷ marks) =
        entries-marked_by (with_at m mark.0 (left mark.1)) marks
        ∙ ap (λ es. marked_entries es marks) (entries-with_at m mark.0 (left mark.1))

    -- one pass over both lists makes the overlay
    pub merged-is-overlaid : (under : MapOf V) (over : MapOf M)
        → merged left (map.entries under) (map.entries over) ≡ map.entries (overlaid left under over)
    merged-is-overlaid under over =
        merged-is-marked (map.entries under) (map.entries over) (map.entries_sorted under) (map.entries_sorted over)
        ∙ sym (entries-marked_by under (map.entries over))

    -- so what was made of their pairs are the pairs of the overlay
    pub pairs-overlaid : (under : MapOf V) (over : MapOf M) (us pairs : List (Bytes × V)) (os : List (Bytes × M)) → us ≡ map.entries under
        → os ≡ map.entries over → pairs ≡ merged left us os → pairs ≡ map.entries (overlaid left under over)
    pairs-overlaid under over us pairs os us-are os-are made = made ∙ (λ i. merged left (us-are i) (os-are i)) ∙ merged-is-overlaid under over

-- a key below all others is not found among them
find-none : {V : Type 0} (key : Bytes) (es : List (Bytes × V)) → T (below_all text_cmp key es) → find text_cmp key es ≡ None
find-none key [] h = refl
find-none key (e ∷ es) h =
    ap (λ r. cond (is_eq r) (Some e.1) (find text_cmp key es)) (less _ (halves _ _ h).0)
    ∙ find-none key es (halves _ _ h).1

-- only Equal passes the test of equality
tied : (r : Ordering) → is_eq r ≡ true → r ≡ Equal
tied Equal e = refl
tied Less e = absurd (cc)
tied Greater e = absurd (cc)

module _ {V M : Type 0} (left : M → Option V) where
  -- at the key stands what was put there, or nothing, and at each other key what was there
  get-with_at : (m : MapOf V) (key : Bytes) (o : Option V) (q : Bytes)
      → map.get (with_at m key o) q ≡ cond (eq_by_cmp text_cmp q key) o (map.get m q)
  get-with_at m key None q = map.get-remove nat_list_cmp_total m key q
  get-with_at m key (Some v) q = map.get-insert nat_list_cmp_total m key v q

  -- mark by mark: the keys of marks rise, so no later mark is at the key of an earlier one
  get-marked_by : (m : MapOf V) (marks : List (Bytes × M)) (q : Bytes) → T (is_sorted text_cmp marks)
      → map.get (marked_by left m marks) q ≡ found_after left (find text_cmp q marks) (map.get m q)
  get-marked_by m [] q rising = refl
  get-marked_by m (mark ∷ marks) q rising =
      get-marked_by (with_at m mark.0 (left mark.1)) marks q (halves _ _ rising).1
      ∙ ap (found_after left (find text_cmp q marks)) (get-with_at m mark.0 (left mark.1) q)
      ∙ by (eq_by_cmp text_cmp q mark.0) refl
    where
      by : (b : Bool) → eq_by_cmp text_cmp q mark.0 ≡ b
          → found_after left (find text_cmp q marks) (cond b (left mark.1) (map.get m q))
          ≡ found_after left (cond b (Some mark.1) (find text_cmp q marks)) (map.get m q)
      by false e = refl
      by true e =
          ap (λ o. found_after left o (left mark.1)) (ap (λ k. find text_cmp k marks) (same q mark.0 (tied _ e)) ∙ find-none mark.0 marks (halves _ _ rising).0)

  -- at a key stands what its mark leaves, or, where it has none, what was there
  pub get-overlaid : (under : MapOf V) (over : MapOf M) (q : Bytes)
      → map.get (overlaid left under over) q ≡ found_after left (map.get over q) (map.get under q)
  get-overlaid under over q =
      get-marked_by under (map.entries over) q (map.entries_sorted over) ∙ ap (λ o. found_after left o (map.get under q)) (sym (map.get-entries over q))

-- maps with the same at each key are equal
pub same_map : {V : Type 0} (m n : MapOf V) → ((q : Bytes) → map.get m q ≡ map.get n q) → m ≡ n
same_map m n is = map.same_map nat_list_cmp_total same m n is

-- ---- small maps

-- no map is as empty as the empty one
pub entries-empty : {V : Type 0} → map.entries (map.empty {X = V} {R = text_cmp}) ≡ []
entries-empty {V} = ap map.entries (sym ((empty-from_sorted {V = V} text_cmp [] tt).0 refl)) ∙ map.entries-from_sorted text_cmp [] tt

-- a value put into the empty map is all that it has
pub entries-one : {V : Type 0} (key : Bytes) (value : V) → map.entries (map.insert {R = text_cmp} map.empty key value) ≡ (key, value) ∷ []
entries-one key value = map.entries-insert nat_list_cmp_total map.empty key value ∙ ap (put text_cmp key value) entries-empty

-- it has one pair, so its length is 1
pub len-one : {V : Type 0} (key : Bytes) (value : V) → map.len (map.insert {R = text_cmp} map.empty key value) ≡ 1
len-one key value = map.len-entries _ ∙ ap length (entries-one key value)

-- no marks change nothing
pub overlaid-none : {V M : Type 0} (left : M → Option V) (m : MapOf V) → overlaid left m map.empty ≡ m
overlaid-none left m = ap (marked_by left m) entries-empty

-- and one mark is done
pub overlaid-one : {V M : Type 0} (left : M → Option V) (m : MapOf V) (key : Bytes) (mark : M)
    → overlaid left m (map.insert map.empty key mark) ≡ with_at m key (left mark)
overlaid-one left m key mark = ap (marked_by left m) (entries-one key mark)

-- ---- what holds of all values of a map

-- equal answers have equal values
pub Some_is : {V : Type 0} (x y : V) → Some x ≡ Some y → x ≡ y
Some_is x y e = ap (λ o. unwrap_or o x) e

module _ {V : Type 0} (p : V → Bool) where
  -- the value that is found is that of the first pair, or of one behind it
  found_all : (es : List (Bytes × V)) (q : Bytes) (value : V) → T (list_all (λ e. p e.1) es) → find text_cmp q es ≡ Some value → T (p value)
  found_all [] q value all is = absurd (cc)
  found_all (e ∷ es) q value all is = by (found_all es q value (halves _ _ all).1) (eq_by_cmp text_cmp q e.0) is
    where
      by : (find text_cmp q es ≡ Some value → T (p value)) → (b : Bool) → cond b (Some e.1) (find text_cmp q es) ≡ Some value → T (p value)
      by rest true f = subst (λ v. T (p v)) (Some_is e.1 value f) (halves _ _ all).0
      by rest false f = rest f

  -- what holds of all values holds of one that is found
  pub get-all : (m : MapOf V) (q : Bytes) (value : V) → T (list_all (λ e. p e.1) (map.entries m)) → map.get m q ≡ Some value → T (p value)
  get-all m q value all is = found_all (map.entries m) q value all (sym (map.get-entries m q) ∙ is)

  -- the first pair is found at its key, and since keys rise each pair behind it is found at its own
  all_found : (es : List (Bytes × V)) → T (is_sorted text_cmp es)
      → ((q : Bytes) (value : V) → find text_cmp q es ≡ Some value → T (p value)) → T (list_all (λ e. p e.1) es)
  all_found [] rising each = tt
  all_found (e ∷ es) rising each =
      both _ _ (each e.0 e.1 (ap (λ r. cond (is_eq r) (Some e.1) (find text_cmp e.0 es)) (tied_itself nat_list_cmp_total e.0)))
      (all_found es (halves _ _ rising).1 (λ q value is. each q value (behind q value is (eq_by_cmp text_cmp q e.0) refl)))
    where
      behind : (q : Bytes) (value : V) → find text_cmp q es ≡ Some value → (b : Bool) → eq_by_cmp text_cmp q e.0 ≡ b
          → cond b (Some e.1) (find text_cmp q es) ≡ Some value
      behind q value is false t = is
      behind q value is true t =
          let none = ap (λ k. find text_cmp k es) (same q e.0 (tied _ t)) ∙ find-none e.0 es (halves _ _ rising).0 in
          absurd (let h : None ≡ Some value = sym none ∙ is in cc)

  -- what holds of each that is found holds of all
  pub all-get : (m : MapOf V) → ((q : Bytes) (value : V) → map.get m q ≡ Some value → T (p value))
      → T (list_all (λ e. p e.1) (map.entries m))
  all-get m each = all_found (map.entries m) (map.entries_sorted m) (λ q value is. each q value (map.get-entries m q ∙ is))

-- what follows another number is not 0
pub nonzero : (n : ℕ) → nat_eq (suc n) 0 ≡ false
nonzero n = search rules

-- a map that has something is not empty
pub some-len : {V : Type 0} (m : MapOf V) (q : Bytes) (value : V) → map.get m q ≡ Some value → T (not (nat_eq (map.len m) 0))
some-len {V} m q value is = by (map.len m) refl
  where
    by : (n : ℕ) → map.len m ≡ n → T (not (nat_eq n 0))
    by zero e = absurd (let h : None ≡ Some value = sym (ap (λ k. map.get k q) (map.empty_of_len m e) ∙ map.get-empty text_cmp q) ∙ is in cc)
    by (suc n) e = subst (λ b. T (not b)) (sym (nonzero n)) tt

-- and one that isn't empty has something
pub len-some : {V : Type 0} (m : MapOf V) → T (not (nat_eq (map.len m) 0)) → (q : Bytes) × (value : V) × (map.get m q ≡ Some value)
len-some {V} m some = by (map.entries m) refl
  where
    by : (es : List (Bytes × V)) → map.entries m ≡ es → (q : Bytes) × (value : V) × (map.get m q ≡ Some value)
    by [] e = absurd (subst (λ n. T (not (nat_eq n 0))) (map.len-entries m ∙ ap length e) some)
    by (x ∷ es) e = (
      x.0,
      x.1,
      map.get-entries m x.0 ∙ ap (find text_cmp x.0) e ∙ ap (λ r. cond (is_eq r) (Some x.1) (find text_cmp x.0 es))
          (tied_itself nat_list_cmp_total x.0),
    )
