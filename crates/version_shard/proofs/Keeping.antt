-- What stands at each address after a call on the map, and after a tail.
use Rattle.std.proofs.Common.{◌≡◌, ℕ, ◌-◌, ◌<◌, ◌≤◌, zero, suc, Bool, true, false, cond, List, [], ◌∷◌, length, take, drop, get_or, Some, None}
use Rattle.std.proofs.Common.{unwrap_or, Result, Ok, Err, OnOk, OnErr, is_err, refl, sym, ap, ◌∙◌, subst, arith}
use Rattle.std.specs.List.{AllByRecursion}
use Rattle.std.specs.List.Sorted.{IsNonDecreasingBy}
use Rattle.std.specs.Map.{lookup}
use Rattle.std.specs.BTreeMap.{is_at}
use Rattle.std.proofs.Math.Seq.{take-length, drop-length}
use Rattle.std.proofs.lemmas.List.Elements.{recursion_from_All}
use Rattle.std.proofs.lemmas.List.Sorted.{IsNonDecreasingBy-from_all_adjacent}
use Rattle.plain_data.proofs.Entries.{equal}
use Rattle.rdt_types.specs.declared.address.Address.{Address}
use Rattle.rdt_types.specs.Addresses.{address_cmp}
use Rattle.rdt_types.specs.Deltas.{kind_changed}
use Rattle.rdt_types.proofs.Addresses.{address_cmp-equal}
use Rattle.change_feed.specs.declared.change.Change.{Change}
use Rattle.change_feed.specs.declared.tail.Tail.{Tail}
use Rattle.change_feed.specs.Feeds.{AreOfTheirKinds}
use Rattle.change_feed.specs.Tails.{IsTail}
use Rattle.journal_core.specs.code.Rising.{Rises}
use Rattle.journal_core.proofs.Each.{each-more, each-take, each-filter}
use Rattle.journal_core.proofs.Rising.{rises-at}
use Rattle.version_shard.specs.declared.version.Version.{Version}
use Rattle.version_shard.specs.Versions.{Versioned, up_to}
use Rattle.version_shard.specs.Shards.{Kept, unchanged, versions_of, SuitsVersion, AreKept}
use Rattle.version_shard.specs.code.Marks.{IsPut}
use Rattle.version_shard.specs.code.Following.{followed_along, cut_along, StopsAt, Reaches}
use Rattle.version_shard.proofs.Numbered.{below-all, below-none, all-below}
use Rattle.version_shard.proofs.Stepping.{along-all, cut_back}

-- what holds on an error holds where the answer is one
pub at_err : {V E : Type 0} (r : Result V E) (P : Type 0) → is_err r ≡ true → OnErr r P → P
at_err (Ok v) P e p = absurd (cc)
at_err (Err x) P e p = p

-- and what holds where all went well where it is none
pub at_ok : {V E : Type 0} (r : Result V E) (P : Type 0) → is_err r ≡ false → OnOk r P → P
at_ok (Ok v) P e p = p
at_ok (Err x) P e p = absurd (cc)

-- and what holds anyway holds there too
pub on_err : {V E : Type 0} (r : Result V E) (P : Type 0) → P → OnErr r P
on_err (Ok v) P p = tt
on_err (Err x) P p = p

-- ---- one address of a map

-- at one address the versions past a number are let go
abbrev pub IsCut : Kept → Kept → Address → ℕ → Type 0
IsCut old new k number = (a : Address) → versions_of new a ≡ cond (is_at (address_cmp k) a) (up_to number (versions_of old a)) (versions_of old a)

module _ (old new : Kept) (k : Address) where
  -- what is put at an address is what was done there
  pub put_one : (f : Versioned → Versioned) (put : Versioned) → IsPut old new k put → put ≡ f (versions_of old k)
      → (a : Address) → versions_of new a ≡ cond (is_at (address_cmp k) a) (f (versions_of old a)) (versions_of old a)
  put_one f put puts is a = ap (λ o. unwrap_or o (unchanged a)) (puts a) ∙ by (is_at (address_cmp k) a) refl
    where
      by : (b : Bool) → is_at (address_cmp k) a ≡ b
          → unwrap_or (cond b (Some put) (lookup (is_at (address_cmp a)) old)) (unchanged a) ≡ cond b (f (versions_of old a)) (versions_of old a)
      by true e = is ∙ ap (λ q. f (versions_of old q)) (address_cmp-equal k a (equal _ e))
      by false e = refl

-- where nothing is kept nothing is cut
pub cut_nowhere : (old : Kept) (k : Address) (r : ℕ) → None ≡ lookup (is_at (address_cmp k)) old
    → IsCut old old k r
cut_nowhere old k r none a = by (is_at (address_cmp k) a) refl
  where
    by : (b : Bool) → is_at (address_cmp k) a ≡ b → versions_of old a ≡ cond b (up_to r (versions_of old a)) (versions_of old a)
    by true e =
        let nothing : versions_of old a ≡ unchanged a =
        ap (λ o. unwrap_or o (unchanged a)) (ap (λ (q : Address). lookup (is_at (address_cmp q)) old) (sym (address_cmp-equal k a (equal _ e))) ∙ sym none) in
        nothing ∙ sym (ap (up_to r) nothing)
    by false e = refl

-- ---- changes in order

-- all changes of a rising list are at or past the number that it rises from
rising-all : (m : ℕ) (xs : List Change) → Rises m xs → AllByRecursion (λ c. m ≤ c.number) xs
rising-all m [] rising = tt
rising-all m (x ∷ xs) rising = (rising.0, each-more _ _ xs (λ c le. let r = rising.0 in omega (arith, le, r)) (rising-all x.number xs rising.1))

-- what stands before a place in a rising list isn't past what stands there
before_it : (m : ℕ) (xs : List Change) (i : ℕ) (d : Change) → Rises m xs → i < length xs
    → AllByRecursion (λ c. c.number ≤ (get_or xs i d).number) (take i xs)
before_it m [] i d rising within = absurd (omega (arith, within))
before_it m (x ∷ xs) zero d rising within = tt
before_it m (x ∷ xs) (suc i) d rising within =
    (rises-at x.number xs i d rising.1 (omega (arith, within)), before_it x.number xs i d rising.1 (omega (arith, within)))

-- and what stands from it on isn't below it
behind_it : (m : ℕ) (xs : List Change) (i : ℕ) (d : Change) → Rises m xs → i < length xs
    → AllByRecursion (λ c. (get_or xs i d).number ≤ c.number) (drop i xs)
behind_it m [] i d rising within = absurd (omega (arith, within))
behind_it m (x ∷ xs) zero d rising within = (omega arith, rising-all x.number xs rising.1)
behind_it m (x ∷ xs) (suc i) d rising within = behind_it x.number xs i d rising.1 (omega (arith, within))

-- changes that are neither below a number nor out of order rise from it
rising-from : (m : ℕ) (xs : List Change) → ((k : ℕ) (d : Change) → k < length xs → m ≤ (get_or xs k d).number)
    → IsNonDecreasingBy (λ c. c.number) xs → Rises m xs
rising-from m [] low order = tt
rising-from m (x ∷ xs) low order = (
  low 0 x (omega arith),
  rising-from x.number xs (λ k d within. order 0 (suc k) d (omega arith) (omega (arith, within)))
      (λ i j d le within. order (suc i) (suc j) d (omega (arith, le)) (omega (arith, within))),
)

-- the changes of a tail are in order, and within it
pub tail-rising : (from to : ℕ) (changes : List Change) → IsTail from to changes → Rises from changes
tail-rising from to changes tail =
    rising-from from changes (λ k d within. let l = (tail.within k d within).0 in omega (arith, l))
    (IsNonDecreasingBy-from_all_adjacent (λ c. c.number) changes tail.in_order)

-- each change of a tail is up to where the tail goes
pub tail-within : (from to : ℕ) (changes : List Change) → IsTail from to changes → AllByRecursion (λ c. c.number ≤ to) changes
tail-within from to changes tail = recursion_from_All (λ (c : Change). c.number ≤ to) changes (λ k d within. (tail.within k d within).1)

-- ---- a tail

-- kept versions are up to any number from the front on
pub up_to-kept : (front n : ℕ) (kept : Kept) (a : Address) → AreKept front kept → front ≤ n
    → AllByRecursion (λ version. version.number ≤ n) (versions_of kept a).later
up_to-kept front n kept a are within = each-more _ _ (versions_of kept a).later (λ version suits. let r = suits.reached in omega (arith, r, within)) (are a)

module _ (window : ℕ) (tail : Tail) (old : Kept) (kept : AreKept tail.from old) where
  -- the versions that follow some changes are up to what is not below these
  pub up_to-followed : (n : ℕ) (changes : List Change) (a : Address) → tail.from ≤ n → AllByRecursion (λ c. c.number ≤ n) changes
      → AllByRecursion (λ version. version.number ≤ n) (followed_along window a changes (versions_of old a)).later
  up_to-followed n changes a within all =
      along-all (λ version. version.number ≤ n) (λ c. c.number ≤ n) a window (λ c at le. le) changes (versions_of old a) all
      (up_to-kept tail.from n old a kept within)

  -- the next change isn't below what was followed
  pub up_to-next : (now : Kept) (i : ℕ) (next : Change) (a : Address) → next ≡ get_or tail.changes i next → i < length tail.changes
      → versions_of now a ≡ followed_along window a (take i tail.changes) (versions_of old a)
      → AllByRecursion (λ version. version.number ≤ next.number) (versions_of now a).later
  up_to-next now i next a is within same =
      let number : (get_or tail.changes i next).number ≡ next.number = ap (λ (c : Change). c.number) (sym is) in
      let low = (tail.in_order.within i next within).0 in
      subst (λ (v : Versioned). AllByRecursion (λ version. version.number ≤ next.number) v.later) (sym same)
      (up_to-followed next.number (take i tail.changes) a (omega (arith, low, number))
      (each-more _ _ (take i tail.changes) (λ c le. omega (arith, le, number))
      (before_it tail.from tail.changes i next (tail-rising tail.from tail.to tail.changes tail.in_order) within)))

  -- where there is no memory for the next change
  pub stops : (now : Kept) (i : ℕ) (next : Change) → next ≡ get_or tail.changes i next → i < length tail.changes
      → ((a : Address) → versions_of now a ≡ followed_along window a (take i tail.changes) (versions_of old a)) → StopsAt window tail next.number old now
  stops now i next is within same =
      let rising = tail-rising tail.from tail.to tail.changes tail.in_order in
      let number : (get_or tail.changes i next).number ≡ next.number = ap (λ (c : Change). c.number) (sym is) in
      let bounds = tail.in_order.within i next within in
      let low = bounds.0 in
      let high = bounds.1 in
      record {
        count = i;
        past = omega (arith, low, number);
        within = omega (arith, high, number);
        before = each-more _ _ (take i tail.changes) (λ c le. omega (arith, le, number)) (before_it tail.from tail.changes i next rising within);
        behind = each-more _ _ (drop i tail.changes) (λ c le. omega (arith, le, number)) (behind_it tail.from tail.changes i next rising within);
        versions = same;
      }

  -- a whole tail that was followed reaches to its end
  pub reaches-whole : (new : Kept) → ((a : Address) → versions_of new a ≡ followed_along window a tail.changes (versions_of old a))
      → Reaches window tail.changes tail.to old new
  reaches-whole new is = record {
    count = length tail.changes;
    near = rw (take-length tail.changes) (each-more _ _ tail.changes (λ c le. omega (arith, le)) all);
    rest = rw (drop-length tail.changes) refl;
    versions = λ a.
        is a
        ∙ ap (λ l. record (followed_along window a tail.changes (versions_of old a)) { later = l })
        (sym (below-all (λ (version : Version). version.number) tail.to (followed_along window a tail.changes (versions_of old a)).later
        (up_to-followed tail.to tail.changes a tail.in_order.rises all)))
        ∙ ap (λ changes. up_to tail.to (followed_along window a changes (versions_of old a))) (sym (take-length tail.changes));
  }
    where
      all : AllByRecursion (λ c. c.number ≤ tail.to) tail.changes
      all = tail-within tail.from tail.to tail.changes tail.in_order

  -- a part of it that was followed and cut reaches to before the commit at which it stopped
  pub reaches-part : (number : ℕ) (mid new : Kept) → StopsAt window tail number old mid
      → ((a : Address) → versions_of new a ≡ cut_along (number - 1) a tail.changes (versions_of mid a)) → Reaches window tail.changes (number - 1) old new
  reaches-part number mid new at is = record {
    count = at.count;
    near = each-more _ _ (take at.count tail.changes) (λ c le. let p = at.past in omega (arith, le, p)) at.before;
    rest = below-none (λ (c : Change). c.number) (number - 1) (drop at.count tail.changes)
        (each-more _ _ (drop at.count tail.changes) (λ c le. let p = at.past in omega (arith, le, p)) at.behind);
    versions = λ a.
        is a
        ∙ ap (cut_along (number - 1) a tail.changes) (at.versions a)
        ∙ cut_back (number - 1) window a tail.changes at.count (versions_of old a)
        (ap (λ l. record (versions_of old a) { later = l })
        (below-all (λ (version : Version). version.number) (number - 1) (versions_of old a).later
        (up_to-kept tail.from (number - 1) old a kept (let p = at.past in omega (arith, p)))));
  }

-- what was reached suits its front
suits : (front : ℕ) (a : Address) (later : List Version) → AllByRecursion (λ version. version.number ≤ front) later
    → AllByRecursion (λ version. kind_changed version.delta ≡ a.kind) later → AllByRecursion (SuitsVersion front a) later
suits front a [] low kinds = tt
suits front a (x ∷ later) low kinds = (record { reached = low.0; of_kind = kinds.0 }, suits front a later low.1 kinds.1)

-- versions that were followed are of the kinds of their changes, and the cut leaves none past the front
pub kept-after : (window from front : ℕ) (changes : List Change) (old new : Kept) → AreKept from old → AreOfTheirKinds changes
    → Reaches window changes front old new → AreKept front new
kept-after window from front changes old new kept kinds reaches a =
    subst (λ (v : Versioned). AllByRecursion (SuitsVersion front a) v.later) (sym (reaches.versions a))
    (suits front a (up_to front mid).later (all-below (λ (version : Version). version.number) front mid.later)
    (each-filter (λ version. kind_changed version.delta ≡ a.kind) _ mid.later
    (along-all (λ version. kind_changed version.delta ≡ a.kind) (λ c. kind_changed c.delta ≡ c.address.kind) a window
    (λ c at is. is ∙ ap (λ (b : Address). b.kind) at) (take reaches.count changes) (versions_of old a)
    (each-take _ reaches.count changes kinds)
    (each-more _ _ (versions_of old a).later (λ version s. s.of_kind) (kept a)))))
  where
    mid : Versioned
    mid = followed_along window a (take reaches.count changes) (versions_of old a)
