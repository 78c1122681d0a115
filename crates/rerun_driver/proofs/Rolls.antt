-- Watches by their numbers, which rise, and by their names.
use Rattle.std.proofs.Common.{◌≡◌, ℕ, zero, suc, ◌+◌, ◌<◌, ◌≤◌, Bool, true, false, not, cond, nat_eq, nat_lt, List, [], ◌∷◌, ◌++◌, length, slice_get, position}
use Rattle.std.proofs.Common.{Option, Some, None, option_map, option_and_then, Vec, Global, refl, sym, ap, subst, ◌∙◌, arith}
use Rattle.std.proofs.lemmas.Bool.{eq-eqb, ne_eqb, eqb-true, lt-ltb, le-ltb, cases_lt}
use Rattle.std.proofs.Common.{one-add, ⊎_elim}
use Rattle.std.specs.List.{AllByRecursion, position_or_len}
use Rattle.std.specs.Map.{keys_of, values_of, set_value, remove_entry}
use Rattle.std.specs.Option.{option_map_or}
use Rattle.std.specs.Str.{bytes_eq}
use Rattle.indexmap.specs.IndexMap.{set_value_at}
use Rattle.plain_data.specs.Texts.{Bytes}
use Rattle.rdt_types.specs.DeltaMaps.{Deltas}
use Rattle.txn_lang.specs.declared.run.Seen.{Seen}
use Rattle.rerun_driver.specs.declared.watch.Watch.{Watch}
use Rattle.rerun_driver.specs.Watches.{Watches, told, all_told, watch_of, without_watch}
use Rattle.rerun_driver.specs.code.Numbers.{IsRising, place_in, with_number, without_number}
use Rattle.rerun_driver.specs.code.Rolls.{stale_numbers, number_in, seen_in, told_if, told_place, told_numbered}
use Rattle.rerun_driver.specs.code.Shown.{shown}
use Rattle.rerun_driver.proofs.Shown.{Kept, is_named}

-- ---- lists of numbers that are above one

-- a first number in front of all
with-first : (n : ℕ) (xs : List ℕ) → AllByRecursion (λ k. n < k) xs → with_number xs n ≡ n ∷ xs
with-first n [] all = refl
with-first n (x ∷ xs) all =
    λ j. cond (ne_eqb x n (λ same. let h = all.0 in omega (arith, h, same)) j) (x ∷ xs)
    (cond (not-below x n all.0 j) (x ∷ with_number xs n) (n ∷ x ∷ xs))
  where
    not-below : (x n : ℕ) → n < x → nat_lt x n ≡ false
    not-below x n h = le-ltb x n (omega (arith, h))

-- it goes behind what is below it
with-behind : (m n : ℕ) (xs : List ℕ) → m < n → with_number (m ∷ xs) n ≡ m ∷ with_number xs n
with-behind m n xs h =
    λ j. cond (ne_eqb m n (λ same. omega (arith, h, same)) j) (m ∷ xs) (cond (lt-ltb m n h j) (m ∷ with_number xs n) (n ∷ m ∷ xs))

-- nothing is taken from among numbers that are all above
without-above : (n : ℕ) (xs : List ℕ) → AllByRecursion (λ k. n < k) xs → without_number xs n ≡ xs
without-above n [] all = refl
without-above n (x ∷ xs) all =
    ap (λ b. cond b xs (x ∷ without_number xs n)) (ne_eqb x n (λ same. let h = all.0 in omega (arith, h, same)))
    ∙ ap (λ rest. x ∷ rest) (without-above n xs all.1)

-- a number among some that are all above one is above it
above-at : (m : ℕ) (xs : List ℕ) (p n : ℕ) → AllByRecursion (λ k. m < k) xs → slice_get xs p ≡ Some n → m < n
above-at m [] p n all e = absurd (cc)
above-at m (x ∷ xs) zero n all e = let same : x ≡ n = cc in let h = all.0 in omega (arith, h, same)
above-at m (x ∷ xs) (suc p) n all e = above-at m xs p n all.1 e

-- ---- places

-- a number is below another where the one after it is below the one after that
below-next : (p l : ℕ) → nat_lt (suc p) (suc l) ≡ nat_lt p l
below-next p l =
    ⊎_elim (λ h. lt-ltb (suc p) (suc l) (omega (arith, h)) ∙ sym (lt-ltb p l h)) (λ h. le-ltb (suc p) (suc l) (omega (arith, h)) ∙ sym (le-ltb p l h))
    (cases_lt p l)

-- the place of the first that passes, by whether the first does
position-cons : {X : Type 0} (test : X → Bool) (x : X) (xs : List X)
    → position test (x ∷ xs) ≡ cond (test x) (Some 0) (option_map suc (position test xs))
position-cons test x xs = by (test x)
  where
    behind : (p : ℕ) (b : Bool) → cond b (Some (suc p)) None ≡ option_map suc (cond b (Some p) None)
    behind p true = refl
    behind p false = refl

    by : (b : Bool)
        → cond (nat_lt (cond (not b) (1 + position_or_len test xs) 0) (suc (length xs))) (Some (cond (not b) (1 + position_or_len test xs) 0)) None
        ≡ cond b (Some 0) (option_map suc (position test xs))
    by true = ap (λ c. cond c (Some 0) None) (lt-ltb 0 (suc (length xs)) (omega arith))
    by false =
        let p = position_or_len test xs in
        (λ j. cond (nat_lt (one-add p j) (suc (length xs))) (Some (one-add p j)) None)
        ∙ ap (λ c. cond c (Some (suc p)) None) (below-next p (length xs))
        ∙ behind p (nat_lt p (length xs))

-- what a place behind the first is of
pub and-then-suc : {X : Type 0} (x : X) (xs : List X) (o : Option ℕ) → option_and_then (slice_get (x ∷ xs)) (option_map suc o) ≡ option_and_then (slice_get xs) o
and-then-suc x xs None = refl
and-then-suc x xs (Some p) = refl

-- the number at the place of a name is that of the name
pub number-at : (name : Bytes) (order : List ℕ) (kept : Kept) → length order ≡ length kept
    → option_and_then (slice_get order) (position (is_named name) (keys_of kept)) ≡ number_in order (shown kept) name
number-at name [] [] same = refl
number-at name [] (e ∷ kept) same = absurd (omega (arith, same))
number-at name (n ∷ ns) [] same = absurd (omega (arith, same))
number-at name (n ∷ ns) (e ∷ kept) same =
    ap (option_and_then (slice_get (n ∷ ns))) (position-cons (is_named name) e.0 (keys_of kept))
    ∙ by (is_named name e.0) (number-at name ns kept (omega (arith, same)))
  where
    by : (b : Bool) → option_and_then (slice_get ns) (position (is_named name) (keys_of kept)) ≡ number_in ns (shown kept) name
        → option_and_then (slice_get (n ∷ ns)) (cond b (Some 0) (option_map suc (position (is_named name) (keys_of kept))))
        ≡ cond b (Some n) (number_in ns (shown kept) name)
    by true rest = refl
    by false rest = and-then-suc n ns (position (is_named name) (keys_of kept)) ∙ rest

-- ---- what was observed, by numbers

-- nothing is known of a number below all
pub seen-below : (n : ℕ) (order : List ℕ) (ws : Watches) → AllByRecursion (λ k. n < k) order → seen_in order ws n ≡ []
seen-below n [] ws all = refl
seen-below n (m ∷ ms) [] all = refl
seen-below n (m ∷ ms) (e ∷ ws) all =
    ap (λ b. cond b e.1.observations (seen_in ms ws n)) (ne_eqb m n (λ same. let h = all.0 in omega (arith, h, same))) ∙ seen-below n ms ws all.1

-- nor of one above all
pub seen-above : (n : ℕ) (order : List ℕ) (ws : Watches) → AllByRecursion (λ k. k < n) order → seen_in order ws n ≡ []
seen-above n [] ws all = refl
seen-above n (m ∷ ms) [] all = refl
seen-above n (m ∷ ms) (e ∷ ws) all =
    ap (λ b. cond b e.1.observations (seen_in ms ws n)) (ne_eqb m n (λ same. let h = all.0 in omega (arith, h, same))) ∙ seen-above n ms ws all.1

-- what the watch at a place observed
abbrev seen_at : Kept → Option ℕ → List Seen
seen_at kept place = option_map_or (λ entry. entry.1.observations) (option_and_then (slice_get kept) place) []

-- at no entry nothing was observed
seen_at-none : (place : Option ℕ) → seen_at [] place ≡ []
seen_at-none None = refl
seen_at-none (Some p) = refl

-- at the place of the number it is what that of the number did
seen-place : (order : List ℕ) (kept : Kept) (n : ℕ) → seen_at kept (place_in order n) ≡ seen_in order (shown kept) n
seen-place [] kept n = refl
seen-place (m ∷ ms) [] n = seen_at-none (place_in (m ∷ ms) n)
seen-place (m ∷ ms) (entry ∷ kept) n = by (nat_eq m n) (seen-place ms kept n)
  where
    by : (b : Bool) → seen_at kept (place_in ms n) ≡ seen_in ms (shown kept) n
        → seen_at (entry ∷ kept) (cond b (Some 0) (option_map suc (place_in ms n))) ≡ cond b entry.1.observations (seen_in ms (shown kept) n)
    by true rest = refl
    by false rest = ap (λ f. option_map_or (λ e. e.1.observations) f []) (and-then-suc entry kept (place_in ms n)) ∙ rest

-- the same, where the place is known
pub seen-found : (order : List ℕ) (kept : Kept) (n : ℕ) (o : Option ℕ) → place_in order n ≡ o
    → option_map_or (λ entry. entry.1.observations) (option_and_then (slice_get kept) o) [] ≡ seen_in order (shown kept) n
seen-found order kept n o e = ap (seen_at kept) (sym e) ∙ seen-place order kept n

-- the number of a name is above what all are
above-named : (m : ℕ) (order : List ℕ) (ws : Watches) (name : Bytes) (n : ℕ) → AllByRecursion (λ k. m < k) order → number_in order ws name ≡ Some n → m < n
above-named m [] ws name n all e = absurd (cc)
above-named m (k ∷ ks) [] name n all e = absurd (cc)
above-named m (k ∷ ks) (w ∷ ws) name n all e = by (bytes_eq name w.0) e (above-named m ks ws name n all.1)
  where
    by : (b : Bool) → cond b (Some k) (number_in ks ws name) ≡ Some n → (number_in ks ws name ≡ Some n → m < n) → m < n
    by true e rest = let same : k ≡ n = cc in let h = all.0 in omega (arith, h, same)
    by false e rest = rest e

-- where two numbers differ, only one of them is met
only-one : {X : Type 0} (a b : Bool) (x y z : X) → (a ≡ true → b ≡ true → ⊥) → cond a x (cond b y z) ≡ cond b y (cond a x z)
only-one true true x y z apart = absurd (apart refl refl)
only-one true false x y z apart = refl
only-one false b x y z apart = refl

-- different numbers do not both equal a third
apart : (m k n : ℕ) → m < k → nat_eq m n ≡ true → nat_eq k n ≡ true → ⊥
apart m k n h e f = let a = eqb-true m n e in let b = eqb-true k n f in omega (arith, h, a, b)

-- a watch in the place of a named one
pub seen-set : (name : Bytes) (v : Watch) (made n : ℕ) (order : List ℕ) (ws : Watches) → IsRising order → number_in order ws name ≡ Some made
    → seen_in order (set_value (bytes_eq name) ws v) n ≡ cond (nat_eq made n) v.observations (seen_in order ws n)
seen-set name v made n [] ws r e = absurd (cc)
seen-set name v made n (m ∷ ms) [] r e = absurd (cc)
seen-set name v made n (m ∷ ms) (w ∷ ws) r e = by (bytes_eq name w.0) e (seen-set name v made n ms ws r.1)
  where
    over : (b : Bool) (x y z : List Seen) → cond b x z ≡ cond b x (cond b y z)
    over true x y z = refl
    over false x y z = refl

    by : (b : Bool) → cond b (Some m) (number_in ms ws name) ≡ Some made
        → (number_in ms ws name ≡ Some made
        → seen_in ms (set_value (bytes_eq name) ws v) n ≡ cond (nat_eq made n) v.observations (seen_in ms ws n))
        → seen_in (m ∷ ms) (cond b ((w.0, v) ∷ ws) (w ∷ set_value (bytes_eq name) ws v)) n
        ≡ cond (nat_eq made n) v.observations (cond (nat_eq m n) w.1.observations (seen_in ms ws n))
    by true e rest =
        let same : m ≡ made = cc in
        over (nat_eq m n) v.observations w.1.observations (seen_in ms ws n)
        ∙ ap (λ k. cond (nat_eq k n) v.observations (cond (nat_eq m n) w.1.observations (seen_in ms ws n))) same
    by false e rest =
        ap (cond (nat_eq m n) w.1.observations) (rest e)
        ∙ only-one (nat_eq m n) (nat_eq made n) w.1.observations v.observations (seen_in ms ws n) (apart m made n (above-named m ms ws name made r.0 e))

-- what the watch of a name observed, that of its number did
pub seen-named : (name : Bytes) (w : Watch) (made : ℕ) (order : List ℕ) (ws : Watches) → IsRising order → number_in order ws name ≡ Some made
    → watch_of ws name ≡ Some w → seen_in order ws made ≡ w.observations
seen-named name w made [] ws r e f = absurd (cc)
seen-named name w made (m ∷ ms) [] r e f = absurd (cc)
seen-named name w made (m ∷ ms) (x ∷ ws) r e f = by (bytes_eq name x.0) e f (seen-named name w made ms ws r.1)
  where
    by : (b : Bool) → cond b (Some m) (number_in ms ws name) ≡ Some made → cond b (Some x.1) (watch_of ws name) ≡ Some w
        → (number_in ms ws name ≡ Some made → watch_of ws name ≡ Some w → seen_in ms ws made ≡ w.observations)
        → cond (nat_eq m made) x.1.observations (seen_in ms ws made) ≡ w.observations
    by true e f rest =
        let same : m ≡ made = cc in let it : x.1 ≡ w = cc in
        ap (λ b. cond b x.1.observations (seen_in ms ws made)) (eq-eqb m made same) ∙ ap (λ (v : Watch). v.observations) it
    by false e f rest =
        let lower = above-named m ms ws name made r.0 e in
        ap (λ b. cond b x.1.observations (seen_in ms ws made)) (ne_eqb m made (λ same. omega (arith, lower, same))) ∙ rest e f

-- a named watch is gone
pub seen-removed : (name : Bytes) (made n : ℕ) (order : List ℕ) (ws : Watches) → IsRising order → number_in order ws name ≡ Some made
    → seen_in (without_number order made) (remove_entry (bytes_eq name) ws) n ≡ cond (nat_eq made n) [] (seen_in order ws n)
seen-removed name made n [] ws r e = absurd (cc)
seen-removed name made n (m ∷ ms) [] r e = absurd (cc)
seen-removed name made n (m ∷ ms) (w ∷ ws) r e = by (bytes_eq name w.0) e (seen-removed name made n ms ws r.1)
  where
    gone : (b : Bool) → nat_eq m n ≡ b → seen_in ms ws n ≡ cond b [] (cond b w.1.observations (seen_in ms ws n))
    gone true f = seen-below n ms ws (subst (λ k. AllByRecursion (λ x. k < x) ms) (eqb-true m n f) r.0)
    gone false f = refl

    by : (b : Bool) → cond b (Some m) (number_in ms ws name) ≡ Some made
        → (number_in ms ws name ≡ Some made
        → seen_in (without_number ms made) (remove_entry (bytes_eq name) ws) n ≡ cond (nat_eq made n) [] (seen_in ms ws n))
        → seen_in (without_number (m ∷ ms) made) (cond b ws (w ∷ remove_entry (bytes_eq name) ws)) n
        ≡ cond (nat_eq made n) [] (cond (nat_eq m n) w.1.observations (seen_in ms ws n))
    by true e rest =
        let same : m ≡ made = cc in
        ap (λ order. seen_in order ws n) (ap (λ b. cond b ms (m ∷ without_number ms made)) (eq-eqb m made same))
        ∙ gone (nat_eq m n) refl
        ∙ ap (λ k. cond (nat_eq k n) [] (cond (nat_eq m n) w.1.observations (seen_in ms ws n))) same
    by false e rest =
        let lower = above-named m ms ws name made r.0 e in
        ap (λ order. seen_in order (w ∷ remove_entry (bytes_eq name) ws) n)
        (ap (λ b. cond b ms (m ∷ without_number ms made)) (ne_eqb m made (λ same. omega (arith, lower, same))))
        ∙ ap (cond (nat_eq m n) w.1.observations) (rest e)
        ∙ only-one (nat_eq m n) (nat_eq made n) w.1.observations [] (seen_in ms ws n) (apart m made n lower)

-- a new watch, of a number above all
pub seen-added : (name : Bytes) (v : Watch) (made n : ℕ) (order : List ℕ) (ws : Watches) → length order ≡ length ws → AllByRecursion (λ k. k < made) order
    → seen_in (order ++ made ∷ []) (ws ++ (name, v) ∷ []) n ≡ cond (nat_eq made n) v.observations (seen_in order ws n)
seen-added name v made n [] [] same all = refl
seen-added name v made n [] (w ∷ ws) same all = absurd (omega (arith, same))
seen-added name v made n (m ∷ ms) [] same all = absurd (omega (arith, same))
seen-added name v made n (m ∷ ms) (w ∷ ws) same all =
    ap (cond (nat_eq m n) w.1.observations) (seen-added name v made n ms ws (omega (arith, same)) all.1)
    ∙ only-one (nat_eq m n) (nat_eq made n) w.1.observations v.observations (seen_in ms ws n) (apart m made n all.0)

-- ---- the stale ones

-- what holds of all numbers holds of the stale ones, which are among them
pub all-stale : (P : ℕ → Type 0) (order : List ℕ) (vs : List Watch) → AllByRecursion P order → AllByRecursion P (stale_numbers order vs)
all-stale P [] vs all = tt
all-stale P (n ∷ ns) [] all = tt
all-stale P (n ∷ ns) (v ∷ vs) all = by v.stale (all-stale P ns vs all.1)
  where
    by : (b : Bool) → AllByRecursion P (stale_numbers ns vs) → AllByRecursion P (cond b (n ∷ stale_numbers ns vs) (stale_numbers ns vs))
    by true rest = (all.0, rest)
    by false rest = rest

-- there are no more than watches
stale-few : (order : List ℕ) (vs : List Watch) → length (stale_numbers order vs) ≤ length vs
stale-few [] vs = omega arith
stale-few (n ∷ ns) [] = omega arith
stale-few (n ∷ ns) (v ∷ vs) = by v.stale (stale-few ns vs)
  where
    by : (b : Bool) → length (stale_numbers ns vs) ≤ length vs → length (cond b (n ∷ stale_numbers ns vs) (stale_numbers ns vs)) ≤ suc (length vs)
    by true h = omega (arith, h)
    by false h = omega (arith, h)

-- and fewer where one isn't stale
pub stale-fewer : (order : List ℕ) (vs : List Watch) (p : ℕ) (v : Watch) → slice_get vs p ≡ Some v → v.stale ≡ false
    → length (stale_numbers order vs) < length vs
stale-fewer [] [] p v e f = absurd (cc)
stale-fewer [] (w ∷ vs) p v e f = omega arith
stale-fewer (n ∷ ns) [] p v e f = absurd (cc)
stale-fewer (n ∷ ns) (w ∷ vs) zero v e f =
    let same : w.stale ≡ false = (let is : w ≡ v = cc in ap (λ x. x.stale) is ∙ f) in
    let few = stale-few ns vs in
    subst (λ b. length (cond b (n ∷ stale_numbers ns vs) (stale_numbers ns vs)) < suc (length vs)) (sym same) (omega (arith, few))
stale-fewer (n ∷ ns) (w ∷ vs) (suc p) v e f = by w.stale (stale-fewer ns vs p v e f)
  where
    by : (b : Bool) → length (stale_numbers ns vs) < length vs → length (cond b (n ∷ stale_numbers ns vs) (stale_numbers ns vs)) < suc (length vs)
    by true h = omega (arith, h)
    by false h = omega (arith, h)

-- the watch at a place becomes stale
pub stale-put : (order : List ℕ) (kept : Kept) (p n : ℕ) (w v : Watch) → IsRising order → slice_get order p ≡ Some n → slice_get (values_of kept) p ≡ Some w
    → w.stale ≡ false → v.stale ≡ true
    → with_number (stale_numbers order (values_of kept)) n ≡ stale_numbers order (values_of (set_value_at kept p v))
stale-put [] kept p n w v r at e fresh turned = absurd (cc)
stale-put (m ∷ ms) [] p n w v r at e fresh turned = absurd (cc)
stale-put (m ∷ ms) (x ∷ kept) zero n w v r at e fresh turned =
    let same : m ≡ n = cc in
    let is : x.1.stale ≡ false = (let k : x.1 ≡ w = cc in ap (λ y. y.stale) k ∙ fresh) in
    let rest = stale_numbers ms (values_of kept) in
    ap (λ b. with_number (cond b (m ∷ rest) rest) n) is
    ∙ ap (with_number rest) (sym same)
    ∙ with-first m rest (all-stale (λ k. m < k) ms (values_of kept) r.0)
    ∙ sym (ap (λ b. cond b (m ∷ rest) rest) turned)
stale-put (m ∷ ms) (x ∷ kept) (suc p) n w v r at e fresh turned = by x.1.stale (stale-put ms kept p n w v r.1 at e fresh turned)
  where
    by : (b : Bool) → with_number (stale_numbers ms (values_of kept)) n ≡ stale_numbers ms (values_of (set_value_at kept p v))
        → with_number (cond b (m ∷ stale_numbers ms (values_of kept)) (stale_numbers ms (values_of kept))) n
        ≡ cond b (m ∷ stale_numbers ms (values_of (set_value_at kept p v))) (stale_numbers ms (values_of (set_value_at kept p v)))
    by true h = with-behind m n (stale_numbers ms (values_of kept)) (above-at m ms p n r.0 at) ∙ ap (λ rest. m ∷ rest) h
    by false h = h

-- or stays as it is
pub stale-same : (order : List ℕ) (kept : Kept) (p : ℕ) (w v : Watch) → slice_get (values_of kept) p ≡ Some w → v.stale ≡ w.stale
    → stale_numbers order (values_of kept) ≡ stale_numbers order (values_of (set_value_at kept p v))
stale-same [] kept p w v e same = refl
stale-same (m ∷ ms) [] p w v e same = refl
stale-same (m ∷ ms) (x ∷ kept) zero w v e same =
    let is : x.1.stale ≡ v.stale = (let k : x.1 ≡ w = cc in ap (λ y. y.stale) k ∙ sym same) in
    ap (λ b. cond b (m ∷ stale_numbers ms (values_of kept)) (stale_numbers ms (values_of kept))) is
stale-same (m ∷ ms) (x ∷ kept) (suc p) w v e same =
    ap (λ rest. cond x.1.stale (m ∷ rest) rest) (stale-same ms kept p w v e same)

-- the watch of a name isn't stale any longer
pub stale-settled : (name : Bytes) (v : Watch) (made : ℕ) (order : List ℕ) (kept : Kept) → IsRising order → number_in order (shown kept) name ≡ Some made
    → v.stale ≡ false → without_number (stale_numbers order (values_of kept)) made ≡ stale_numbers order (values_of (set_value (is_named name) kept v))
stale-settled name v made [] kept r e fresh = absurd (cc)
stale-settled name v made (m ∷ ms) [] r e fresh = absurd (cc)
stale-settled name v made (m ∷ ms) (x ∷ kept) r e fresh = by (is_named name x.0) e (λ f. stale-settled name v made ms kept r.1 f fresh)
  where
    rest : List ℕ
    rest = stale_numbers ms (values_of kept)

    first : (b : Bool) → without_number (cond b (m ∷ rest) rest) m ≡ rest
    first true = ap (λ c. cond c rest (m ∷ without_number rest m)) (eq-eqb m m refl)
    first false = without-above m rest (all-stale (λ k. m < k) ms (values_of kept) r.0)

    behind : (b : Bool) (later : List ℕ) → m < made → without_number rest made ≡ later
        → without_number (cond b (m ∷ rest) rest) made ≡ cond b (m ∷ later) later
    behind true later h same =
        ap (λ c. cond c rest (m ∷ without_number rest made)) (ne_eqb m made (λ k. omega (arith, h, k))) ∙ ap (λ l. m ∷ l) same
    behind false later h same = same

    by : (b : Bool) → cond b (Some m) (number_in ms (shown kept) name) ≡ Some made
        → (number_in ms (shown kept) name ≡ Some made
        → without_number rest made ≡ stale_numbers ms (values_of (set_value (is_named name) kept v)))
        → without_number (cond x.1.stale (m ∷ rest) rest) made
        ≡ stale_numbers (m ∷ ms) (values_of (cond b ((x.0, v) ∷ kept) (x ∷ set_value (is_named name) kept v)))
    by true e further =
        let same : m ≡ made = cc in
        ap (without_number (cond x.1.stale (m ∷ rest) rest)) (sym same) ∙ first x.1.stale ∙ sym (ap (λ c. cond c (m ∷ rest) rest) fresh)
    by false e further =
        behind x.1.stale (stale_numbers ms (values_of (set_value (is_named name) kept v))) (above-named m ms (shown kept) name made r.0 e)
        (further e)

-- or is gone
pub stale-removed : (name : Bytes) (made : ℕ) (order : List ℕ) (kept : Kept) → IsRising order → number_in order (shown kept) name ≡ Some made
    → without_number (stale_numbers order (values_of kept)) made ≡ stale_numbers (without_number order made) (values_of (remove_entry (is_named name) kept))
stale-removed name made [] kept r e = absurd (cc)
stale-removed name made (m ∷ ms) [] r e = absurd (cc)
stale-removed name made (m ∷ ms) (x ∷ kept) r e = by (is_named name x.0) e (stale-removed name made ms kept r.1)
  where
    rest : List ℕ
    rest = stale_numbers ms (values_of kept)

    first : (b : Bool) → without_number (cond b (m ∷ rest) rest) m ≡ rest
    first true = ap (λ c. cond c rest (m ∷ without_number rest m)) (eq-eqb m m refl)
    first false = without-above m rest (all-stale (λ k. m < k) ms (values_of kept) r.0)

    behind : (b : Bool) (later : List ℕ) → m < made → without_number rest made ≡ later
        → without_number (cond b (m ∷ rest) rest) made ≡ cond b (m ∷ later) later
    behind true later h same =
        ap (λ c. cond c rest (m ∷ without_number rest made)) (ne_eqb m made (λ k. omega (arith, h, k))) ∙ ap (λ l. m ∷ l) same
    behind false later h same = same

    by : (b : Bool) → cond b (Some m) (number_in ms (shown kept) name) ≡ Some made
        → (number_in ms (shown kept) name ≡ Some made
        → without_number rest made ≡ stale_numbers (without_number ms made) (values_of (remove_entry (is_named name) kept)))
        → without_number (cond x.1.stale (m ∷ rest) rest) made
        ≡ stale_numbers (without_number (m ∷ ms) made) (values_of (cond b kept (x ∷ remove_entry (is_named name) kept)))
    by true e further =
        let same : m ≡ made = cc in
        ap (without_number (cond x.1.stale (m ∷ rest) rest)) (sym same) ∙ first x.1.stale
        ∙ sym (ap (λ order. stale_numbers order (values_of kept)) (ap (λ c. cond c ms (m ∷ without_number ms made)) (eq-eqb m made same)))
    by false e further =
        let lower = above-named m ms (shown kept) name made r.0 e in
        behind x.1.stale (stale_numbers (without_number ms made) (values_of (remove_entry (is_named name) kept))) lower (further e)
        ∙ sym (ap (λ order. stale_numbers order (values_of (x ∷ remove_entry (is_named name) kept)))
        (ap (λ c. cond c ms (m ∷ without_number ms made)) (ne_eqb m made (λ k. omega (arith, lower, k)))))

-- a new watch isn't stale
pub stale-added : (key : Vec ℕ Global) (v : Watch) (made : ℕ) (order : List ℕ) (kept : Kept) → length order ≡ length kept → v.stale ≡ false
    → stale_numbers order (values_of kept) ≡ stale_numbers (order ++ made ∷ []) (values_of (kept ++ (key, v) ∷ []))
stale-added key v made [] [] same fresh = sym (ap (λ c. cond c (made ∷ []) []) fresh)
stale-added key v made [] (x ∷ kept) same fresh = absurd (omega (arith, same))
stale-added key v made (m ∷ ms) [] same fresh = absurd (omega (arith, same))
stale-added key v made (m ∷ ms) (x ∷ kept) same fresh =
    ap (λ rest. cond x.1.stale (m ∷ rest) rest) (stale-added key v made ms kept (omega (arith, same)) fresh)

-- as many numbers as watches are left
pub as-many-removed : (name : Bytes) (made : ℕ) (order : List ℕ) (kept : Kept) → IsRising order → number_in order (shown kept) name ≡ Some made
    → length order ≡ length kept → length (without_number order made) ≡ length (remove_entry (is_named name) kept)
as-many-removed name made [] kept r e same = absurd (cc)
as-many-removed name made (m ∷ ms) [] r e same = absurd (cc)
as-many-removed name made (m ∷ ms) (x ∷ kept) r e same =
    by (is_named name x.0) e (λ f. as-many-removed name made ms kept r.1 f (omega (arith, same)))
  where
    by : (b : Bool) → cond b (Some m) (number_in ms (shown kept) name) ≡ Some made
        → (number_in ms (shown kept) name ≡ Some made → length (without_number ms made) ≡ length (remove_entry (is_named name) kept))
        → length (without_number (m ∷ ms) made) ≡ length (cond b kept (x ∷ remove_entry (is_named name) kept))
    by true e rest =
        let is : m ≡ made = cc in
        ap (λ c. length (cond c ms (m ∷ without_number ms made))) (eq-eqb m made is) ∙ omega (arith, same)
    by false e rest =
        let lower = above-named m ms (shown kept) name made r.0 e in
        ap (λ c. length (cond c ms (m ∷ without_number ms made))) (ne_eqb m made (λ k. omega (arith, lower, k)))
        ∙ ap suc (rest e)

-- all that are left pass what all did
pub all-without : (P : ℕ → Type 0) (xs : List ℕ) (n : ℕ) → AllByRecursion P xs → AllByRecursion P (without_number xs n)
all-without P [] n all = tt
all-without P (x ∷ xs) n all = by (nat_eq x n) (all-without P xs n all.1)
  where
    by : (b : Bool) → AllByRecursion P (without_number xs n) → AllByRecursion P (cond b xs (x ∷ without_number xs n))
    by true rest = all.1
    by false rest = (all.0, rest)

-- a removed entry makes it no longer
pub removed-few : (name : Bytes) (kept : Kept) → length (remove_entry (is_named name) kept) ≤ length kept
removed-few name [] = omega arith
removed-few name (x ∷ kept) = by (is_named name x.0) (removed-few name kept)
  where
    by : (b : Bool) → length (remove_entry (is_named name) kept) ≤ length kept
        → length (cond b kept (x ∷ remove_entry (is_named name) kept)) ≤ suc (length kept)
    by true h = omega arith
    by false h = omega (arith, h)

-- ---- the first stale one

-- behind a number that all are above, a place is one further
place-behind : (m : ℕ) (ms : List ℕ) (n : ℕ) → m < n → place_in (m ∷ ms) n ≡ option_map suc (place_in ms n)
place-behind m ms n h = ap (λ b. cond b (Some 0) (option_map suc (place_in ms n))) (ne_eqb m n (λ same. omega (arith, h, same)))

-- its place is that of the first listed number
pub first-place : (order : List ℕ) (vs : List Watch) → IsRising order → length order ≡ length vs
    → option_and_then (place_in order) (slice_get (stale_numbers order vs) 0) ≡ position (λ (watch : Watch). watch.stale) vs
first-place [] [] r same = refl
first-place [] (v ∷ vs) r same = absurd (omega (arith, same))
first-place (n ∷ ns) [] r same = absurd (omega (arith, same))
first-place (n ∷ ns) (v ∷ vs) r same = by v.stale (first-place ns vs r.1 (omega (arith, same))) ∙ sym (position-cons (λ (watch : Watch). watch.stale) v vs)
  where
    further : (all : List ℕ) → AllByRecursion (λ k. n < k) all
        → option_and_then (place_in (n ∷ ns)) (slice_get all 0) ≡ option_map suc (option_and_then (place_in ns) (slice_get all 0))
    further [] above = refl
    further (k ∷ ks) above = place-behind n ns k above.0

    by : (b : Bool)
        → option_and_then (place_in ns) (slice_get (stale_numbers ns vs) 0) ≡ position (λ (watch : Watch). watch.stale) vs
        → option_and_then (place_in (n ∷ ns)) (slice_get (cond b (n ∷ stale_numbers ns vs) (stale_numbers ns vs)) 0)
        ≡ cond b (Some 0) (option_map suc (position (λ (watch : Watch). watch.stale) vs))
    by true rest = ap (λ b. cond b (Some 0) (option_map suc (place_in ns n))) (eq-eqb n n refl)
    by false rest = further (stale_numbers ns vs) (all-stale (λ k. n < k) ns vs r.0) ∙ ap (option_map suc) rest

-- ---- told

-- at a place, as kept
pub shown-told : (changes : Deltas) (kept : Kept) (p : ℕ) (w : Watch) → slice_get (values_of kept) p ≡ Some w
    → shown (set_value_at kept p (told changes w)) ≡ told_place changes p (shown kept)
shown-told changes [] p w e = refl
shown-told changes (x ∷ kept) zero w e = ap (λ v. (x.0.items, told changes v) ∷ shown kept) (let is : x.1 ≡ w = cc in sym is)
shown-told changes (x ∷ kept) (suc p) w e = ap (λ (rest : Watches). (x.0.items, x.1) ∷ rest) (shown-told changes kept p w e)

-- where there is no place, nothing changes
pub told-past : (changes : Deltas) (ws : Watches) (p : ℕ) → length ws ≤ p → told_place changes p ws ≡ ws
told-past changes [] p h = refl
told-past changes (x ∷ ws) zero h = absurd (omega (arith, h))
told-past changes (x ∷ ws) (suc p) h = ap (λ (rest : Watches). x ∷ rest) (told-past changes ws p (omega (arith, h)))

-- numbers above one are another's
untold-above : (changes : Deltas) (n : ℕ) (order : List ℕ) (ws : Watches) → AllByRecursion (λ k. n < k) order → told_numbered changes n order ws ≡ ws
untold-above changes n [] ws all = refl
untold-above changes n (m ∷ ms) [] all = refl
untold-above changes n (m ∷ ms) (x ∷ ws) all =
    λ j. (x.0, told_if (ne_eqb m n (λ same. let h = all.0 in omega (arith, h, same)) j) changes x.1) ∷ untold-above changes n ms ws all.1 j

-- the watch of a number is the one at its place, if it has one
pub told-found : (changes : Deltas) (order : List ℕ) (ws : Watches) (n p : ℕ) → IsRising order → place_in order n ≡ Some p
    → told_place changes p ws ≡ told_numbered changes n order ws
told-found changes [] ws n p r e = absurd (cc)
told-found changes (m ∷ ms) [] n p r e = refl
told-found changes (m ∷ ms) (x ∷ ws) n p r e = by (nat_eq m n) refl e (λ q. told-found changes ms ws n q r.1)
  where
    further : (o : Option ℕ) (p : ℕ) → place_in ms n ≡ o → option_map suc o ≡ Some p
        → ((q : ℕ) → place_in ms n ≡ Some q → told_place changes q ws ≡ told_numbered changes n ms ws)
        → told_place changes p (x ∷ ws) ≡ (x.0, x.1) ∷ told_numbered changes n ms ws
    further None p f e rest = absurd (cc)
    further (Some q) p f e rest =
        let same : suc q ≡ p = cc in
        ap (λ i. told_place changes i (x ∷ ws)) (sym same) ∙ ap (λ (rest : Watches). x ∷ rest) (rest q f)

    by : (b : Bool) → nat_eq m n ≡ b → cond b (Some 0) (option_map suc (place_in ms n)) ≡ Some p
        → ((q : ℕ) → place_in ms n ≡ Some q → told_place changes q ws ≡ told_numbered changes n ms ws)
        → told_place changes p (x ∷ ws) ≡ (x.0, told_if b changes x.1) ∷ told_numbered changes n ms ws
    by true f e rest =
        let first : 0 ≡ p = cc in
        ap (λ i. told_place changes i (x ∷ ws)) (sym first)
        ∙ ap (λ (rest : Watches). (x.0, told changes x.1) ∷ rest)
        (sym (untold-above changes n ms ws (subst (λ k. AllByRecursion (λ y. k < y) ms) (eqb-true m n f) r.0)))
    by false f e rest = further (place_in ms n) p refl e rest

-- a number that has no place is that of no watch, so none is told
pub told-missed : (changes : Deltas) (order : List ℕ) (ws : Watches) (n : ℕ) → place_in order n ≡ None → ws ≡ told_numbered changes n order ws
told-missed changes [] ws n e = refl
told-missed changes (m ∷ ms) [] n e = refl
told-missed changes (m ∷ ms) (x ∷ ws) n e = by (nat_eq m n) e (told-missed changes ms ws n)
  where
    none : (o : Option ℕ) → option_map suc o ≡ None → o ≡ None
    none None e = refl
    none (Some q) e = absurd (cc)

    by : (b : Bool) → cond b (Some 0) (option_map suc (place_in ms n)) ≡ None → (place_in ms n ≡ None → ws ≡ told_numbered changes n ms ws)
        → x ∷ ws ≡ (x.0, told_if b changes x.1) ∷ told_numbered changes n ms ws
    by true e rest = absurd (cc)
    by false e rest = ap (λ (later : Watches). x ∷ later) (rest (none (place_in ms n) e))

-- ---- all told, place by place

-- the first so many watches are told
abbrev pub first_told : Deltas → ℕ → Watches → Watches
first_told changes zero ws = ws
first_told changes (suc n) [] = []
first_told changes (suc n) (e ∷ ws) = (e.0, told changes e.1) ∷ first_told changes n ws

-- the next is told
pub told-next : (changes : Deltas) (n : ℕ) (ws : Watches) → told_place changes n (first_told changes n ws) ≡ first_told changes (suc n) ws
told-next changes zero [] = refl
told-next changes zero (e ∷ ws) = refl
told-next changes (suc n) [] = refl
told-next changes (suc n) (e ∷ ws) = ap (λ (rest : Watches). (e.0, told changes e.1) ∷ rest) (told-next changes n ws)

-- once all are told
pub all-first_told : (changes : Deltas) (n : ℕ) (ws : Watches) → length ws ≤ n → first_told changes n ws ≡ all_told changes ws
all-first_told changes zero [] h = refl
all-first_told changes zero (e ∷ ws) h = absurd (omega (arith, h))
all-first_told changes (suc n) [] h = refl
all-first_told changes (suc n) (e ∷ ws) h = ap (λ (rest : Watches). (e.0, told changes e.1) ∷ rest) (all-first_told changes n ws (omega (arith, h)))

-- ---- names that aren't in use

-- a name without a number is none's
pub named-none : (order : List ℕ) (ws : Watches) (name : Bytes) → length order ≡ length ws → number_in order ws name ≡ None → watch_of ws name ≡ None
named-none [] [] name same e = refl
named-none [] (w ∷ ws) name same e = absurd (omega (arith, same))
named-none (n ∷ ns) [] name same e = refl
named-none (n ∷ ns) (w ∷ ws) name same e = by (bytes_eq name w.0) e (named-none ns ws name (omega (arith, same)))
  where
    by : (b : Bool) → cond b (Some n) (number_in ns ws name) ≡ None → (number_in ns ws name ≡ None → watch_of ws name ≡ None)
        → cond b (Some w.1) (watch_of ws name) ≡ None
    by true e rest = absurd (cc)
    by false e rest = rest e

-- and nothing is taken out
pub without-none : (ws : Watches) (name : Bytes) → watch_of ws name ≡ None → without_watch ws name ≡ ws
without-none [] name e = refl
without-none (w ∷ ws) name e = by (bytes_eq name w.0) e (without-none ws name)
  where
    by : (b : Bool) → cond b (Some w.1) (watch_of ws name) ≡ None → (watch_of ws name ≡ None → without_watch ws name ≡ ws)
        → cond b ws (w ∷ without_watch ws name) ≡ w ∷ ws
    by true e rest = absurd (cc)
    by false e rest = ap (λ (later : Watches). w ∷ later) (rest e)
