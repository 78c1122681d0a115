-- Numbers in rising order: where a number is found and put, and what is left without it.
use Rattle.std.proofs.Common.{◌≡◌, ℕ, zero, suc, ◌<◌, ◌≤◌, ⊎_elim, Bool, true, false}
use Rattle.std.proofs.Common.{cond, nat_eq, nat_lt, ◌||◌, List, [], ◌∷◌, ◌++◌, length, get_or, insert, remove}
use Rattle.std.proofs.Common.{Option, Some, None, option_map, is_some, Result, Ok, Err, MatchResult, nat_cmp, refl, sym, ap, subst, ◌∙◌, arith, le_refl, true≢false}
use Rattle.std.proofs.lemmas.Bool.{eq-eqb, ne_eqb, eqb-true, eqb-false, lt-ltb, le-ltb, ltb-true, ltb-false, cases_lt, cases_order, or_left, or_right, or_cases}
use Rattle.std.proofs.lemmas.List.Sorted.{searched}
use Rattle.std.specs.List.{AllByRecursion}
use Rattle.std.specs.List.Sorted.{IsBinarySearchResult}
use Rattle.std.specs.Result.{result_ok}
use Rattle.rerun_driver.specs.code.Numbers.{IsRising, is_among, place_in, with_number, without_number}

-- what holds of all holds at a place
all-at : (x : ℕ) (xs : List ℕ) (j : ℕ) → AllByRecursion (λ k. x < k) xs → j < length xs → x < get_or xs j 0
all-at x [] j all lt = absurd (omega arith)
all-at x (y ∷ ys) zero all lt = all.0
all-at x (y ∷ ys) (suc j) all lt = all-at x ys j all.1 (omega arith)

-- what is above a number is above one below it
all-above : (m n : ℕ) (xs : List ℕ) → m < n → AllByRecursion (λ k. n < k) xs → AllByRecursion (λ k. m < k) xs
all-above m n [] lt all = tt
all-above m n (x ∷ xs) lt all = (let h = all.0 in omega (arith, lt, h), all-above m n xs lt all.1)

-- by places, a number that rises is at most those behind it
rising-places : (xs : List ℕ) → IsRising xs → (i j : ℕ) → i ≤ j → j < length xs → get_or xs i 0 ≤ get_or xs j 0
rising-places [] r i j le lt = absurd (omega arith)
rising-places (x ∷ xs) r zero zero le lt = le_refl x
rising-places (x ∷ xs) r zero (suc j) le lt = let h = all-at x xs j r.0 (omega arith) in omega (arith, h)
rising-places (x ∷ xs) r (suc i) zero le lt = absurd (omega arith)
rising-places (x ∷ xs) r (suc i) (suc j) le lt = rising-places xs r.1 i j (omega arith) (omega arith)

-- ---- found

-- a place that is there behind one is there
some-map : (o : Option ℕ) → is_some (option_map suc o) ≡ true → is_some o ≡ true
some-map None e = e
some-map (Some i) e = refl

-- a number of a rising list is found at its place: those in front of it are below it
place-hit : (xs : List ℕ) (i n : ℕ) → IsRising xs → i < length xs → get_or xs i 0 ≡ n → place_in xs n ≡ Some i
place-hit [] i n r lt e = absurd (omega arith)
place-hit (x ∷ xs) zero n r lt e = ap (λ b. cond b (Some 0) (option_map suc (place_in xs n))) (eq-eqb x n e)
place-hit (x ∷ xs) (suc i) n r lt e =
    let above = all-at x xs i r.0 (omega arith) in
    ap (λ b. cond b (Some 0) (option_map suc (place_in xs n))) (ne_eqb x n (λ same. omega (arith, above, e, same)))
    ∙ ap (option_map suc) (place-hit xs i n r.1 (omega arith) e)

-- a number that stands nowhere isn't found
place-gap : (xs : List ℕ) (n : ℕ) → ((k : ℕ) → k < length xs → get_or xs k 0 ≡ n → ⊥) → place_in xs n ≡ None
place-gap [] n out = refl
place-gap (x ∷ xs) n out =
    ap (λ b. cond b (Some 0) (option_map suc (place_in xs n))) (ne_eqb x n (out 0 (omega arith)))
    ∙ ap (option_map suc) (place-gap xs n (λ k lt. out (suc k) (omega arith)))

-- a place in front of which all is below a number, and from which on all is above it
abbrev IsGap : List ℕ → ℕ → ℕ → Type 0
IsGap xs n i = ((k : ℕ) → k < i → get_or xs k 0 < n) × ((k : ℕ) → i ≤ k → k < length xs → n < get_or xs k 0)

-- a number with such a place stands nowhere
nowhere : (xs : List ℕ) (n i : ℕ) → IsGap xs n i → (k : ℕ) → k < length xs → get_or xs k 0 ≡ n → ⊥
nowhere xs n i gap k lt e = ⊎_elim (λ h. let b = gap.0 k h in omega (arith, b, e)) (λ h. let a = gap.1 k h lt in omega (arith, a, e)) (cases_lt k i)

-- behind the first number the place is one less
gap-tail : (x : ℕ) (xs : List ℕ) (n i : ℕ) → IsGap (x ∷ xs) n (suc i) → IsGap xs n i
gap-tail x xs n i gap = (λ k lt. gap.0 (suc k) (omega (arith, lt)), λ k le lt. gap.1 (suc k) (omega (arith, le)) (omega (arith, lt)))

-- what the search by halving says of a rising list
abbrev Says : List ℕ → ℕ → Result ℕ ℕ → Type 0
Says xs n r = MatchResult r (λ i. (i < length xs) × (get_or xs i 0 ≡ n)) (λ i. (i ≤ length xs) × IsGap xs n i)

-- by std, since the numbers of a rising list rise from place to place
says : (xs : List ℕ) (n : ℕ) (r : Result ℕ ℕ) → IsRising xs → IsBinarySearchResult (λ y. nat_cmp y n) xs r → Says xs n r
says xs n (Ok i) rising by = searched xs n (Ok i) by (rising-places xs rising)
says xs n (Err i) rising by = let h = searched xs n (Err i) by (rising-places xs rising) in (h.0, (h.1, h.2))

-- so it finds the place
pub place-searched : (xs : List ℕ) (n : ℕ) (r : Result ℕ ℕ) → IsRising xs → IsBinarySearchResult (λ y. nat_cmp y n) xs r
    → result_ok r ≡ place_in xs n
place-searched xs n r rising by = from r (says xs n r rising by)
  where
    from : (r : Result ℕ ℕ) → Says xs n r → result_ok r ≡ place_in xs n
    from (Ok i) h = sym (place-hit xs i n rising h.0 h.1)
    from (Err i) h = sym (place-gap xs n (nowhere xs n i h.1))

-- ---- put

-- a number that is there isn't put again
with-hit : (xs : List ℕ) (i n : ℕ) → IsRising xs → i < length xs → get_or xs i 0 ≡ n → with_number xs n ≡ xs
with-hit [] i n r lt e = absurd (omega arith)
with-hit (x ∷ xs) zero n r lt e =
    ap (λ b. cond b (x ∷ xs) (cond (nat_lt x n) (x ∷ with_number xs n) (n ∷ x ∷ xs))) (eq-eqb x n e)
with-hit (x ∷ xs) (suc i) n r lt e =
    let above = all-at x xs i r.0 (omega arith) in
    (λ j. cond (ne_eqb x n (λ same. omega (arith, above, e, same)) j) (x ∷ xs)
    (cond (lt-ltb x n (omega (arith, above, e)) j) (x ∷ with_number xs n) (n ∷ x ∷ xs)))
    ∙ ap (λ rest. x ∷ rest) (with-hit xs i n r.1 (omega arith) e)

-- another goes to its place
with-gap : (xs : List ℕ) (i n : ℕ) → IsGap xs n i → insert xs i n ≡ with_number xs n
with-gap [] zero n gap = refl
with-gap [] (suc i) n gap = refl
with-gap (x ∷ xs) zero n gap =
    let above = gap.1 0 (omega arith) (omega arith) in
    sym (λ j. cond (ne_eqb x n (λ same. omega (arith, above, same)) j) (x ∷ xs)
    (cond (le-ltb x n (omega (arith, above)) j) (x ∷ with_number xs n) (n ∷ x ∷ xs)))
with-gap (x ∷ xs) (suc i) n gap =
    let under = gap.0 0 (omega arith) in
    ap (λ rest. x ∷ rest) (with-gap xs i n (gap-tail x xs n i gap))
    ∙ sym (λ j. cond (ne_eqb x n (λ same. omega (arith, under, same)) j) (x ∷ xs)
    (cond (lt-ltb x n under j) (x ∷ with_number xs n) (n ∷ x ∷ xs)))

-- so a number is put where the search says, or is there
pub put-searched : (xs : List ℕ) (n : ℕ) (r : Result ℕ ℕ) → IsRising xs → IsBinarySearchResult (λ y. nat_cmp y n) xs r
    → MatchResult r (λ i. xs ≡ with_number xs n) (λ i. insert xs i n ≡ with_number xs n)
put-searched xs n (Ok i) rising by = let h = says xs n (Ok i) rising by in sym (with-hit xs i n rising h.0 h.1)
put-searched xs n (Err i) rising by = let h = says xs n (Err i) rising by in with-gap xs i n h.1

-- what is found behind a number that all are above is above it
found-above : (x : ℕ) (xs : List ℕ) (n : ℕ) → AllByRecursion (λ k. x < k) xs → is_some (place_in xs n) ≡ true → x < n
found-above x [] n all e = absurd (true≢false (sym e))
found-above x (y ∷ ys) n all e = by (nat_eq y n) refl e (found-above x ys n all.1)
  where
    by : (b : Bool) → nat_eq y n ≡ b → is_some (cond b (Some 0) (option_map suc (place_in ys n))) ≡ true
        → (is_some (place_in ys n) ≡ true → x < n) → x < n
    by true f e rest = let h = all.0 in let same = eqb-true y n f in omega (arith, h, same)
    by false f e rest = rest (some-map (place_in ys n) e)

-- a number that is found isn't put again
pub with-found : (xs : List ℕ) (n : ℕ) → IsRising xs → is_some (place_in xs n) ≡ true → with_number xs n ≡ xs
with-found [] n r e = absurd (true≢false (sym e))
with-found (x ∷ xs) n r e = by (nat_eq x n) refl e (with-found xs n r.1)
  where
    by : (b : Bool) → nat_eq x n ≡ b → is_some (cond b (Some 0) (option_map suc (place_in xs n))) ≡ true
        → (is_some (place_in xs n) ≡ true → with_number xs n ≡ xs) → with_number (x ∷ xs) n ≡ x ∷ xs
    by true f e rest = ap (λ b. cond b (x ∷ xs) (cond (nat_lt x n) (x ∷ with_number xs n) (n ∷ x ∷ xs))) f
    by false f e rest =
        let there = some-map (place_in xs n) e in
        (λ j. cond (f j) (x ∷ xs) (cond (lt-ltb x n (found-above x xs n r.0 there) j) (x ∷ with_number xs n) (n ∷ x ∷ xs)))
        ∙ ap (λ behind. x ∷ behind) (rest there)

-- all stays in order
all-with : (m n : ℕ) (xs : List ℕ) → m < n → AllByRecursion (λ k. m < k) xs → AllByRecursion (λ k. m < k) (with_number xs n)
all-with m n [] lt all = (lt, tt)
all-with m n (x ∷ xs) lt all = by (nat_eq x n) (nat_lt x n) (all-with m n xs lt all.1)
  where
    by : (b c : Bool) → AllByRecursion (λ k. m < k) (with_number xs n)
        → AllByRecursion (λ k. m < k) (cond b (x ∷ xs) (cond c (x ∷ with_number xs n) (n ∷ x ∷ xs)))
    by true c rest = all
    by false true rest = (all.0, rest)
    by false false rest = (lt, all)

-- by where it goes: all in front is below it, and all behind is above it
pub rising-with : (xs : List ℕ) (n : ℕ) → IsRising xs → IsRising (with_number xs n)
rising-with [] n r = (tt, tt)
rising-with (x ∷ xs) n r = by (nat_eq x n) (nat_lt x n) refl refl (rising-with xs n r.1)
  where
    above : nat_lt x n ≡ false → (x ≡ n → ⊥) → n < x
    above f apart = ⊎_elim (λ same. absurd (apart same))
        (λ h. ⊎_elim (λ l. let m = ltb-false x n f in absurd (omega (arith, l, m))) (λ l. l) h) (cases_order x n)

    by : (b c : Bool) → nat_eq x n ≡ b → nat_lt x n ≡ c → IsRising (with_number xs n)
        → IsRising (cond b (x ∷ xs) (cond c (x ∷ with_number xs n) (n ∷ x ∷ xs)))
    by true c e f rest = r
    by false true e f rest = (all-with x n xs (ltb-true x n f) r.0, rest)
    by false false e f rest = let h = above f (eqb-false x n e) in ((h, all-above n x xs h r.0), r)

-- ---- taken out

-- what holds of all holds of those that are left
all-without : (m n : ℕ) (xs : List ℕ) → AllByRecursion (λ k. m < k) xs → AllByRecursion (λ k. m < k) (without_number xs n)
all-without m n [] all = tt
all-without m n (x ∷ xs) all = by (nat_eq x n) (all-without m n xs all.1)
  where
    by : (b : Bool) → AllByRecursion (λ k. m < k) (without_number xs n) → AllByRecursion (λ k. m < k) (cond b xs (x ∷ without_number xs n))
    by true rest = all.1
    by false rest = (all.0, rest)

-- those that are left are in order, as they were
pub rising-without : (xs : List ℕ) (n : ℕ) → IsRising xs → IsRising (without_number xs n)
rising-without [] n r = tt
rising-without (x ∷ xs) n r = by (nat_eq x n) (rising-without xs n r.1)
  where
    by : (b : Bool) → IsRising (without_number xs n) → IsRising (cond b xs (x ∷ without_number xs n))
    by true rest = r.1
    by false rest = (all-without x n xs r.0, rest)

-- what is found is taken out
without-hit : (xs : List ℕ) (i n : ℕ) → IsRising xs → i < length xs → get_or xs i 0 ≡ n → remove xs i ≡ without_number xs n
without-hit [] i n r lt e = absurd (omega arith)
without-hit (x ∷ xs) zero n r lt e = sym (ap (λ b. cond b xs (x ∷ without_number xs n)) (eq-eqb x n e))
without-hit (x ∷ xs) (suc i) n r lt e =
    let above = all-at x xs i r.0 (omega arith) in
    ap (λ rest. x ∷ rest) (without-hit xs i n r.1 (omega arith) e)
    ∙ sym (ap (λ b. cond b xs (x ∷ without_number xs n)) (ne_eqb x n (λ same. omega (arith, above, e, same))))

-- where it stands nowhere, nothing is
without-gap : (xs : List ℕ) (n : ℕ) → ((k : ℕ) → k < length xs → get_or xs k 0 ≡ n → ⊥) → without_number xs n ≡ xs
without-gap [] n out = refl
without-gap (x ∷ xs) n out =
    ap (λ b. cond b xs (x ∷ without_number xs n)) (ne_eqb x n (out 0 (omega arith)))
    ∙ ap (λ rest. x ∷ rest) (without-gap xs n (λ k lt. out (suc k) (omega (arith, lt))))

-- so a number is taken out where the search says, or is nowhere
pub out-searched : (xs : List ℕ) (n : ℕ) (r : Result ℕ ℕ) → IsRising xs → IsBinarySearchResult (λ y. nat_cmp y n) xs r
    → MatchResult r (λ i. remove xs i ≡ without_number xs n) (λ i. xs ≡ without_number xs n)
out-searched xs n (Ok i) rising by = let h = says xs n (Ok i) rising by in without-hit xs i n rising h.0 h.1
out-searched xs n (Err i) rising by = let h = says xs n (Err i) rising by in sym (without-gap xs n (nowhere xs n i h.1))

-- ---- who is among them

-- the new one, and those that were there; by where it goes
pub among-with : (xs : List ℕ) (n m : ℕ) → is_among (with_number xs n) m ≡ (nat_eq n m || is_among xs m)
among-with [] n m = refl
among-with (x ∷ xs) n m = by (nat_eq x n) (nat_lt x n) refl (among-with xs n m)
  where
    turned : (p q r : Bool) → (p || (q || r)) ≡ (q || (p || r))
    turned true true r = refl
    turned true false r = refl
    turned false q r = refl

    twice : (p r : Bool) → (p || r) ≡ (p || (p || r))
    twice true r = refl
    twice false r = refl

    by : (b c : Bool) → nat_eq x n ≡ b → is_among (with_number xs n) m ≡ (nat_eq n m || is_among xs m)
        → is_among (cond b (x ∷ xs) (cond c (x ∷ with_number xs n) (n ∷ x ∷ xs))) m ≡ (nat_eq n m || (nat_eq x m || is_among xs m))
    by true c e rest = twice (nat_eq x m) (is_among xs m) ∙ ap (λ k. nat_eq k m || (nat_eq x m || is_among xs m)) (eqb-true x n e)
    by false true e rest = ap (λ b. nat_eq x m || b) rest ∙ turned (nat_eq x m) (nat_eq n m) (is_among xs m)
    by false false e rest = refl

-- the others stay
pub among-without : (xs : List ℕ) (n m : ℕ) → nat_eq n m ≡ false → is_among (without_number xs n) m ≡ is_among xs m
among-without [] n m other = refl
among-without (x ∷ xs) n m other = by (nat_eq x n) refl (among-without xs n m other)
  where
    by : (b : Bool) → nat_eq x n ≡ b → is_among (without_number xs n) m ≡ is_among xs m
        → is_among (cond b xs (x ∷ without_number xs n)) m ≡ (nat_eq x m || is_among xs m)
    by true e rest = ap (λ c. c || is_among xs m) (sym (ap (λ k. nat_eq k m) (eqb-true x n e) ∙ other))
    by false e rest = ap (λ b. nat_eq x m || b) rest

-- where all are above a number it isn't there
above-out : (n : ℕ) (xs : List ℕ) → AllByRecursion (λ k. n < k) xs → is_among xs n ≡ false
above-out n [] all = refl
above-out n (x ∷ xs) all =
    ap (λ b. b || is_among xs n) (ne_eqb x n (λ same. let h = all.0 in omega (arith, h, same))) ∙ above-out n xs all.1

-- so what is taken out is there no longer
pub gone-without : (xs : List ℕ) (n : ℕ) → IsRising xs → is_among (without_number xs n) n ≡ false
gone-without [] n r = refl
gone-without (x ∷ xs) n r = by (nat_eq x n) refl (gone-without xs n r.1)
  where
    by : (b : Bool) → nat_eq x n ≡ b → is_among (without_number xs n) n ≡ false → is_among (cond b xs (x ∷ without_number xs n)) n ≡ false
    by true e rest = above-out n xs (subst (λ k. AllByRecursion (λ y. k < y) xs) (eqb-true x n e) r.0)
    by false e rest = ap (λ b. b || is_among (without_number xs n) n) e ∙ rest

-- who is left was there
pub among-fewer : (xs : List ℕ) (n m : ℕ) → is_among (without_number xs n) m ≡ true → is_among xs m ≡ true
among-fewer [] n m e = e
among-fewer (x ∷ xs) n m e = by (nat_eq x n) e (among-fewer xs n m)
  where
    by : (b : Bool) → is_among (cond b xs (x ∷ without_number xs n)) m ≡ true → (is_among (without_number xs n) m ≡ true → is_among xs m ≡ true)
        → (nat_eq x m || is_among xs m) ≡ true
    by true f rest = or_right (nat_eq x m) (is_among xs m) f
    by false f rest =
        ⊎_elim (λ here. or_left (nat_eq x m) (is_among xs m) here) (λ later. or_right (nat_eq x m) (is_among xs m) (rest later))
        (or_cases (nat_eq x m) (is_among (without_number xs n) m) f)

-- a number above all goes behind all
pub with-last : (xs : List ℕ) (n : ℕ) → AllByRecursion (λ k. k < n) xs → with_number xs n ≡ xs ++ n ∷ []
with-last [] n all = refl
with-last (x ∷ xs) n all =
    (λ j. cond (ne_eqb x n (λ same. let h = all.0 in omega (arith, h, same)) j) (x ∷ xs) (cond (lt-ltb x n all.0 j) (x ∷ with_number xs n) (n ∷ x ∷ xs)))
    ∙ ap (λ rest. x ∷ rest) (with-last xs n all.1)
