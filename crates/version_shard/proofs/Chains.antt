-- The values of a chain that are kept whole.
use Rattle.std.proofs.Common.{◌≡◌, ℕ, ◌+◌, ◌-◌, ◌*◌, ◌/◌, ◌%◌, ◌<◌, ◌≤◌, ◌==◌, zero, suc, Bool, true, false, cond, nat_le, nat_lt, List, [], ◌∷◌, ◌++◌}
use Rattle.std.proofs.Common.{take, drop, length, get_or, refl, sym, ap, ◌∙◌, arith, append_assoc, append-nil, length-append}
use Rattle.std.specs.List.{AllByRecursion}
use Rattle.std.specs.List.Sorted.{IsPartitionPoint}
use Rattle.std.proofs.Math.Seq.{take-append_seam, drop-append_seam, take-add, drop-cons}
use Rattle.std.proofs.lemmas.List.{take-append-drop, length-take-le}
use Rattle.std.proofs.lemmas.List.Elements.{filter-append}
use Rattle.std.proofs.lemmas.List.Sorted.{IsNonDecreasingBy-take, IsNonDecreasingBy-drop, IsNonDecreasingBy-push}
use Rattle.rdt_types.specs.declared.value.Value.{Value}
use Rattle.rdt_types.specs.Deltas.{apply}
use Rattle.version_shard.specs.declared.version.Version.{Version}
use Rattle.version_shard.specs.Versions.{AreInOrder, value_after, latest, past, trimmed_from}
use Rattle.version_shard.specs.code.Chains.{whole_at, wholes, IsChain, Parts}
use Rattle.version_shard.proofs.Numbered.{below, below-all, below-none, above-all, above-none}

-- ---- values after versions

-- versions and then others leave what the others make of what the first leave
pub value_after-append : (base : Value) (xs ys : List Version) → value_after base (xs ++ ys) ≡ value_after (value_after base xs) ys
value_after-append base [] ys = refl
value_after-append base (x ∷ xs) ys = value_after-append (apply x.delta base) xs ys

-- from a value between on, the versions behind it leave what all do
pub value_after-between : (base : Value) (xs : List Version) (i n : ℕ) → i ≤ n
    → value_after (value_after base (take i xs)) (take (n - i) (drop i xs)) ≡ value_after base (take n xs)
value_after-between base xs i n within =
    let sum : i + (n - i) ≡ n = omega (arith, within) in
    sym (value_after-append base (take i xs) (take (n - i) (drop i xs)))
    ∙ ap (value_after base) (sym (take-add i (n - i) xs) ∙ ap (λ k. take k xs) sum)

-- the version at a place makes of the value before it the one from which the others go on
pub value_after-next : (base : Value) (xs : List Version) (i n : ℕ) (d : Version) → i < n → n ≤ length xs
    → value_after (apply (get_or xs i d).delta (value_after base (take i xs))) (take (n - (i + 1)) (drop (i + 1) xs)) ≡ value_after base (take n xs)
value_after-next base xs i n d some within =
    let before = value_after base (take i xs) in
    let next : suc (n - (i + 1)) ≡ n - i = omega (arith, some) in
    let place : i + 1 ≡ suc i = omega arith in
    ap (λ k. value_after (apply (get_or xs i d).delta before) (take (n - (i + 1)) (drop k xs))) place
    ∙ ap (λ l. value_after before (take (suc (n - (i + 1))) l)) (sym (drop-cons xs i d (omega (arith, some, within))))
    ∙ ap (λ k. value_after before (take k (drop i xs))) next
    ∙ value_after-between base xs i n (omega (arith, some))

-- ---- which values are whole

-- of versions and then others, those of the first and then those of the others, counted on
wholes-append : (n : ℕ) (base : Value) (xs ys : List Version)
    → wholes n base (xs ++ ys) ≡ wholes n base xs ++ wholes (n + length xs) (value_after base xs) ys
wholes-append n base [] ys = let e : n ≡ n + 0 = omega arith in ap (λ m. wholes m base ys) e
wholes-append n base (x ∷ xs) ys =
    let value = apply x.delta base in
    let e : n + 1 + length xs ≡ n + suc (length xs) = omega arith in
    ap (λ l. whole_at (n + 1) value ++ l)
    (wholes-append (n + 1) value xs ys ∙ ap (λ m. wholes (n + 1) value xs ++ wholes m (value_after value xs) ys) e)
    ∙ sym (append_assoc (whole_at (n + 1) value) (wholes (n + 1) value xs) (wholes (n + suc (length xs)) (value_after value xs) ys))

-- at one version there is one, or none
length-whole_at : (n : ℕ) (value : Value) → length (whole_at (n + 1) value) ≡ (n + 1) / 32 - n / 32
length-whole_at n value = by ((n + 1) % 32 == 0) refl
  where
    by : (b : Bool) → ((n + 1) % 32 == 0) ≡ b → length (cond b (value ∷ []) []) ≡ (n + 1) / 32 - n / 32
    by true e = grind (arith, e)
    by false e = grind (arith, e)

-- and in all as many as there are 32nd versions
length-wholes : (n : ℕ) (base : Value) (xs : List Version) → length (wholes n base xs) ≡ (n + length xs) / 32 - n / 32
length-wholes n base [] = omega arith
length-wholes n base (x ∷ xs) =
    let value = apply x.delta base in
    let first = length-whole_at n value in
    let rest = length-wholes (n + 1) value xs in
    length-append (whole_at (n + 1) value) (wholes (n + 1) value xs) ∙ omega (arith, first, rest)

-- counts that differ by whole 32s choose the same ones
wholes-alike : (m n : ℕ) (base : Value) (xs : List Version) → m % 32 ≡ n % 32 → wholes m base xs ≡ wholes n base xs
wholes-alike m n base [] same = refl
wholes-alike m n base (x ∷ xs) same =
    let value = apply x.delta base in
    let next : (m + 1) % 32 ≡ (n + 1) % 32 = omega (arith, same) in
    ap (λ r. cond (r == 0) (value ∷ []) [] ++ wholes (m + 1) value xs) next
    ∙ ap (λ l. whole_at (n + 1) value ++ l) (wholes-alike (m + 1) (n + 1) value xs next)

-- the first none of some items are none
take-none : {X : Type 0} (xs : List X) → take zero xs ≡ []
take-none [] = refl
take-none (x ∷ xs) = refl

-- the whole value at a place is the one after that 32nd version
wholes-at : (n : ℕ) (base : Value) (xs : List Version) (j : ℕ) (d : Value) → j < length (wholes n base xs)
    → get_or (wholes n base xs) j d ≡ value_after base (take (32 * (n / 32 + j + 1) - n) xs)
wholes-at n base [] j d within = absurd (omega (arith, within))
wholes-at n base (x ∷ xs) j d within = by ((n + 1) % 32 == 0) refl j within (λ i. wholes-at (n + 1) value xs i d)
  where
    value : Value
    value = apply x.delta base

    by : (b : Bool) → ((n + 1) % 32 == 0) ≡ b → (j : ℕ) → j < length (cond b (value ∷ []) [] ++ wholes (n + 1) value xs)
        → ((i : ℕ) → i < length (wholes (n + 1) value xs)
        → get_or (wholes (n + 1) value xs) i d ≡ value_after value (take (32 * ((n + 1) / 32 + i + 1) - (n + 1)) xs))
        → get_or (cond b (value ∷ []) [] ++ wholes (n + 1) value xs) j d ≡ value_after base (take (32 * (n / 32 + j + 1) - n) (x ∷ xs))
    by true e zero within again =
        let full : (n + 1) % 32 ≡ 0 = grind (arith, e) in
        let one : 32 * (n / 32 + 0 + 1) - n ≡ 1 = omega (arith, full) in
        sym (ap (λ k. value_after base (take k (x ∷ xs))) one ∙ ap (value_after value) (take-none xs))
    by true e (suc i) within again =
        let full : (n + 1) % 32 ≡ 0 = grind (arith, e) in
        let next : 32 * (n / 32 + suc i + 1) - n ≡ suc (32 * ((n + 1) / 32 + i + 1) - (n + 1)) = omega (arith, full) in
        again i (omega (arith, within)) ∙ sym (ap (λ k. value_after base (take k (x ∷ xs))) next)
    by false e j within again =
        let out : 0 < (n + 1) % 32 = grind (arith, e) in
        let next : 32 * (n / 32 + j + 1) - n ≡ suc (32 * ((n + 1) / 32 + j + 1) - (n + 1)) = omega (arith, out) in
        again j within ∙ sym (ap (λ k. value_after base (take k (x ∷ xs))) next)

-- ---- the first versions, so many

-- what holds at each place holds of each
each-of : {X : Type 0} (P : X → Type 0) (xs : List X) (d : X) → ((k : ℕ) → k < length xs → P (get_or xs k d)) → AllByRecursion P xs
each-of P [] d at = tt
each-of P (x ∷ xs) d at = (at 0 (omega arith), each-of P xs d (λ k within. at (suc k) (omega (arith, within))))

-- and the other way round
each-get : {X : Type 0} (P : X → Type 0) (xs : List X) (k : ℕ) (d : X) → AllByRecursion P xs → k < length xs → P (get_or xs k d)
each-get P [] k d all within = absurd (omega (arith, within))
each-get P (x ∷ xs) zero d all within = all.0
each-get P (x ∷ xs) (suc k) d all within = each-get P xs k d all.1 (omega (arith, within))

-- where the newest of versions in order is up to a number, all are
pub newest-up_to : (n : ℕ) (xs : List Version) (d : Version) → AreInOrder xs → (get_or xs (length xs - 1) d).number ≤ n
    → AllByRecursion (λ version. version.number ≤ n) xs
newest-up_to n xs d order low =
    each-of (λ version. version.number ≤ n) xs d (λ k within.
    let before = order k (length xs - 1) d (omega (arith, within)) (omega (arith, within)) in omega (arith, before, low))

-- the place that halving finds parts versions in order
pub parts-at : (n i : ℕ) (xs : List Version) → IsPartitionPoint (λ version. nat_le version.number n ≡ true) (λ version. nat_le version.number n ≡ false) xs i
    → i ≤ length xs → Parts n i xs
parts-at n zero [] point within = record { within = omega arith; up_to = tt; past = tt }
parts-at n (suc i) [] point within = absurd (omega (arith, within))
parts-at n zero (x ∷ xs) point within = record {
  within = omega arith;
  up_to = tt;
  past =
      each-of (λ version. n < version.number) (x ∷ xs) x (λ k low.
      let out = point.1 k x (omega arith) low in grind (arith, out));
}
parts-at n (suc i) (x ∷ xs) point within =
    let here = point.0 0 x (omega arith) (omega arith) in
    let rest = parts-at n i xs (
      λ k d low high. point.0 (suc k) d (omega arith) (omega (arith, high)),
      λ k d low high. point.1 (suc k) d (omega (arith, low)) (omega (arith, high)),
    ) (omega (arith, within)) in
    record { within = omega (arith, within); up_to = (grind (arith, here), rest.up_to); past = rest.past }

-- they are those up to the number
pub parts-up_to : (n c : ℕ) (xs : List Version) → Parts n c xs → below (λ (x : Version). x.number) n xs ≡ take c xs
parts-up_to n c xs parts =
    ap (below (λ (x : Version). x.number) n) (sym (take-append-drop c xs))
    ∙ filter-append (λ x. nat_le x.number n) (take c xs) (drop c xs)
    ∙ ap (λ l. l ++ below (λ (x : Version). x.number) n (drop c xs)) (below-all (λ (x : Version). x.number) n (take c xs) parts.up_to)
    ∙ ap (λ l. take c xs ++ l) (below-none (λ (x : Version). x.number) n (drop c xs) parts.past)
    ∙ append-nil (take c xs)

-- and the others are past it
pub parts-past : (n c : ℕ) (xs : List Version) → Parts n c xs → past n xs ≡ drop c xs
parts-past n c xs parts =
    ap (past n) (sym (take-append-drop c xs))
    ∙ filter-append (λ x. nat_lt n x.number) (take c xs) (drop c xs)
    ∙ ap (λ l. l ++ past n (drop c xs)) (above-none (λ (x : Version). x.number) n (take c xs) parts.up_to)
    ∙ above-all (λ (x : Version). x.number) n (drop c xs) parts.past

-- and so those are let go that are up to a horizon, and their value stays
pub trimmed-parts : (h c : ℕ) (base : Value) (xs : List Version) → Parts h c xs
    → trimmed_from h base xs ≡ record { base = value_after base (take c xs); later = drop c xs }
trimmed-parts h zero base [] parts = refl
trimmed-parts h (suc c) base [] parts = refl
trimmed-parts h zero base (x ∷ xs) parts = let p = parts.past.0 in let out : nat_le x.number h ≡ false = grind (arith, p) in rw out refl
trimmed-parts h (suc c) base (x ∷ xs) parts =
    let u = parts.up_to.0 in
    let w = parts.within in
    let here : nat_le x.number h ≡ true = grind (arith, u) in
    rw here (trimmed-parts h c (apply x.delta base) xs (record { within = omega (arith, w); up_to = parts.up_to.1; past = parts.past }))

-- where none is up to it, nothing is let go
pub trimmed-none : (h c : ℕ) (base : Value) (xs : List Version) → Parts h c xs → c ≡ 0 → trimmed_from h base xs ≡ record { base = base; later = xs }
trimmed-none h c base [] parts none = refl
trimmed-none h zero base (x ∷ xs) parts none = let p = parts.past.0 in let out : nat_le x.number h ≡ false = grind (arith, p) in rw out refl
trimmed-none h (suc c) base (x ∷ xs) parts none = absurd (omega (arith, none))

-- the newest value stays, or where all went it has become the value before
pub trimmed-newest : (h : ℕ) (base : Value) (later : List Version) → latest (trimmed_from h base later) ≡ value_after base later
trimmed-newest h base [] = refl
trimmed-newest h base (x ∷ rest) = by (nat_le x.number h) (trimmed-newest h (apply x.delta base) rest)
  where
    by : (b : Bool) → latest (trimmed_from h (apply x.delta base) rest) ≡ value_after (apply x.delta base) rest
        → latest (cond b (trimmed_from h (apply x.delta base) rest) (record { base = base; later = x ∷ rest })) ≡ value_after (apply x.delta base) rest
    by true again = again
    by false again = refl

-- ---- a chain

module _ (n : ℕ) (base : Value) (xs : List Version) (whole : List Value) (chain : IsChain n base xs whole) where
  -- up to behind so many versions there is a whole value, where 32 stand behind the last that was let go
  pub whole-within : (c : ℕ) → c ≤ length xs → 32 ≤ n + c → (n + c) / 32 - 1 < length whole
  whole-within c within enough =
      let l = length-wholes n base xs in
      let same = ap length chain.spaced in
      let near = chain.near in
      omega (arith, l, same, near, within, enough)

  -- and it is the last one up to there
  pub whole-before : (c : ℕ) (d : Value) → c ≤ length xs → 32 ≤ n + c
      → get_or whole ((n + c) / 32 - 1) d ≡ value_after base (take (c - (n + c) % 32) xs)
  whole-before c d within enough =
      let l = length-wholes n base xs in
      let near = chain.near in
      let place : 32 * (n / 32 + ((n + c) / 32 - 1) + 1) - n ≡ c - (n + c) % 32 = omega (arith, near, enough) in
      ap (λ w. get_or w ((n + c) / 32 - 1) d) chain.spaced
      ∙ wholes-at n base xs ((n + c) / 32 - 1) d (omega (arith, l, near, within, enough))
      ∙ ap (λ k. value_after base (take k xs)) place

  module _ (c : ℕ) (within : c ≤ length xs) where
    -- those of the first versions, so many, and those of the others
    parted : wholes n base xs ≡ wholes n base (take c xs) ++ wholes (n + c) (value_after base (take c xs)) (drop c xs)
    parted =
        ap (wholes n base) (sym (take-append-drop c xs)) ∙ wholes-append n base (take c xs) (drop c xs)
        ∙ ap (λ m. wholes n base (take c xs) ++ wholes (n + m) (value_after base (take c xs)) (drop c xs)) (length-take-le c xs within)

    -- how many are of the first ones
    first-many : length (wholes n base (take c xs)) ≡ (n + c) / 32
    first-many =
        let l = length-take-le c xs within in
        let near = chain.near in
        length-wholes n base (take c xs) ∙ omega (arith, l, near)

    -- with the first versions alone it is a chain
    pub kept : IsChain n base (take c xs) (take ((n + c) / 32) whole)
    kept = record {
      in_order = IsNonDecreasingBy-take (λ version. version.number) c xs chain.in_order;
      near = chain.near;
      spaced =
          ap (take ((n + c) / 32)) (chain.spaced ∙ parted)
          ∙ ap (λ m. take m (wholes n base (take c xs) ++ wholes (n + c) (value_after base (take c xs)) (drop c xs))) (sym first-many)
          ∙ take-append_seam (wholes n base (take c xs)) (wholes (n + c) (value_after base (take c xs)) (drop c xs));
    }

    -- and so it is without them, behind the value that they leave
    pub begun : IsChain ((n + c) % 32) (value_after base (take c xs)) (drop c xs) (drop ((n + c) / 32) whole)
    begun = record {
      in_order = IsNonDecreasingBy-drop (λ version. version.number) c xs chain.in_order;
      near = omega arith;
      spaced =
          ap (drop ((n + c) / 32)) (chain.spaced ∙ parted)
          ∙ ap (λ m. drop m (wholes n base (take c xs) ++ wholes (n + c) (value_after base (take c xs)) (drop c xs))) (sym first-many)
          ∙ drop-append_seam (wholes n base (take c xs)) (wholes (n + c) (value_after base (take c xs)) (drop c xs))
          ∙ wholes-alike (n + c) ((n + c) % 32) (value_after base (take c xs)) (drop c xs) (omega arith);
    }

  module _ (version : Version) (behind : AllByRecursion (λ v. v.number ≤ version.number) xs) where
    -- with its value whole, where it is a 32nd, it is a chain with one version more
    pub pushed : IsChain n base (xs ++ version ∷ []) (whole ++ whole_at (n + length xs + 1) (apply version.delta (value_after base xs)))
    pushed = record {
      in_order =
          IsNonDecreasingBy-push (λ v. v.number) xs version chain.in_order
          (λ d some. each-get (λ v. v.number ≤ version.number) xs (length xs - 1) d behind (omega (arith, some)));
      near = chain.near;
      spaced =
          ap (λ w. w ++ last) chain.spaced
          ∙ ap (λ w. wholes n base xs ++ w) (sym (append-nil last))
          ∙ sym (wholes-append n base xs (version ∷ []));
    }
      where
        last : List Value
        last = whole_at (n + length xs + 1) (apply version.delta (value_after base xs))
