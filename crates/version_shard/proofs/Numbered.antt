-- Lists that are cut by numbers.
use Rattle.std.proofs.Common.{◌≡◌, ℕ, ◌<◌, ◌≤◌, Bool, true, false, cond, nat_lt, nat_le, List, [], ◌∷◌, filter, refl, sym, ap, ◌∙◌, arith}
use Rattle.std.specs.List.{AllByRecursion}

module _ {X : Type 0} (number : X → ℕ) where
  -- what is numbered up to a number
  abbrev pub below : ℕ → List X → List X
  below n xs = filter (λ x. nat_le (number x) n) xs

  -- what is numbered past it
  abbrev pub above : ℕ → List X → List X
  above n xs = filter (λ x. nat_lt n (number x)) xs

  -- cut twice is cut at the lesser number
  pub below-lesser : (m n : ℕ) (xs : List X) → m ≤ n → below m (below n xs) ≡ below m xs
  below-lesser m n [] within = refl
  below-lesser m n (x ∷ xs) within = by (nat_le (number x) n) refl (below-lesser m n xs within)
    where
      by : (b : Bool) → nat_le (number x) n ≡ b → below m (below n xs) ≡ below m xs → below m (cond b (x ∷ below n xs) (below n xs)) ≡ below m (x ∷ xs)
      by true e rest = ap (λ l. cond (nat_le (number x) m) (x ∷ l) l) rest
      by false e rest = let out : nat_le (number x) m ≡ false = grind (arith, within, e) in rest ∙ sym (rw out refl)

  -- and cut at a greater number afterwards, it stays as it is
  pub below-greater : (m n : ℕ) (xs : List X) → m ≤ n → below n (below m xs) ≡ below m xs
  below-greater m n [] within = refl
  below-greater m n (x ∷ xs) within = by (nat_le (number x) m) refl (below-greater m n xs within)
    where
      by : (b : Bool) → nat_le (number x) m ≡ b → below n (below m xs) ≡ below m xs
          → below n (cond b (x ∷ below m xs) (below m xs)) ≡ cond b (x ∷ below m xs) (below m xs)
      by true e rest = let in_it : nat_le (number x) n ≡ true = grind (arith, within, e) in rw in_it (ap (λ l. x ∷ l) rest)
      by false e rest = rest

  -- what is up to a number is all
  pub below-all : (n : ℕ) (xs : List X) → AllByRecursion (λ x. number x ≤ n) xs → below n xs ≡ xs
  below-all n [] all = refl
  below-all n (x ∷ xs) all = let here : nat_le (number x) n ≡ true = (let h = all.0 in grind (arith, h)) in rw here (ap (λ l. x ∷ l) (below-all n xs all.1))

  -- and nothing of what is past it
  pub below-none : (n : ℕ) (xs : List X) → AllByRecursion (λ x. n < number x) xs → below n xs ≡ []
  below-none n [] all = refl
  below-none n (x ∷ xs) all = let out : nat_le (number x) n ≡ false = (let h = all.0 in grind (arith, h)) in rw out (below-none n xs all.1)

  -- what passes is up to the number
  pub all-below : (n : ℕ) (xs : List X) → AllByRecursion (λ x. number x ≤ n) (below n xs)
  all-below n [] = tt
  all-below n (x ∷ xs) = by (nat_le (number x) n) refl (all-below n xs)
    where
      by : (b : Bool) → nat_le (number x) n ≡ b → AllByRecursion (λ x. number x ≤ n) (below n xs)
          → AllByRecursion (λ x. number x ≤ n) (cond b (x ∷ below n xs) (below n xs))
      by true e rest = (grind (arith, e), rest)
      by false e rest = rest

  -- what is past a number is all that is past it
  pub above-all : (n : ℕ) (xs : List X) → AllByRecursion (λ x. n < number x) xs → above n xs ≡ xs
  above-all n [] all = refl
  above-all n (x ∷ xs) all = let here : nat_lt n (number x) ≡ true = (let h = all.0 in grind (arith, h)) in rw here (ap (λ l. x ∷ l) (above-all n xs all.1))

  -- and nothing of what is up to it
  pub above-none : (n : ℕ) (xs : List X) → AllByRecursion (λ x. number x ≤ n) xs → above n xs ≡ []
  above-none n [] all = refl
  above-none n (x ∷ xs) all = let out : nat_lt n (number x) ≡ false = (let h = all.0 in grind (arith, h)) in rw out (above-none n xs all.1)
