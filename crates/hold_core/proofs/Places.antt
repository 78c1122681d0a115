-- What stands somewhere in a list: of a list that is longer by one, of two that are joined, and of those that pass a test.
use Rattle.std.proofs.Common.{◌≡◌, ℕ, ◌<◌, ◌⊎◌, inl, inr, zero, suc, Bool, true, false, cond, List, [], ◌∷◌, ◌++◌, filter, length}
use Rattle.std.proofs.Common.{Some, slice_get, refl, ap, subst, arith}
use Rattle.std.specs.List.{AllByRecursion}
use Rattle.journal_core.proofs.Each.{each-at}

-- the list has the item, at some place
pub record Has {A : Type 0} (xs : List A) (x : A) : Type 0 where
  pub place : ℕ
  pub at : slice_get xs place ≡ Some x

module _ {A : Type 0} where
  -- the first item is there
  pub has-first : (x : A) (xs : List A) → Has (x ∷ xs) x
  has-first x xs = record { place = zero; at = refl }

  -- what is there is so behind a further item
  pub has-later : (x y : A) (xs : List A) → Has xs x → Has (y ∷ xs) x
  has-later x y xs has = record { place = suc has.place; at = has.at }

  -- what is there is the first, or one of the others
  pub has-cases : (x y : A) (xs : List A) → Has (y ∷ xs) x → (y ≡ x) ⊎ Has xs x
  has-cases x y xs has = by has.place has.at
    where
      by : (place : ℕ) → slice_get (y ∷ xs) place ≡ Some x → (y ≡ x) ⊎ Has xs x
      by zero e = inl (cc)
      by (suc place) e = inr (record { place = place; at = e })

  -- nothing is in an empty list
  pub has-none : (x : A) → Has [] x → ⊥
  has-none x has = let e = has.at in absurd (cc)

  -- what is in the first of two lists is in both
  pub has-left : (x : A) (xs ys : List A) → Has xs x → Has (xs ++ ys) x
  has-left x [] ys has = absurd (has-none x has)
  has-left x (y ∷ xs) ys has = by (has-left x xs ys) (has-cases x y xs has)
    where
      by : (Has xs x → Has (xs ++ ys) x) → (y ≡ x) ⊎ Has xs x → Has (y ∷ (xs ++ ys)) x
      by behind (inl same) = subst (λ z. Has (y ∷ (xs ++ ys)) z) same (has-first y (xs ++ ys))
      by behind (inr has) = has-later x y (xs ++ ys) (behind has)

  -- and so is what is in the second
  pub has-right : (x : A) (xs ys : List A) → Has ys x → Has (xs ++ ys) x
  has-right x [] ys has = has
  has-right x (y ∷ xs) ys has = has-later x y (xs ++ ys) (has-right x xs ys has)

  -- what is in both is in one of them
  pub has-either : (x : A) (xs ys : List A) → Has (xs ++ ys) x → Has xs x ⊎ Has ys x
  has-either x [] ys has = inr has
  has-either x (y ∷ xs) ys has = by (has-either x xs ys) (has-cases x y (xs ++ ys) has)
    where
      later : Has xs x ⊎ Has ys x → Has (y ∷ xs) x ⊎ Has ys x
      later (inl has) = inl (has-later x y xs has)
      later (inr has) = inr has

      by : (Has (xs ++ ys) x → Has xs x ⊎ Has ys x) → (y ≡ x) ⊎ Has (xs ++ ys) x → Has (y ∷ xs) x ⊎ Has ys x
      by behind (inl same) = inl (subst (λ z. Has (y ∷ xs) z) same (has-first y xs))
      by behind (inr has) = later (behind has)

  -- what passes a test is kept
  pub has-kept : (test : A → Bool) (x : A) (xs : List A) → Has xs x → test x ≡ true → Has (filter test xs) x
  has-kept test x [] has passes = has
  has-kept test x (y ∷ xs) has passes = by (λ has. has-kept test x xs has passes) (has-cases x y xs has) (test y) refl
    where
      by : (Has xs x → Has (filter test xs) x) → (y ≡ x) ⊎ Has xs x → (b : Bool) → test y ≡ b → Has (cond b (y ∷ filter test xs) (filter test xs)) x
      by behind (inl same) true is = subst (Has (y ∷ filter test xs)) same (has-first y (filter test xs))
      by behind (inl same) false is = let also = ap test same in absurd (cc)
      by behind (inr has) true is = has-later x y (filter test xs) (behind has)
      by behind (inr has) false is = behind has

  -- what is kept was there, and passes the test
  pub has-passed : (test : A → Bool) (x : A) (xs : List A) → Has (filter test xs) x → Has xs x × (test x ≡ true)
  has-passed test x [] has = absurd (has-none x has)
  has-passed test x (y ∷ xs) has = by (has-passed test x xs) (test y) refl has
    where
      first : test y ≡ true → (Has (filter test xs) x → Has xs x × (test x ≡ true)) → (y ≡ x) ⊎ Has (filter test xs) x
          → Has (y ∷ xs) x × (test x ≡ true)
      first passes behind (inl same) = (subst (λ z. Has (y ∷ xs) z) same (has-first y xs), subst (λ z. test z ≡ true) same passes)
      first passes behind (inr has) = let rest = behind has in (has-later x y xs rest.0, rest.1)

      by : (Has (filter test xs) x → Has xs x × (test x ≡ true)) → (b : Bool) → test y ≡ b
          → Has (cond b (y ∷ filter test xs) (filter test xs)) x → Has (y ∷ xs) x × (test x ≡ true)
      by behind true passes has = first passes behind (has-cases x y (filter test xs) has)
      by behind false fails has = let rest = behind has in (has-later x y xs rest.0, rest.1)

  -- what holds of each holds of what is there
  pub each-has : (P : A → Type 0) (x : A) (xs : List A) → AllByRecursion P xs → Has xs x → P x
  each-has P x xs all has = each-at P xs has.place x all has.at

  -- what holds of both lists holds of each
  pub each-parts : (P : A → Type 0) (xs ys : List A) → AllByRecursion P (xs ++ ys) → AllByRecursion P xs × AllByRecursion P ys
  each-parts P [] ys all = (tt, all)
  each-parts P (x ∷ xs) ys all = let rest = each-parts P xs ys all.1 in ((all.0, rest.0), rest.1)

  -- at a place within the first of two lists stands what stood there
  pub at-within : (xs ys : List A) (i : ℕ) → i < length xs → slice_get (xs ++ ys) i ≡ slice_get xs i
  at-within [] ys i within = absurd (omega arith)
  at-within (x ∷ xs) ys zero within = refl
  at-within (x ∷ xs) ys (suc i) within = at-within xs ys i (omega arith)

  -- and behind a list stands the next item
  pub at-end : (xs : List A) (x : A) → slice_get (xs ++ x ∷ []) (length xs) ≡ Some x
  at-end [] x = refl
  at-end (y ∷ xs) x = at-end xs x
