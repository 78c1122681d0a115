-- What holds of each item of a list: also of those that pass a test, of two lists joined, and of the item at a place.
use Rattle.std.proofs.Common.{◌≡◌, Bool, true, false, cond, ℕ, zero, suc, List, [], ◌∷◌, ◌++◌, filter, Some, slice_get, subst}
use Rattle.std.specs.List.{AllByRecursion}
pub use Rattle.txn_lang.proofs.Each.{each-more, each-take, each-push}

module _ {A : Type 0} where
  -- it holds of those that a filter keeps
  pub each-filter : (P : A → Type 0) (test : A → Bool) (xs : List A) → AllByRecursion P xs → AllByRecursion P (filter test xs)
  each-filter P test [] all = tt
  each-filter P test (x ∷ xs) all = by (each-filter P test xs all.1) (test x)
    where
      by : AllByRecursion P (filter test xs) → (b : Bool) → AllByRecursion P (cond b (x ∷ filter test xs) (filter test xs))
      by rest true = (all.0, rest)
      by rest false = rest

  -- it holds of one list behind another
  pub each-append : (P : A → Type 0) (xs ys : List A) → AllByRecursion P xs → AllByRecursion P ys → AllByRecursion P (xs ++ ys)
  each-append P [] ys first second = second
  each-append P (x ∷ xs) ys first second = (first.0, each-append P xs ys first.1 second)

  -- it holds of the item at a place
  pub each-at : (P : A → Type 0) (xs : List A) (i : ℕ) (x : A) → AllByRecursion P xs → slice_get xs i ≡ Some x → P x
  each-at P [] i x all e = absurd (cc)
  each-at P (y ∷ ys) zero x all e = let same : y ≡ x = cc in subst P same all.0
  each-at P (y ∷ ys) (suc i) x all e = each-at P ys i x all.1 e
