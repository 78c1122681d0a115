-- What holds of each item of a list: by an index, by rows and columns, and where a test passes.
use Rattle.std.proofs.Common.{◌≡◌, Bool, true, false, cond, List, [], ◌∷◌, filter, refl}
use Rattle.std.specs.List.{AllByRecursion}
pub use Rattle.journal_core.proofs.Each.{each-more, each-take, each-filter, each-append, each-at, each-push}

module _ {A : Type 0} where
  -- what holds by each index of each item holds of each item by each index
  pub each-index : {I : Type 0} (P : I → A → Type 0) (xs : List A) → ((i : I) → AllByRecursion (P i) xs) → AllByRecursion (λ x. (i : I) → P i x) xs
  each-index P [] all = tt
  each-index P (x ∷ xs) all = (λ i. (all i).0, each-index P xs (λ i. (all i).1))

  -- what holds of each item that a filter keeps holds of each that passes its test
  pub each-passing : (P : A → Type 0) (test : A → Bool) (xs : List A) → AllByRecursion P (filter test xs) → AllByRecursion (λ x. test x ≡ true → P x) xs
  each-passing P test [] all = tt
  each-passing P test (x ∷ xs) all = by (each-passing P test xs) (test x) refl all
    where
      by : (AllByRecursion P (filter test xs) → AllByRecursion (λ x. test x ≡ true → P x) xs) → (b : Bool) → test x ≡ b
          → AllByRecursion P (cond b (x ∷ filter test xs) (filter test xs)) → (test x ≡ true → P x) × AllByRecursion (λ x. test x ≡ true → P x) xs
      by rest true e all = (λ h. all.0, rest all.1)
      by rest false e all = (λ h. absurd (cc), rest all)

-- a table that holds row by row holds column by column
pub each-column : {A B : Type 0} (R : A → B → Type 0) (xs : List A) (ys : List B) → AllByRecursion (λ y. AllByRecursion (λ x. R x y) xs) ys
    → AllByRecursion (λ x. AllByRecursion (R x) ys) xs
each-column R [] ys all = tt
each-column {A} {B} R (x ∷ xs) ys all = (
  each-more (λ y. R x y × AllByRecursion (λ x. R x y) xs) (R x) ys (λ y h. h.0) all,
  each-column R xs ys (each-more (λ y. R x y × AllByRecursion (λ x. R x y) xs) (λ y. AllByRecursion (λ x. R x y) xs) ys (λ y h. h.1) all),
)
