-- What holds of each item of a list.
use Rattle.std.proofs.Common.{ℕ, zero, suc, List, [], ◌∷◌, ◌++◌, take}
use Rattle.std.specs.List.{AllByRecursion}

module _ {A : Type 0} where
  -- what follows for each item follows for all
  pub each-more : (P Q : A → Type 0) (xs : List A) → ((x : A) → P x → Q x) → AllByRecursion P xs → AllByRecursion Q xs
  each-more P Q [] more all = tt
  each-more P Q (x ∷ xs) more all = (more x all.0, each-more P Q xs more all.1)

  -- it holds of the first items too
  pub each-take : (P : A → Type 0) (n : ℕ) (xs : List A) → AllByRecursion P xs → AllByRecursion P (take n xs)
  each-take P zero [] all = tt
  each-take P zero (x ∷ xs) all = tt
  each-take P (suc n) [] all = tt
  each-take P (suc n) (x ∷ xs) all = (all.0, each-take P n xs all.1)

  -- it holds of one item more
  pub each-push : (P : A → Type 0) (xs : List A) (x : A) → AllByRecursion P xs → P x → AllByRecursion P (xs ++ x ∷ [])
  each-push P [] x all holds = (holds, tt)
  each-push P (y ∷ xs) x all holds = (all.0, each-push P xs x all.1 holds)
