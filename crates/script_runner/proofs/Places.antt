-- Places of a list, and numbers that are the same or not.
use Rattle.std.proofs.Common.{◌≡◌, ◌≢◌, ℕ, zero, suc, Bool, true, false, List, [], ◌∷◌, ◌++◌, length, get_or, set, ◌⊎◌, inl, inr, refl, ap, arith}
use Rattle.std.specs.Prelude.{◌==◌}
use Rattle.std.proofs.lemmas.Bool.Decides.{nat_tests}

-- what was set at a place stands there, where the list has it
pub set-here : {A : Type 0} (P : A → Type 0) (xs : List A) (i : ℕ) (v d : A) → P v → P d → P (get_or (set xs i v) i d)
set-here P [] i v d new none = none
set-here P (x ∷ xs) zero v d new none = new
set-here P (x ∷ xs) (suc i) v d new none = set-here P xs i v d new none

-- at any other place nothing has changed
pub set-elsewhere : {A : Type 0} (xs : List A) (i j : ℕ) (v d : A) → j ≢ i → get_or (set xs i v) j d ≡ get_or xs j d
set-elsewhere [] i j v d apart = refl
set-elsewhere (x ∷ xs) zero zero v d apart = absurd (apart refl)
set-elsewhere (x ∷ xs) zero (suc j) v d apart = refl
set-elsewhere (x ∷ xs) (suc i) zero v d apart = refl
set-elsewhere (x ∷ xs) (suc i) (suc j) v d apart = set-elsewhere xs i j v d (λ e. apart (ap suc e))

-- with one item more each place has what it had, or that item where the list ended
pub at-end : {A : Type 0} (xs : List A) (v d : A) (j : ℕ)
    → (get_or (xs ++ v ∷ []) j d ≡ get_or xs j d) ⊎ ((j ≡ length xs) × (get_or (xs ++ v ∷ []) j d ≡ v))
at-end [] v d zero = inr (refl, refl)
at-end [] v d (suc j) = inl refl
at-end (x ∷ xs) v d zero = inl refl
at-end (x ∷ xs) v d (suc j) = by (at-end xs v d j)
  where
    by : (get_or (xs ++ v ∷ []) j d ≡ get_or xs j d) ⊎ ((j ≡ length xs) × (get_or (xs ++ v ∷ []) j d ≡ v))
        → (get_or (xs ++ v ∷ []) j d ≡ get_or xs j d) ⊎ ((suc j ≡ suc (length xs)) × (get_or (xs ++ v ∷ []) j d ≡ v))
    by (inl same) = inl same
    by (inr last) = inr (ap suc last.0, last.1)

-- two numbers are the same or not
pub same-or-not : (i j : ℕ) → (i ≡ j) ⊎ (i ≢ j)
same-or-not i j = by (i == j) refl
  where
    by : (b : Bool) → (i == j) ≡ b → (i ≡ j) ⊎ (i ≢ j)
    by true e = inl (let same : i ≡ j = grind (arith, nat_tests) in same)
    by false e = inr (λ same. let no : ⊥ = grind (arith, nat_tests) in no)
