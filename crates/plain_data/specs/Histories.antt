-- Lists that only grow: each item may follow those before it, and names an author.
use Rattle.std.specs.Prelude.{◌≡◌, ◌==◌, ℕ, List, [], ◌∷◌, ◌++◌, length, filter, refl}

module _ {E : Type 0} (names : E → ℕ) where
  -- the items that name this number, in their order
  abbrev pub own : ℕ → List E → List E
  own number items = filter (λ e. names e == number) items

-- two of three items name the author 7
own-example : own (λ (e : ℕ). e) 7 (7 ∷ 3 ∷ 7 ∷ []) ≡ 7 ∷ 7 ∷ []
own-example = refl

-- The number `base` is handed to each test: how many items are taken on trust.
module _ {E : Type 0} (may_follow : ℕ → List E → E → Type 0) (base : ℕ) where
  -- each of these items may follow the list before it, which begins with `before`
  abbrev pub IsLawfulAfter : List E → List E → Type 0
  IsLawfulAfter before [] = Unit {0}
  IsLawfulAfter before (e ∷ es) = may_follow base before e × IsLawfulAfter (before ++ e ∷ []) es

  -- each item may follow those before it
  abbrev pub IsLawful : List E → Type 0
  IsLawful items = IsLawfulAfter [] items

-- where each item has to be the length of the list before it, 0, 1, 2 is lawful
IsLawful-example : IsLawful (λ base before e. e ≡ length before) 0 (0 ∷ 1 ∷ 2 ∷ [])
IsLawful-example = (refl, (refl, (refl, tt)))
