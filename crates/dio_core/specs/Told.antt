-- What an object tells contracts before and after some calls, or None where it doesn't tell.
use Rattle.std.specs.Prelude.{◌≡◌, ℕ, ◌+◌, Option, Some, None, refl}

-- An object goes on telling or goes on not telling, and what it tells before and after is so related.
abbrev pub WhereTold : {A B : Type 0} → (A → B → Type 0) → Option A → Option B → Type 0
WhereTold R None None = Unit {0}
WhereTold R None (Some new) = ⊥
WhereTold R (Some old) None = ⊥
WhereTold R (Some old) (Some new) = R old new

-- a number that is told goes up by one
WhereTold-example : WhereTold (λ (old new : ℕ). new ≡ old + 1) (Some 2) (Some 3)
WhereTold-example = refl
