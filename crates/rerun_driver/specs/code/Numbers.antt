-- Numbers in rising order, as the code keeps them. By `among-with` of proofs/Rising a number that is put is there, beside those that
-- were, and by `among-without` the others stay where one is taken out; `first-place` of proofs/Rolls ties the place of the first stale
-- number to that of the first stale watch.
use Rattle.std.specs.Prelude.{◌≡◌, ℕ, ◌<◌, Bool, List, [], ◌∷◌, Option, Some, None, option_map, if◌then◌else◌, nat_eq, nat_lt, suc, refl}
use Rattle.std.specs.List.{list_any, AllByRecursion}

-- numbers, and for how many there is room
abbrev pub Roomy : Type 0
Roomy = List ℕ × ℕ

-- each is below those behind it
abbrev pub IsRising : List ℕ → Type 0
IsRising [] = Unit {0}
IsRising (m ∷ ms) = AllByRecursion (λ k. m < k) ms × IsRising ms

-- whether a number is there
abbrev pub is_among : List ℕ → ℕ → Bool
is_among ms n = list_any (λ m. nat_eq m n) ms

-- its place, if it is there
abbrev pub place_in : List ℕ → ℕ → Option ℕ
place_in [] n = None
place_in (m ∷ ms) n = if nat_eq m n then Some 0 else option_map suc (place_in ms n)

-- a number more, in front of the first that is above it; nothing more where it is there
abbrev pub with_number : List ℕ → ℕ → List ℕ
with_number [] n = n ∷ []
with_number (m ∷ ms) n = if nat_eq m n then m ∷ ms else (if nat_lt m n then m ∷ with_number ms n else n ∷ m ∷ ms)

-- without it
abbrev pub without_number : List ℕ → ℕ → List ℕ
without_number [] n = []
without_number (m ∷ ms) n = if nat_eq m n then ms else m ∷ without_number ms n

-- ---- worked

-- a number goes between those below and those above it
with_number-example : with_number (2 ∷ 5 ∷ []) 4 ≡ 2 ∷ 4 ∷ 5 ∷ []
with_number-example = refl

-- and is taken out from there
without_number-example : without_number (2 ∷ 4 ∷ 5 ∷ []) 4 ≡ 2 ∷ 5 ∷ []
without_number-example = refl
