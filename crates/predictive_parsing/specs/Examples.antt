-- Lists of numbers: ones, closed by a two. They show what the words of rules and readers mean.
use Rattle.std.specs.Prelude.{◌≡◌, ℕ, ◌==◌, if◌then◌else◌, List, [], ◌∷◌, Option, Some, None, Ok, Err, refl}
use Rattle.predictive_parsing.specs.Reading.{Reader, ◌>>=◌, pure, begins, one, turns, many, optional, whole}

abbrev only : ℕ → ℕ → Option ℕ
only wanted n = if n == wanted then Some n else None

-- { 1 } 2
unfoldable ones_closed : Reader ℕ (List ℕ)
ones_closed = do
  ones ← many (begins (only 1)) (one (only 1))
  _ ← one (only 2)
  pure ones

-- all is read
reads_all : whole ones_closed (1 ∷ 1 ∷ 2 ∷ []) ≡ Ok (1 ∷ 1 ∷ [])
unfolding whole ones_closed many turns one
reads_all = refl

-- refused at the first item that can't stand there, at the first item that is left, and at the end
refuses_item : whole ones_closed (1 ∷ 3 ∷ 2 ∷ []) ≡ Err (3 ∷ 2 ∷ [])
unfolding whole ones_closed many turns one
refuses_item = refl

refuses_rest : whole ones_closed (2 ∷ 2 ∷ []) ≡ Err (2 ∷ [])
unfolding whole ones_closed many turns one
refuses_rest = refl

refuses_end : whole ones_closed (1 ∷ []) ≡ Err []
unfolding whole ones_closed many turns one
refuses_end = refl

-- an optional item is taken where it stands
takes_optional : optional (begins (only 1)) (one (only 1)) (1 ∷ 2 ∷ []) ≡ Ok (Some 1, 2 ∷ [])
unfolding optional one
takes_optional = refl

leaves_optional : optional (begins (only 1)) (one (only 1)) (2 ∷ []) ≡ Ok (None, 2 ∷ [])
unfolding optional one
leaves_optional = refl
