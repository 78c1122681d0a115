-- The one form of the lines of this crate.
use Rattle.std.specs.Prelude.{◌≡◌, List, map}

-- A table of a function: what it makes of the left side of each row stands on the right.
abbrev pub Holds : {A B : Type 0} → (A → B) → List (A × B) → Type 0
Holds f rows = map (λ row. f row.0) rows ≡ map (λ row. row.1) rows
