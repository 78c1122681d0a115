-- Lists of changes in the order of their commits, in which a number is found by halving. `changes-rise` of proofs/Rising says
-- that the `changes` of a journal (specs/Changes) are one.
use Rattle.std.specs.Prelude.{ℕ, ◌≤◌, List, [], ◌∷◌}
use Rattle.change_feed.specs.declared.change.Change.{Change}

-- the numbers don't fall, from a number on
abbrev pub Rises : ℕ → List Change → Type 0
Rises from [] = Unit {0}
Rises from (change ∷ rest) = (from ≤ change.number) × Rises change.number rest
