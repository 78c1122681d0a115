-- Changes in pieces: segments, of which the first few changes are skipped, and a last piece.
use Rattle.std.specs.Prelude.{◌≡◌, ℕ, ◌≤◌, List, [], ◌∷◌, ◌++◌, length, drop, codes, pos, refl}
use Rattle.std.specs.List.{flat_map}
use Rattle.rdt_types.specs.declared.address.Kind.TheVariants as kind
use Rattle.rdt_types.specs.declared.delta.Delta.TheVariants as delta
use Rattle.change_feed.specs.declared.change.Change.{Change}

-- the changes of segments, one segment behind the other
abbrev pub changes_in : List (List Change) → List Change
changes_in segments = flat_map (λ segment. segment) segments

-- the first segment; where there is none, no changes
abbrev pub first_of : List (List Change) → List Change
first_of [] = []
first_of (segment ∷ segments) = segment

-- what is skipped is all in the first segment; where there is none, nothing is skipped
abbrev pub IsInFirst : ℕ → List (List Change) → Type 0
IsInFirst skipped sealed = skipped ≤ length (first_of sealed)

-- The list that such pieces make: the changes of the segments but for the first few, and then those of the last piece.
abbrev pub in_pieces : ℕ → List (List Change) → List Change → List Change
in_pieces skipped sealed last = drop skipped (changes_in sealed) ++ last

-- ---- worked lines

-- an addition by the commit of a number
abbrev adding : ℕ → Change
adding number = record { number = number; address = record { kind = kind.Counter; key = codes "x" }; delta = delta.AddCounter (pos 1) }

-- two segments without the first change, and a last piece
in_pieces-example : in_pieces 1 ((adding 1 ∷ adding 2 ∷ []) ∷ (adding 3 ∷ []) ∷ []) (adding 4 ∷ []) ≡ adding 2 ∷ adding 3 ∷ adding 4 ∷ []
in_pieces-example = refl

-- no segment: the last piece is all
in_pieces-last : in_pieces 0 [] (adding 4 ∷ []) ≡ adding 4 ∷ []
in_pieces-last = refl
