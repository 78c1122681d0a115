-- Marks laid over a map: each mark leaves a value at its key, or nothing.
use Rattle.std.specs.Prelude.{List, fold, Option, Some, None}
use Rattle.std.specs.FinMap as map
use Rattle.plain_data.specs.Texts.{Bytes, MapOf, SetOfTexts}

module _ {V : Type 0} where
  -- the map with a value at a key, or with nothing there
  abbrev pub with_at : MapOf V → Bytes → Option V → MapOf V
  with_at m key None = map.remove m key
  with_at m key (Some value) = map.insert m key value

  -- the map after marks in order
  abbrev pub marked_by : {M : Type 0} → (M → Option V) → MapOf V → List (Bytes × M) → MapOf V
  marked_by left under marks = fold (λ m mark. with_at m mark.0 (left mark.1)) under marks

  -- the map under the marks, after each of them; `left` says what a mark leaves at its key
  abbrev pub overlaid : {M : Type 0} → (M → Option V) → MapOf V → MapOf M → MapOf V
  overlaid left under over = marked_by left under (map.entries over)

  -- what is at a key after marks: what its mark leaves, or, where it has none, what was there
  abbrev pub found_after : {M : Type 0} → (M → Option V) → Option M → Option V → Option V
  found_after left None before = before
  found_after left (Some mark) before = left mark

-- the texts of either set
abbrev pub union : SetOfTexts → SetOfTexts → SetOfTexts
union some others = overlaid (λ text. Some text) some others
