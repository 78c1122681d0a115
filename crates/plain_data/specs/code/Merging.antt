-- The pass of the code over both lists of pairs. `merged-is-overlaid` of proofs/Overlays ties it to the rule, `overlaid` of specs/Overlays.
use Rattle.std.specs.Prelude.{List, [], ◌∷◌, ◌++◌, Option, Some, None}
use Rattle.std.specs.Ordering.{match_ordering}
use Rattle.plain_data.specs.Texts.{Bytes, text_cmp}

module _ {V : Type 0} where
  -- the pairs below a key
  unfoldable pub before : Bytes → List (Bytes × V) → List (Bytes × V)
  before key [] = []
  before key (e ∷ es) = match_ordering (text_cmp key e.0) [] [] (e ∷ before key es)

  -- the pairs above a key
  unfoldable pub after : Bytes → List (Bytes × V) → List (Bytes × V)
  after key [] = []
  after key (e ∷ es) = match_ordering (text_cmp key e.0) (e ∷ es) es (after key es)

  -- the pair at a key, where there is one
  unfoldable pub pair_at : Bytes → Option V → List (Bytes × V)
  pair_at key None = []
  pair_at key (Some value) = (key, value) ∷ []

  -- the pairs under the marks, with those that the marks leave in their places
  unfoldable pub merged : {M : Type 0} → (M → Option V) → List (Bytes × V) → List (Bytes × M) → List (Bytes × V)
  merged left under [] = under
  merged left under (mark ∷ marks) = before mark.0 under ++ pair_at mark.0 (left mark.1) ++ merged left (after mark.0 under) marks
