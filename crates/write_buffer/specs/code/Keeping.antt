-- Marks over keys alone. The lemma `keys-applied` of proofs/KeySets ties them to the keys of a set or hash after its marks.
use Rattle.std.specs.Prelude.{Option, is_some}
use Rattle.rdt_types.specs.Marks.{added}

-- a mark keeps its key where it leaves something there, and else takes it away
abbrev pub keeping : {M V : Type 0} → (M → Option V) → M → Option (Unit {0})
keeping left mark = added (is_some (left mark))
