-- Texts as keys: their order, and the finite sets and maps of texts.
use Rattle.std.specs.Prelude.{ℕ, Bool, List}
use Rattle.std.specs.declared.cmp.Ordering.{Ordering}
use Rattle.std.specs.Ordering.{nat_cmp}
use Rattle.std.specs.Cmp.Lexicographic.{slice_cmp}
use Rattle.std.specs.FinMap.{FinMap}
use Rattle.std.specs.FinMap as map

-- a text, by its bytes
abbrev pub Bytes : Type 0
Bytes = List ℕ

-- texts are ordered by their bytes, a prefix before what it begins
abbrev pub text_cmp : Bytes → Bytes → Ordering
text_cmp = slice_cmp nat_cmp

-- a value for each of some texts
abbrev pub MapOf : Type 0 → Type 0
MapOf V = FinMap text_cmp V

-- some texts: nothing more is kept of each
abbrev pub SetOfTexts : Type 0
SetOfTexts = MapOf (Unit {0})

-- a set with a text more, one without it, and whether it is there
abbrev pub with_text : SetOfTexts → Bytes → SetOfTexts
with_text texts text = map.insert texts text tt

-- a set without a text
abbrev pub without_text : SetOfTexts → Bytes → SetOfTexts
without_text texts text = map.remove texts text

-- whether a text is in a set
abbrev pub has_text : SetOfTexts → Bytes → Bool
has_text texts text = map.contains_key texts text
