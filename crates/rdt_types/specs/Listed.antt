-- Deltas of lists: whether all is cleared, which texts are taken out, and what is pushed then.
use Rattle.std.specs.Prelude.{Bool, true, false, not, ◌||◌, if◌then◌else◌, List, [], ◌∷◌, ◌++◌, length, nat_eq, refl}
use Rattle.std.specs.List.{filter}
use Rattle.std.specs.FinMap as map
use Rattle.std.specs.Coded.{Coded, code_by, coded×, coded_bool, coded_list, coded_ℕ}
use base.Stored.{coded_unit}
use Rattle.plain_data.specs.Texts.{Bytes, SetOfTexts, with_text, has_text}
use Rattle.plain_data.specs.Overlays.{union}

-- whether what was there is cleared; the texts of which every equal item is taken out; and the items pushed at the end
pub record Listed : Type 0 where
  pub cleared : Bool
  pub removed : SetOfTexts
  pub pushed : List Bytes

-- it is stored as the tuple of its fields
abbrev pub listed_code : Coded Listed
listed_code =
    code_by (Bool × (SetOfTexts × List Bytes)) (coded× coded_bool (coded× (map.code (coded_list coded_ℕ) coded_unit) (coded_list (coded_list coded_ℕ))))
    (λ d. (d.cleared, (d.removed, d.pushed))) (λ p. record { cleared = p.0; removed = p.1.0; pushed = p.1.1 }) (λ _. refl)

-- the three parts
abbrev pub of_parts : Bool → SetOfTexts → List Bytes → Listed
of_parts cleared removed pushed = record { cleared = cleared; removed = removed; pushed = pushed }

-- the items without those that are equal to a text of some
abbrev pub without : SetOfTexts → List Bytes → List Bytes
without removed items = filter (λ item. not (has_text removed item)) items

-- one item pushed
abbrev pub pushing : Bytes → Listed
pushing item = record { cleared = false; removed = map.empty; pushed = item ∷ [] }

-- every item equal to a text taken out
abbrev pub removing : Bytes → Listed
removing text = record { cleared = false; removed = with_text map.empty text; pushed = [] }

-- all is cleared
abbrev pub clearing : Listed
clearing = record { cleared = true; removed = map.empty; pushed = [] }

-- The form of these deltas: where all is cleared nothing is taken out besides, and else something is taken out or
-- pushed. So none is wholly empty.
abbrev pub has_form : Listed → Bool
has_form d = if d.cleared then nat_eq (map.len d.removed) 0 else (not (nat_eq (map.len d.removed) 0) || not (nat_eq (length d.pushed) 0))

-- the list after a delta: what it leaves of the items, and behind them what it pushes
abbrev pub applied : Listed → List Bytes → List Bytes
applied d items = (if d.cleared then [] else without d.removed items) ++ d.pushed

-- The first delta and then the second: the second alone where it clears; else both take out, also from what the first
-- pushed, and both push.
abbrev pub composed : Listed → Listed → Listed
composed d e =
    if e.cleared then e else
    (record { cleared = d.cleared; removed = if d.cleared then map.empty else union d.removed e.removed; pushed = without e.removed d.pushed ++ e.pushed })
