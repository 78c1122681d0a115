use Rattle.std.proofs.Common.{Option, is_some, List, [], ◌∷◌, map, codes, ap}
use Rattle.std.specs.Option.{unwrap_or}
use Rattle.plain_data.specs.Texts.{Bytes}
use Rattle.rdt_types.specs.declared.outcome.Item.{Item}
use Rattle.rdt_types.specs.declared.outcome.Item.TheVariants as item
use Rattle.language_lines.proofs.Maps.{get-none, get-one, get-two, get-removed, entries-two, entries-three}
use Rattle.language_lines.proofs.answers.reads_answer.Goals as goal

-- whether an element is found, or a field
element : Option (Unit {0}) → Item
element found = item.Bool (is_some found)

field : Option Bytes → Item
field found = item.Bool (is_some found)

-- the text at a field
text : Option Bytes → Item
text found = item.Text (unwrap_or found [])

-- all elements, or all fields
elements : List (Bytes × Unit {0}) → Item
elements pairs = item.Texts (map (λ e. e.0) pairs)

fields : List (Bytes × Bytes) → Item
fields pairs = item.Texts (map (λ e. e.0) pairs)

pub returns-clause-sets : goal.returns-clause-sets
unfolding element elements
returns-clause-sets c =
    λ i. ap element (get-none (codes "a")) i
    ∷ ap element (get-one (codes "a") tt (codes "a")) i
    ∷ ap element (get-one (codes "a") tt (codes "b")) i
    ∷ ap element (get-removed (codes "a") tt (codes "a")) i
    ∷ ap element (get-none (codes "a")) i
    ∷ ap elements (entries-three (codes "b") tt (codes "a") tt (codes "b") tt) i
    ∷ []

pub returns-clause-hashes : goal.returns-clause-hashes
unfolding field text fields
returns-clause-hashes c =
    λ i. ap text (get-none (codes "f")) i
    ∷ ap text (get-one (codes "f") (codes "a") (codes "f")) i
    ∷ ap text (get-one (codes "f") (codes "a") (codes "g")) i
    ∷ ap text (get-two (codes "f") (codes "a") (codes "f") (codes "b") (codes "f")) i
    ∷ ap field (get-one (codes "f") [] (codes "f")) i
    ∷ ap field (get-one (codes "f") [] (codes "g")) i
    ∷ ap field (get-removed (codes "f") [] (codes "f")) i
    ∷ ap field (get-none (codes "f")) i
    ∷ ap fields (entries-two (codes "g") [] (codes "f") []) i
    ∷ []
