-- What a function of a reader's code ensures.
use Rattle.std.specs.Prelude.{◌≡◌, ◌≢◌, List, [], ◌∷◌, Option, None, Result, Ok, Err, IfErr}
use Rattle.plain_data.specs.declared.or_no_memory.OrNoMemory.{OrNoMemory}
use Rattle.plain_data.specs.declared.or_no_memory.OrNoMemory.TheVariants.{NoMemory}
use Rattle.predictive_parsing.specs.declared.refused.Refused.{Refused}
use Rattle.predictive_parsing.specs.Reading.{Outcome}

-- The outcome is the reader's, and the items left are those behind what was read, or those from the refused one on;
-- where memory runs out nothing is said.
abbrev pub Reads : {I A : Type 0} → Outcome I A → Result A (OrNoMemory Refused) → List I → Type 0
Reads outcome (Ok a) left = outcome ≡ Ok (a, left)
Reads outcome (Err stop) left = stop ≢ NoMemory → outcome ≡ Err left

-- Where it doesn't read it refuses: a reader that takes no memory never answers want of it.
abbrev pub OnlyRefuses : {A : Type 0} → Result A (OrNoMemory Refused) → Type 0
OnlyRefuses result = IfErr result (λ stop. stop ≢ NoMemory)

-- what f makes of the first of these items
abbrev pub made_of : {I A : Type 0} → (I → Option A) → List I → Option A
made_of f [] = None
made_of f (item ∷ ts) = f item

-- The function that is called computes f: whatever it may answer at an item is what f gives.
abbrev pub Computes : {I A : Type 0} → (I → A → Type 0) → (I → A) → Type 0
Computes {I} {A} returns f = (item : I) (a : A) → returns item a → a ≡ f item
