-- The column at which items stop being what a rule derives: items are counted from 1.
use Rattle.std.specs.Prelude.{◌≡◌, ℕ, ◌+◌, List, length}
use Rattle.predictive_parsing.specs.Rules.{Rule, Whole}
use Rattle.predictive_parsing.specs.Stops.{StopsAt}

-- The items before the column go on to something that the rule derives. With the item at the column nothing of it begins,
-- whatever comes then; or the column is the one behind the last item, and the rule does not derive the items.
pub record IsColumn {I A : Type 0} (Possible : I → Type 0) (P : Rule I A) (ts : List I) (column : ℕ) : Type 0 where
  pub rest : List I
  pub stops : StopsAt Possible P ts rest
  pub place : column ≡ length stops.before + 1

-- items have one value at most
abbrev pub OneValue : {I A : Type 0} → Rule I A → Type 0
OneValue {I} {A} P = (ts : List I) (a b : A) → Whole P ts a → Whole P ts b → a ≡ b

-- items that have a column have no value
abbrev pub NoSpelling : {I A : Type 0} → (I → Type 0) → Rule I A → Type 0
NoSpelling {I} {A} Possible P = (ts : List I) (column : ℕ) (a : A) → IsColumn Possible P ts column → Whole P ts a → ⊥

-- items have one column at most
abbrev pub OneColumn : {I A : Type 0} → (I → Type 0) → Rule I A → Type 0
OneColumn {I} {A} Possible P = (ts : List I) (c d : ℕ) → IsColumn Possible P ts c → IsColumn Possible P ts d → c ≡ d
