-- Where a list of items stops being what a rule derives.
use Rattle.std.specs.Prelude.{◌≡◌, List, [], ◌∷◌, ◌++◌}
use Rattle.std.specs.List.{All}
use Rattle.predictive_parsing.specs.Rules.{Rule, Whole}

-- something that the rule derives begins with these items
abbrev pub CanGoOn : {I A : Type 0} → (I → Type 0) → Rule I A → List I → Type 0
CanGoOn {I} {A} Possible P before = (rest : List I) × (a : A) × All Possible rest × Whole P (before ++ rest) a

-- nothing that the rule derives has the next item there too, whatever comes then; or, where there is none, ends there
abbrev pub NoFurther : {I A : Type 0} → Rule I A → List I → List I → Type 0
NoFurther {I} {A} P before [] = (a : A) → Whole P before a → ⊥
NoFurther {I} {A} P before (item ∷ rest) = (others : List I) (a : A) → Whole P ((before ++ item ∷ []) ++ others) a → ⊥

-- The items before `rest` go on to something that the rule derives, and no further.
pub record StopsAt {I A : Type 0} (Possible : I → Type 0) (P : Rule I A) (ts rest : List I) : Type 0 where
  pub before : List I
  pub cut : ts ≡ before ++ rest
  pub goes_on : CanGoOn Possible P before
  pub no_further : NoFurther P before rest
