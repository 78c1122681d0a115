-- What stands at the front of a list of items, as relations: nothing here chooses, looks ahead or counts. A rule is
-- written in the notation of `do`, in the order of the grammar.
use Rattle.std.specs.Prelude.{◌≡◌, ◌⊎◌, ℕ, ◌≤◌, length, Bool, List, [], ◌∷◌, ◌++◌, Option, Some, None}
use Rattle.std.specs.List.{AllPass}

-- A rule: `P ts a us` says that the items ts are those of the value a, and then us.
abbrev pub Rule : Type 0 → Type 0 → Type 1
Rule I A = List I → A → List I → Type 0

-- one item, of which f makes the value
pub record One {I A : Type 0} (f : I → Option A) (ts : List I) (a : A) (us : List I) : Type 0 where
  pub item : I
  pub first : ts ≡ item ∷ us
  pub made : f item ≡ Some a

-- one thing, and then another
pub record Then {I A B : Type 0} (P : Rule I A) (Q : A → Rule I B) (ts : List I) (b : B) (vs : List I) : Type 0 where
  pub value : A
  pub middle : List I
  pub first : P ts value middle
  pub second : Q value middle b vs

-- no item at all, which stands for this value
pub record Pure {I A : Type 0} (value : A) (ts : List I) (a : A) (us : List I) : Type 0 where
  pub is : a ≡ value
  pub here : ts ≡ us

infixl 10 ◌>>=◌
abbrev pub ◌>>=◌ : {I A B : Type 0} → Rule I A → (A → Rule I B) → Rule I B
P >>= Q = Then P Q

-- the one or the other
abbrev pub Or : {I A : Type 0} → Rule I A → Rule I A → Rule I A
Or P Q ts a us = P ts a us ⊎ Q ts a us

-- any number of them, one after another
pub data Many {I A : Type 0} (P : Rule I A) : List I → List A → List I → Type 0 where
  none : (ts : List I) → Many P ts [] ts
  more : (ts us vs : List I) (a : A) (rest : List A) → P ts a us → Many P us rest vs → Many P ts (a ∷ rest) vs

-- one, and any number of others
abbrev pub ListOf : {I A B : Type 0} → Rule I A → Rule I B → Rule I (A × List B)
ListOf P Q = do
  a ← P
  rest ← Many Q
  Pure (a, rest)

-- one or none
abbrev pub Optional : {I A : Type 0} → Rule I A → Rule I (Option A)
Optional P = Or (do a ← P; Pure (Some a)) (Pure None)

-- these items
abbrev pub Word : {I : Type 0} → List I → Rule I (Unit {0})
Word word ts _ us = ts ≡ word ++ us

-- the items that f gives for the value
abbrev pub SpelledBy : {I A : Type 0} → (A → List I) → Rule I A
SpelledBy f ts a us = ts ≡ f a ++ us

-- what the rule derives, seen as another value
abbrev pub Of : {I A B : Type 0} → (A → B) → Rule I A → Rule I B
Of f P = do
  a ← P
  Pure (f a)

-- some items, and then what the rule derives
abbrev pub Behind : {I A : Type 0} → List I → Rule I A → Rule I A
Behind word P = do
  _ ← Word word
  P

-- any number of items that pass a test
pub record Run {I : Type 0} (passes : I → Bool) (ts run us : List I) : Type 0 where
  pub cut : ts ≡ run ++ us
  pub pass : AllPass passes run

-- at most so many items that pass a test
pub record RunUpTo {I : Type 0} (limit : ℕ) (passes : I → Bool) (ts run us : List I) : Type 0 where
  pub cut : ts ≡ run ++ us
  pub pass : AllPass passes run
  pub within : length run ≤ limit

-- all the items are those of the value
abbrev pub Whole : {I A : Type 0} → Rule I A → List I → A → Type 0
Whole P ts a = P ts a []
