-- What is kept of bound names: the place of each name's newest binding, found by halving, and the place that each binding
-- hides. The clauses of `Environment` in src/environment.rt, by the lemmas of proofs/PlacesKept, tie it to `bound`.
use Rattle.std.specs.Prelude.{◌≡◌, ℕ, suc, List, [], ◌∷◌, map, Option, Some, None, codes, refl}
use Rattle.std.specs.FinMap as fin
use Rattle.plain_data.specs.Texts.{Bytes, MapOf}
use Rattle.plain_data.specs.Histories.{IsLawful}
use Rattle.txn_lang.specs.Bindings.{bound}
use Rattle.txn_lang.specs.declared.environment.Binding.{Binding}

-- a name that was bound once and is no longer has no place
abbrev pub place_there : Option (Option ℕ) → Option ℕ
place_there None = None
place_there (Some found) = found

module _ {A : Type 0} where
  abbrev pub names_of : List (Binding A) → List (Bytes × A)
  names_of bindings = map (λ b. (b.name, b.value)) bindings

  -- names, each with the place of its binding, counted from a number
  abbrev pub placed : ℕ → List (Bytes × A) → List (Bytes × ℕ)
  placed from [] = []
  placed from (n ∷ names) = (n.0, from) ∷ placed (suc from) names

  -- the place of a name's newest binding, if it is bound
  abbrev pub place_bound : List (Bytes × A) → Bytes → Option ℕ
  place_bound names x = bound (placed 0 names) x

  -- a binding hides the one that its name had before it
  abbrev pub Hides : ℕ → List (Binding A) → Binding A → Type 0
  Hides base before b = b.hidden ≡ place_bound (names_of before) b.name

  -- Of each name the place of its newest binding is kept, and of each binding the place that its name had before it.
  pub record Keeps (places : MapOf (Option ℕ)) (bindings : List (Binding A)) : Type 0 where
    pub newest : (x : Bytes) → place_there (fin.get places x) ≡ place_bound (names_of bindings) x
    pub hidden : IsLawful Hides 0 bindings

-- of two bindings of a name the second counts
second-counts : place_bound {A = ℕ} ((codes "x", 5) ∷ (codes "x", 6) ∷ []) (codes "x") ≡ Some 1
second-counts = refl
