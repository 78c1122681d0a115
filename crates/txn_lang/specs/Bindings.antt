-- Names that are bound, each to something: to a type where a body is checked, and to an item where it runs.
use Rattle.std.specs.Prelude.{◌≡◌, ℕ, if◌then◌else◌, List, [], ◌∷◌, fold, Option, Some, None, codes, refl}
use Rattle.std.specs.Ordering.{eq_by_cmp}
use Rattle.plain_data.specs.Texts.{Bytes, text_cmp}

module _ {A : Type 0} where
  abbrev pub later : Bytes → Option A → Bytes × A → Option A
  later x found binding = if eq_by_cmp text_cmp x binding.0 then Some binding.1 else found

  -- what a name is bound to, if it is: the newest binding, which stands last, counts
  abbrev pub bound : List (Bytes × A) → Bytes → Option A
  bound names x = fold (later x) None names

-- a name that is bound again
newest-counts : bound {A = ℕ} ((codes "y", 1) ∷ (codes "x", 2) ∷ (codes "y", 3) ∷ []) (codes "y") ≡ Some 3
newest-counts = refl
