use Rattle.std.proofs.Common.{◌≡◌, ℕ, Bool, true, false, List, length, refl, ap}
use Rattle.std.specs.Str.{bytes_eq}
use Rattle.std.proofs.lemmas.Slice.Eq.{bytes_eq-Decides}

-- texts of two lengths aren't one
unlike : (xs ys : List ℕ) → ¬ (length xs ≡ length ys) → false ≡ bytes_eq xs ys
unlike xs ys differ = by (bytes_eq xs ys) (bytes_eq-Decides xs ys).0
  where
    by : (b : Bool) → (b ≡ true → xs ≡ ys) → false ≡ b
    by true is = absurd (differ (ap length (is refl)))
    by false is = refl
