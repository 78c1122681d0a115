-- Holds by rising numbers.
use Rattle.std.proofs.Common.{ℕ, ◌<◌, ◌≤◌, ◌≡◌, ◌⊎◌, inl, inr, Bool, true, false, cond, List, [], ◌∷◌, ◌++◌, filter, subst, arith}
use Rattle.std.specs.List.{AllByRecursion}
use Rattle.journal_core.specs.declared.hold.Hold.{Hold}
use Rattle.hold_core.proofs.Places.{Has, has-cases, has-none}

-- the holds have rising numbers, above this one
abbrev pub IsRising : ℕ → List Hold → Type 0
IsRising n [] = Unit {0}
IsRising n (hold ∷ rest) = (n < hold.number) × IsRising hold.number rest

-- a hold is at a number or below it
abbrev pub UpTo : ℕ → Hold → Type 0
UpTo last hold = hold.number ≤ last

-- they are above a lesser number, too
rising-lower : (a b : ℕ) (holds : List Hold) → a ≤ b → IsRising b holds → IsRising a holds
rising-lower a b [] below rising = tt
rising-lower a b (hold ∷ rest) below rising = (omega arith, rising.1)

-- so do those of them that pass a test
pub rising-filter : (n : ℕ) (test : Hold → Bool) (holds : List Hold) → IsRising n holds → IsRising n (filter test holds)
rising-filter n test [] rising = tt
rising-filter n test (hold ∷ rest) rising = by (rising-filter hold.number test rest rising.1) (test hold)
  where
    by : IsRising hold.number (filter test rest) → (b : Bool) → IsRising n (cond b (hold ∷ filter test rest) (filter test rest))
    by behind true = (rising.0, behind)
    by behind false = rising-lower n hold.number (filter test rest) (omega arith) behind

-- and so they do with one behind them that is above all
pub rising-push : (n last : ℕ) (holds : List Hold) (hold : Hold) → n ≤ last → last < hold.number → AllByRecursion (UpTo last) holds → IsRising n holds
    → IsRising n (holds ++ hold ∷ [])
rising-push n last [] hold below above all rising = (omega arith, tt)
rising-push n last (first ∷ rest) hold below above all rising =
    (rising.0, rising-push first.number last rest hold all.0 above all.1 rising.1)

-- each of them is above the number
pub rising-above : (n : ℕ) (holds : List Hold) (hold : Hold) → IsRising n holds → Has holds hold → n < hold.number
rising-above n [] hold rising has = absurd (has-none hold has)
rising-above n (first ∷ rest) hold rising has = by (rising-above first.number rest hold rising.1) (has-cases hold first rest has)
  where
    by : (Has rest hold → first.number < hold.number) → (first ≡ hold) ⊎ Has rest hold → n < hold.number
    by behind (inl same) = subst (λ h. n < h.number) same rising.0
    by behind (inr has) = let above = behind has in omega arith
