-- What a search for a byte answers, as a place in a list.
use Rattle.std.proofs.Common.{◌≡◌, ℕ, ◌<◌, Bool, true, false, List, length, Option, Some, None}
use Rattle.std.proofs.Common.{position, nat_lt, suc, if◌then◌else◌, refl, sym, ap, ◌∙◌, arith, inl, inr}
use Rattle.std.proofs.lemmas.List.Sums.{position_or_len_is}
use Rattle.std.proofs.lemmas.Bool.Decides.{leb_tells}
use Rattle.memchr.specs.Find.{IsFirstByte}

-- what isn't true is false
not-true : (b : Bool) → ¬ (b ≡ true) → b ≡ false
not-true true never = absurd (never refl)
not-true false never = refl

-- a place is one of the list's where it is below its length
in-list : (place size : ℕ) → place < size → (if nat_lt place size then Some place else None) ≡ Some place
in-list place size short = elim (leb_tells (suc place) size) [
  | inl found ↦ rw found.0 refl
  | inr none ↦ absurd (let n = none.1 in omega (arith, n, short))
]

-- and the length itself, behind the last of them, is none
behind : (size : ℕ) → (if nat_lt size size then Some size else None) ≡ None
behind size = elim (leb_tells (suc size) size) [
  | inl found ↦ absurd (let f = found.1 in omega (arith, f))
  | inr none ↦ rw none.0 refl
]

-- a first place is the one that the list tells, since both have the same before them
pub first-is : (p : ℕ → Bool) (xs : List ℕ) (r : Option ℕ) → IsFirstByte p xs r → r ≡ position p xs
first-is p xs None none =
    let e = position_or_len_is p xs (length xs) 0 (omega arith) (λ k short. not-true _ (none k (omega arith) short))
    (λ long. absurd (omega (arith, long))) in
    sym (ap (λ at. if nat_lt at (length xs) then Some at else None) e ∙ behind (length xs))
first-is p xs (Some k) found =
    let high = found.0.high in
    let e = position_or_len_is p xs k 0 (omega (arith, high)) (λ i short. not-true _ (found.0.before i (omega arith) short)) (λ _. found.1) in
    sym (ap (λ at. if nat_lt at (length xs) then Some at else None) e ∙ in-list k (length xs) high)
