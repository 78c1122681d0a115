-- Beginnings of journals.
use Rattle.std.proofs.Common.{◌≡◌, ℕ, ◌≤◌, List, length, take, sym, ap, ◌∙◌, arith}
use Rattle.std.proofs.lemmas.List.{take-append-le, length-append}
use mathlib.Core.List.{IsPrefix}

module _ {A : Type 0} where
  -- what begins a list is no longer than it
  pub length-prefix : (xs ys : List A) → IsPrefix xs ys → length xs ≤ length ys
  length-prefix xs ys more = let l = length-append xs more.0 in let e = ap length more.1 in omega arith

  -- the first items of what begins a list are those of the list
  pub take-prefix : (n : ℕ) (xs ys : List A) → IsPrefix xs ys → n ≤ length xs → take n ys ≡ take n xs
  take-prefix n xs ys more within = ap (take n) (sym more.1) ∙ take-append-le n xs more.0 within
