-- The order of a tail, and some of a tail.
use Rattle.std.proofs.Common.{ℕ, ◌<◌, ◌≤◌, suc, Bool, List, [], ◌∷◌, filter, arith}
use Rattle.std.specs.List.{All}
use Rattle.std.specs.List.Sorted.{IsNonDecreasingBy}
use Rattle.std.proofs.lemmas.List.Elements.{All-filter, All-head, All-weaker}
use Rattle.std.proofs.lemmas.List.Sorted.{IsNonDecreasingBy-from_all_adjacent, all_adjacent_from_non_decreasing}
use Rattle.change_feed.specs.declared.change.Change.{Change}
use Rattle.change_feed.specs.Tails.{IsTail}
use Rattle.journal_core.specs.code.Rising.{Rises}
use Rattle.journal_core.proofs.Rising.{non_decreasing, rises-filter, rises_lower}

-- numbers that don't fall, and aren't below one, rise from there
rises_from : (n : ℕ) (all : List Change) → All (λ change. n ≤ change.number) all → IsNonDecreasingBy (λ change. change.number) all → Rises n all
rises_from n [] low order = tt
rises_from n (change ∷ rest) low order = (
  All-head (λ c. n ≤ c.number) change rest low,
  rises_from change.number rest
      (λ k d within. order 0 (suc k) d (omega arith) (omega (arith, within)))
      (λ i j d at within. order (suc i) (suc j) d (omega (arith, at)) (omega (arith, within))),
)

-- a tail's numbers rise from where it begins
tail-rises : (from to : ℕ) (all : List Change) → IsTail from to all → Rises from all
tail-rises from to all tail =
    rises_from from all
    (All-weaker (λ c. (from < c.number) × (c.number ≤ to)) (λ c. from ≤ c.number) (λ c both. let low = both.0 in omega (arith, low)) all tail.within)
    (IsNonDecreasingBy-from_all_adjacent (λ change. change.number) all tail.in_order)

-- so they rise from 0
pub tail-order : (from to : ℕ) (all : List Change) → IsTail from to all → Rises 0 all
tail-order from to all tail = rises_lower 0 from all (omega arith) (tail-rises from to all tail)

-- changes that rise, past one number and up to another, are a tail
is_tail : (from to : ℕ) (all : List Change) → from ≤ to → Rises 0 all → All (λ change. (from < change.number) × (change.number ≤ to)) all
    → IsTail from to all
is_tail from to all order rises within = record {
  rises = order;
  within = within;
  in_order = all_adjacent_from_non_decreasing (λ change. change.number) all (non_decreasing 0 all rises);
}

-- some of a tail's changes are a tail
pub part-is-tail : (p : Change → Bool) (from to : ℕ) (all : List Change) → IsTail from to all → IsTail from to (filter p all)
part-is-tail p from to all tail =
    is_tail from to (filter p all) tail.rises (rises-filter p 0 all (tail-order from to all tail))
    (All-filter p (λ change. (from < change.number) × (change.number ≤ to)) all tail.within)
