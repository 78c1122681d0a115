use Rattle.std.proofs.Common.{◌≡◌, ℕ, List, Result, MatchResult, remove, nat_cmp, subst, ◌∙◌}
use Rattle.std.specs.List.Sorted.{IsBinarySearchResult}
use Rattle.rerun_driver.specs.code.Numbers.{without_number}
use Rattle.rerun_driver.proofs.Rising.{out-searched}
use Rattle.rerun_driver.proofs.numbers.take_out.Goals as goal

-- what the search says of a list
abbrev Says : List ℕ → ℕ → Result ℕ ℕ → Type 0
Says xs n r = MatchResult r (λ i. remove xs i ≡ without_number xs n) (λ i. xs ≡ without_number xs n)

pub returns-in-Ok-clause-gone : goal.returns-in-Ok-clause-gone
returns-in-Ok-clause-gone c =
    let xs = c.args.items.now.items in
    let n = c.args.number in
    c.remove.ensures.items
    ∙ subst (Says xs n) c.in-Ok.is (out-searched xs n c.binary_search.result c.requires.rising
    (subst (λ (l : List ℕ). IsBinarySearchResult (λ y. nat_cmp y n) l c.binary_search.result) c.as_slice.ensures.value c.binary_search.ensures.position))

pub returns-in-Err-clause-gone : goal.returns-in-Err-clause-gone
returns-in-Err-clause-gone c =
    let xs = c.args.items.now.items in
    let n = c.args.number in
    subst (Says xs n) c.in-Err.is (out-searched xs n c.binary_search.result c.requires.rising
    (subst (λ (l : List ℕ). IsBinarySearchResult (λ y. nat_cmp y n) l c.binary_search.result) c.as_slice.ensures.value c.binary_search.ensures.position))
