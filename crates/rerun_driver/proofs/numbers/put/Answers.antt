use Rattle.std.proofs.Common.{◌≡◌, ℕ, List, Result, MatchResult, length, cond, insert, nat_cmp, ap, subst, ◌∙◌, arith}
use Rattle.std.specs.List.Sorted.{IsBinarySearchResult}
use Rattle.rerun_driver.specs.code.Numbers.{with_number}
use Rattle.rerun_driver.proofs.Rising.{put-searched}
use Rattle.rerun_driver.proofs.numbers.put.Goals as goal

-- what the search says of a list
abbrev Says : List ℕ → ℕ → Result ℕ ℕ → Type 0
Says xs n r = MatchResult r (λ i. xs ≡ with_number xs n) (λ i. insert xs i n ≡ with_number xs n)

pub returns-in-Ok-clause-put : goal.returns-in-Ok-clause-put
returns-in-Ok-clause-put c =
    let xs = c.args.items.now.items in
    let n = c.args.number in
    subst (Says xs n) c.in-Ok.is (put-searched xs n c.binary_search.result c.requires.rising
    (subst (λ (l : List ℕ). IsBinarySearchResult (λ y. nat_cmp y n) l c.binary_search.result) c.as_slice.ensures.value c.binary_search.ensures.position))

pub returns-in-Err-clause-put : goal.returns-in-Err-clause-put
returns-in-Err-clause-put c =
    let xs = c.args.items.now.items in
    let n = c.args.number in
    c.insert-put.ensures.items
    ∙ ap (λ b. cond b (insert xs c.in-Err.place n) xs)
    (c.insert-put.ensures.succeeds (omega (arith, c.requires.room, c.as_slice.ensures.len, ap length c.as_slice.ensures.value)))
    ∙ subst (Says xs n) c.in-Err.is (put-searched xs n c.binary_search.result c.requires.rising
    (subst (λ (l : List ℕ). IsBinarySearchResult (λ y. nat_cmp y n) l c.binary_search.result) c.as_slice.ensures.value c.binary_search.ensures.position))
