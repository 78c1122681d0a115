-- What the loop that makes a script keeps: what was made so far, and the rounds that are left, are the whole script.
use Rattle.std.proofs.Common.{◌≡◌, ℕ, suc, ◌+◌, ◌-◌, ◌<◌, ◌++◌, ap, ◌∙◌, arith, append_assoc}
use Rattle.std.proofs.lemmas.List.{append-nil}
use Rattle.plain_data.specs.Texts.{Bytes}
use Rattle.load_script.specs.LoadText.{round_behind, after_round, rounds}

-- a round was made of those that were left
pub one_made : (text : Bytes) (x count n : ℕ) → n < count
    → (text ++ round_behind x) ++ rounds (after_round x) (count - (n + 1)) ≡ text ++ rounds x (count - n)
unfolding rounds
one_made text x count n some =
    let left : suc (count - (n + 1)) ≡ count - n = omega arith in
    append_assoc text (round_behind x) (rounds (after_round x) (count - (n + 1))) ∙ ap (λ k. text ++ rounds x k) left

-- none is left
pub none_left : (text : Bytes) (x count n : ℕ) → n ≡ count → text ++ rounds x (count - n) ≡ text
unfolding rounds
none_left text x count n end =
    let none : count - n ≡ 0 = omega (arith, end) in ap (λ k. text ++ rounds x k) none ∙ append-nil text
