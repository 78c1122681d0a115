-- How many items at the front pass a test, item by item.
use Rattle.std.proofs.Common.{◌≡◌, ◌+◌, ◌<◌, ◌≤◌, ◌⊎◌, ℕ, zero, suc, nat_le, Bool, true, false, cond, List, [], ◌∷◌}
use Rattle.std.proofs.Common.{◌++◌, length, take, drop, get_or, refl, ap, sym, ◌∙◌, subst, inl, inr, arith}
use Rattle.std.proofs.lemmas.Bool.Decides.{nat_tests}
use Rattle.std.specs.List.{prefix_len, AllPass}
use Rattle.std.proofs.lemmas.List.Elements.{All-nil, All-head, All-tail, All-cons}
use Rattle.predictive_parsing.specs.Reading.{next, ahead}
use Rattle.predictive_parsing.proofs.Basic.{bool_cases}
use Rattle.std.proofs.lemmas.List.Sums.{prefix_len-drop_yes, prefix_len-drop_no, prefix_len-drop_all}

module _ {I : Type 0} (passes : I → Bool) (ts : List I) (i : ℕ) (so_far : i + prefix_len passes (drop i ts) ≡ prefix_len passes ts) where
  -- one more passes
  pub prefix_more : (item : I) → i < length ts → item ≡ get_or ts i item → passes item ≡ true
      → (i + 1) + prefix_len passes (drop (i + 1) ts) ≡ prefix_len passes ts
  prefix_more item l e h = let k = prefix_len-drop_yes passes ts i item l (ap passes (sym e) ∙ h) in omega (arith, k)

  -- one doesn't
  pub prefix_stop : (item : I) → i < length ts → item ≡ get_or ts i item → passes item ≡ false → i ≡ prefix_len passes ts
  prefix_stop item l e h = let k = prefix_len-drop_no passes ts i item l (ap passes (sym e) ∙ h) in omega (arith, k)

  -- all pass
  pub prefix_all : i ≤ length ts → length ts ≤ i → length ts ≡ prefix_len passes ts
  prefix_all l k = let e = prefix_len-drop_all passes ts i k in omega (arith, e)

-- ---- fronts that pass, and what doesn't behind them

-- a first item that passes makes the prefix longer
pub prefix_len-more : {I : Type 0} (passes : I → Bool) (item : I) (ts : List I) → passes item ≡ true → prefix_len passes (item ∷ ts) ≡ 1 + prefix_len passes ts
prefix_len-more passes item ts e = ap (λ b. cond b (1 + prefix_len passes ts) 0) e

-- where no item is ahead that passes, there is no prefix
pub prefix_len-none : {I : Type 0} (passes : I → Bool) (ts : List I) → ahead passes (next ts) ≡ false → prefix_len passes ts ≡ 0
prefix_len-none passes [] e = refl
prefix_len-none passes (item ∷ ts) e = ap (λ b. cond b (1 + prefix_len passes ts) 0) e

-- where one is, there is some
pub prefix_len-some : {I : Type 0} (passes : I → Bool) (ts : List I) → ahead passes (next ts) ≡ true → 1 ≤ prefix_len passes ts
prefix_len-some passes [] e = absurd (cc)
prefix_len-some passes (item ∷ ts) e = omega (arith, prefix_len-more passes item ts e)

-- items that pass, with one behind them that doesn't, are the prefix
pub prefix_len-front : {I : Type 0} (passes : I → Bool) (front us : List I) → AllPass passes front
    → ahead passes (next us) ≡ false → prefix_len passes (front ++ us) ≡ length front
prefix_len-front passes [] us all e = prefix_len-none passes us e
prefix_len-front passes (item ∷ front) us all e =
    let first = All-head (λ x. passes x ≡ true) item front all in
    let k = prefix_len-front passes front us (All-tail (λ x. passes x ≡ true) item front all) e in
    prefix_len-more passes item (front ++ us) first ∙ omega (arith, k)

-- what the prefix takes passes
pub prefix-passes : {I : Type 0} (passes : I → Bool) (ts : List I) → AllPass passes (take (prefix_len passes ts) ts)
prefix-passes passes [] = All-nil (λ x. passes x ≡ true)
prefix-passes passes (item ∷ ts) = elim (bool_cases (passes item)) [
  | inl e ↦
      let k : prefix_len passes (item ∷ ts) ≡ suc (prefix_len passes ts) = omega (arith, prefix_len-more passes item ts e) in
      subst (λ n. AllPass passes (take n (item ∷ ts))) (sym k)
      (All-cons (λ x. passes x ≡ true) item (take (prefix_len passes ts) ts) e (prefix-passes passes ts))
  | inr e ↦ subst (λ n. AllPass passes (take n (item ∷ ts))) (sym (prefix_len-none passes (item ∷ ts) e)) (All-nil (λ x. passes x ≡ true))
]

-- and what is behind it doesn't
pub prefix-stops : {I : Type 0} (passes : I → Bool) (ts : List I) → ahead passes (next (drop (prefix_len passes ts) ts)) ≡ false
prefix-stops passes [] = refl
prefix-stops passes (item ∷ ts) = elim (bool_cases (passes item)) [
  | inl e ↦
      let k : prefix_len passes (item ∷ ts) ≡ suc (prefix_len passes ts) = omega (arith, prefix_len-more passes item ts e) in
      ap (λ n. ahead passes (next (drop n (item ∷ ts)))) k ∙ prefix-stops passes ts
  | inr e ↦ ap (λ n. ahead passes (next (drop n (item ∷ ts)))) (prefix_len-none passes (item ∷ ts) e) ∙ e
]

-- items that pass are a part of the prefix at least
pub prefix_len-least : {I : Type 0} (passes : I → Bool) (front us : List I) → AllPass passes front → length front ≤ prefix_len passes (front ++ us)
prefix_len-least passes [] us all = omega arith
prefix_len-least passes (item ∷ front) us all =
    let k = prefix_len-least passes front us (All-tail (λ x. passes x ≡ true) item front all) in
    omega (arith, prefix_len-more passes item (front ++ us) (All-head (λ x. passes x ≡ true) item front all))

-- of two numbers one is at most the other
pub le_or : (m n : ℕ) → (m ≤ n) ⊎ (n ≤ m)
le_or m n = by_test (nat_le m n) refl
  where
    by_test : (t : Bool) → nat_le m n ≡ t → (m ≤ n) ⊎ (n ≤ m)
    by_test true e = inl (grind (arith, nat_tests, e))
    by_test false e = inr (grind (arith, nat_tests, e))

-- the front of a front
pub take-shorter : {I : Type 0} (m n : ℕ) (ts : List I) → m ≤ n → take m (take n ts) ≡ take m ts
take-shorter zero n ts l = refl
take-shorter (suc m) zero ts l = absurd (omega arith)
take-shorter (suc m) (suc n) [] l = refl
take-shorter (suc m) (suc n) (item ∷ ts) l = ap (λ xs. item ∷ xs) (take-shorter m n ts (omega arith))
