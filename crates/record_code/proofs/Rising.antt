-- Whether addresses rise, from whether each is below the next.
use Rattle.std.proofs.Common.{◌≡◌, ℕ, ◌+◌, ◌<◌, get_or, Bool, true, false, T, List, [], ◌∷◌, refl, sym, ap, subst, ◌∙◌}
use Rattle.std.proofs.Common.{arith}
use Rattle.std.specs.Cmp.{IsTotalOrder}
use Rattle.std.specs.List.{IsAllAdjacentAnswer}
use Rattle.std.specs.List.Sorted.{IsStrictlySortedBy}
use Rattle.std.specs.Map.{keys_of}
use Rattle.std.specs.Ordering.{is_lt}
use Rattle.std.specs.FinMap.Entries.{is_sorted}
use Rattle.std.specs.declared.cmp.Ordering.{Ordering}
use Rattle.std.specs.declared.cmp.Ordering.TheVariants.{Less}
use Rattle.std.proofs.lemmas.Bool.{false≢true}
use Rattle.std.proofs.lemmas.Map.Keys.{sorted_from_all_adjacent, Less-from_sorted}
use Rattle.plain_data.proofs.Entries.{keys_of-get, length-keys}
use Rattle.plain_data.proofs.TextMaps.{less, sorted-from_rising, rising-from_sorted}
use Rattle.record_code.proofs.Maps.{true_of}

-- an answer whose test of being less is true is Less
is_less : (r : Ordering) → is_lt r ≡ true → r ≡ Less
is_less r h = less r (subst T (sym h) tt)

module _ {K V : Type 0} (R : K → K → Ordering) (o : IsTotalOrder R) where
  -- two neighbouring keys compare as the keys of two neighbouring pairs
  next-keys : (es : List (K × V)) (k : ℕ) (d : K × V) → R (get_or (keys_of es) k d.0)
      (get_or (keys_of es) (k + 1) d.0) ≡ R (get_or es k d).0 (get_or es (k + 1) d).0
  next-keys es k d i = R (keys_of-get es k d i) (keys_of-get es (k + 1) d i)

  -- where they don't rise the test isn't passed
  not_sorted : (es : List (K × V)) → (IsStrictlySortedBy R (keys_of es) → ⊥) → false ≡ is_sorted R es
  not_sorted es falls = by (is_sorted R es) refl
    where
      by : (b : Bool) → is_sorted R es ≡ b → false ≡ b
      by true e = absurd (falls (rising-from_sorted R es (subst T (sym e) tt)))
      by false e = refl

  -- keys rise exactly where each is below the next
  pub rises : (es : List (K × V)) (b : Bool) → IsAllAdjacentAnswer (λ x y t. t ≡ is_lt (R x.0 y.0)) es b
      → b ≡ is_sorted R es
  rises [] true adjacent = refl
  rises (e ∷ es) true adjacent =
      sym (true_of _ (sorted-from_rising R (e ∷ es) (sorted_from_all_adjacent o (keys_of (e ∷ es)) e.0
      (λ k within. next-keys (e ∷ es) k e ∙ is_less _ (sym (adjacent k e
      (subst (λ n. k + 1 < n) (length-keys (e ∷ es)) within)))))))
  rises [] false adjacent = absurd (omega (arith, adjacent.1))
  rises (e ∷ es) false adjacent =
      not_sorted (e ∷ es) (λ rising.
      let k = adjacent.0 in
      let below = Less-from_sorted R (keys_of (e ∷ es)) k (k + 1) e.0 rising (omega arith)
      (subst (λ n. k + 1 < n) (sym (length-keys (e ∷ es))) adjacent.1) in
      false≢true (adjacent.2 e ∙ ap is_lt (sym (next-keys (e ∷ es) k e) ∙ below)))
