use Rattle.std.proofs.Common.{◌≡◌, zero, suc, List, [], ◌∷◌, length, Ordering, Less, Greater, refl, sym, ◌∙◌, arith, inl, inr, ◌⊎◌}
use Rattle.std.specs.Ordering.{nat_cmp}
use Rattle.std.specs.Cmp.{nat_cmp_is}
use Rattle.std.specs.Cmp.Lexicographic.{slice_cmp}
use Rattle.plain_data.proofs.sequence.ordered_on.Goals.{then-is_empty-via-then-is_empty, then-is_empty-via-else-is_empty+then-is_empty-2}
use Rattle.plain_data.proofs.sequence.ordered_on.Goals as goal

-- where a list is empty, the order is that of the lengths
by_length : {A : Type 0} (R : A → A → Ordering) (a b : List A) → (length a ≡ 0) ⊎ (length b ≡ 0) → nat_cmp (length a) (length b) ≡ slice_cmp R a b
by_length R [] [] empty = refl
by_length R [] (y ∷ ys) empty = sym (nat_cmp_is zero (suc (length ys)) Less (omega arith))
by_length R (x ∷ xs) [] empty = sym (nat_cmp_is (suc (length xs)) zero Greater (omega arith))
by_length R (x ∷ xs) (y ∷ ys) (inl empty) = absurd (omega (arith, empty))
by_length R (x ∷ xs) (y ∷ ys) (inr empty) = absurd (omega (arith, empty))

pub returns-then-is_empty : goal.returns-then-is_empty
returns-then-is_empty g c =
    let a = c.args.a.now in
    let b = c.args.b.now in
    c.cmp.ensures ∙ by_length g.T.Ord.cmp a b (elim c.then-is_empty.branch [
      | then-is_empty-via-then-is_empty w ↦ inl (let e = c.is_empty.ensures in let t = w.if-is_empty in grind (arith, e, t))
      | then-is_empty-via-else-is_empty+then-is_empty-2 w ↦ inr (let e = w.is_empty-else-is_empty.ensures in let t = w.if-is_empty-2 in grind (arith, e, t))
    ])
