-- Lists that only grow, by items that may follow.
use Rattle.std.proofs.Common.{◌≡◌, ◌==◌, ◌≤◌, ℕ, zero, suc, not, length, refl, arith, List, [], ◌∷◌, ◌++◌, take, Some, sym, subst}
use Rattle.std.proofs.Common.{append_assoc, append-nil}
use Rattle.std.specs.List.{slice_get}
use Rattle.std.proofs.lemmas.List.Filters.{length-filter_both}
use mathlib.Core.List.{IsPrefix}
use Rattle.plain_data.specs.Histories.{own, IsLawfulAfter, IsLawful}

-- own items are no more than all
pub length-own-le : {E : Type 0} (names : E → ℕ) (number : ℕ) (items : List E) → length (own names number items) ≤ length items
length-own-le names number items = omega (arith, length-filter_both (λ e. names e == number) (λ e. not (names e == number)) (λ e. refl) items)

module _ {E : Type 0} (may_follow : ℕ → List E → E → Type 0) (base : ℕ) where
  -- by induction on the items: the new one may follow all of them, and each of them follows what it followed before
  lawful_after-push : (before items : List E) (e : E) → IsLawfulAfter may_follow base before items → may_follow base (before ++ items) e
      → IsLawfulAfter may_follow base before (items ++ e ∷ [])
  lawful_after-push before [] e lawful follows = (subst (λ b. may_follow base b e) (append-nil before) follows, tt)
  lawful_after-push before (x ∷ items) e lawful follows =
      (lawful.0, lawful_after-push (before ++ x ∷ []) items e lawful.1 (subst (λ b. may_follow base b e) (sym (append_assoc before (x ∷ []) items)) follows))

  -- a lawful list stays lawful with an item that may follow it
  pub IsLawful-push : (items : List E) (e : E) → IsLawful may_follow base items → may_follow base items e
      → IsLawful may_follow base (items ++ e ∷ [])
  IsLawful-push items e lawful follows = lawful_after-push [] items e lawful follows

  -- each item of a prefix follows the same items as in the whole list
  lawful_after-first : (before items rest : List E) → IsLawfulAfter may_follow base before (items ++ rest)
      → IsLawfulAfter may_follow base before items
  lawful_after-first before [] rest lawful = tt
  lawful_after-first before (x ∷ items) rest lawful = (lawful.0, lawful_after-first (before ++ x ∷ []) items rest lawful.1)

  -- a prefix of a lawful list is lawful
  pub IsLawful-prefix : (items more : List E) → IsPrefix items more → IsLawful may_follow base more → IsLawful may_follow base items
  IsLawful-prefix items more prefix lawful = lawful_after-first [] items prefix.0 (subst (IsLawful may_follow base) (sym prefix.1) lawful)

  -- by induction on the place: the items that are passed join those before the list
  follows_after : (before items : List E) → IsLawfulAfter may_follow base before items → (i : ℕ) (e : E) → slice_get items i ≡ Some e
      → may_follow base (before ++ take i items) e
  follows_after before [] lawful i e here = absurd (cc)
  follows_after before (x ∷ items) lawful zero e here =
      let is : x ≡ e = cc in
      subst (λ b. may_follow base b e) (sym (append-nil before)) (subst (λ k. may_follow base before k) is lawful.0)
  follows_after before (x ∷ items) lawful (suc i) e here =
      subst (λ b. may_follow base b e) (append_assoc before (x ∷ []) (take i items)) (follows_after (before ++ x ∷ []) items lawful.1 i e here)

  -- each item of a lawful list, by its place, may follow those before it
  pub IsLawful-place : (items : List E) → IsLawful may_follow base items → (i : ℕ) (e : E) → slice_get items i ≡ Some e
      → may_follow base (take i items) e
  IsLawful-place items lawful i e here = follows_after [] items lawful i e here

  -- where every item may follow, every list is lawful
  pub lawful_all : ((before : List E) (e : E) → may_follow base before e) → (before items : List E)
      → IsLawfulAfter may_follow base before items
  lawful_all all before [] = tt
  lawful_all all before (x ∷ items) = (all before x, lawful_all all (before ++ x ∷ []) items)
