-- What subscribers keep, one after another.
use Rattle.std.proofs.Common.{◌≡◌, ℕ, ◌<◌, nat_le, Bool, true, false, cond, List, [], ◌∷◌, ◌++◌, filter, Option, Some, None, option_map, nat_eq, refl, sym}
use Rattle.std.proofs.Common.{ap, subst, ◌||◌, ◌∙◌, arith}
use Rattle.std.specs.List.{AllByRecursion, IsDistinct}
use Rattle.std.specs.Cmp.{nat_eq_equiv, unsigned_tied}
use Rattle.std.specs.Ordering.{nat_cmp}
use Rattle.std.specs.BTreeMap.{is_at}
use Rattle.std.proofs.lemmas.Map.Keys.{IsDistinct-head, IsDistinct-tail}
use Rattle.edge_slab.specs.Edges.{is_in}
use Rattle.change_feed.specs.declared.change.Change.{Change}
use Rattle.reactive_registry.specs.Registered.{Kept, kept_in}
use Rattle.reactive_registry.specs.code.Telling.{done_where, pushed, cut}
use Rattle.reactive_registry.proofs.Pairs.{same_number}

-- what is put in the place of what was kept of one is what was done to it
pub put_one : (es : List (ℕ × Kept)) (s : ℕ) (kept kept' : Kept) (does : Kept → Kept) → Some kept ≡ kept_in es s → kept' ≡ does kept
    → (q : ℕ) → cond (is_at (nat_cmp s) q) (Some kept') (kept_in es q) ≡ done_where (is_at (nat_cmp s) q) does (kept_in es q)
put_one es s kept kept' does found is q = by (is_at (nat_cmp s) q) refl
  where
    by : (c : Bool) → is_at (nat_cmp s) q ≡ c → cond c (Some kept') (kept_in es q) ≡ done_where c does (kept_in es q)
    by true e = ap (λ k. Some k) is ∙ ap (option_map does) (found ∙ ap (kept_in es) (same_number s q e))
    by false e = refl

-- ---- one of a set, and then the rest

-- done where one test holds and then where another does is done where either holds, if they never hold together
done_twice : (b c : Bool) (does : Kept → Kept) (o : Option Kept) → (b ≡ true → c ≡ false)
    → done_where c does (done_where b does o) ≡ done_where (b || c) does o
done_twice true true does o apart = absurd (let e = apart refl in cc)
done_twice true false does o apart = refl
done_twice false c does o apart = refl

-- a number that differs from all of some is none of them
none_of : (s q : ℕ) (rest : List ℕ) → AllByRecursion (λ y. nat_eq s y ≡ false) rest → is_at (nat_cmp s) q ≡ true → is_in q rest ≡ false
none_of s q [] apart e = refl
none_of s q (y ∷ rest) apart e =
    ap (λ b. b || is_in q rest) (ap (λ n. nat_eq n y) (sym (same_number s q e)) ∙ apart.0) ∙ none_of s q rest apart.1 e

-- the test of a walk is that of a map
test_turned : (s q : ℕ) → is_at (nat_cmp s) q ≡ nat_eq q s
test_turned s q = unsigned_tied s q ∙ nat_eq_equiv.symm s q

-- what is done to one, and then to the rest of a list without repeats, is done to all of it
pub done_next : (all rest : List ℕ) (s q : ℕ) (does : Kept → Kept) (o o' : Option Kept) → all ≡ s ∷ rest → IsDistinct nat_eq all
    → o' ≡ done_where (is_at (nat_cmp s) q) does o → done_where (is_in q rest) does o' ≡ done_where (is_in q all) does o
done_next all rest s q does o o' split once is =
    ap (done_where (is_in q rest) does) is
    ∙ done_twice (is_at (nat_cmp s) q) (is_in q rest) does o
    (none_of s q rest (IsDistinct-head nat_eq s rest (subst (IsDistinct nat_eq) split once)))
    ∙ ap (λ b. done_where (b || is_in q rest) does o) (test_turned s q)
    ∙ ap (λ (l : List ℕ). done_where (is_in q l) does o) (sym split)

-- what is left of such a list behind its first number has no repeats
pub once_next : (all rest : List ℕ) (s : ℕ) → all ≡ s ∷ rest → IsDistinct nat_eq all → IsDistinct nat_eq rest
once_next all rest s split once = IsDistinct-tail nat_eq s rest (subst (IsDistinct nat_eq) split once)

-- ---- what the linked ones were told, as far as it was

module _ (all rest : List ℕ) (s q : ℕ) (linked : Bool) (split : all ≡ s ∷ rest) (within : is_in q all ≡ true → linked ≡ true) where
  -- those that are left are linked
  pub within_next : is_in q rest ≡ true → linked ≡ true
  within_next e = within (ap (is_in q) split ∙ ap (λ b. nat_eq q s || b) e ∙ by (nat_eq q s))
    where
      by : (b : Bool) → (b || true) ≡ true
      by true = refl
      by false = refl

  -- one that isn't linked isn't the next
  pub next_apart : linked ≡ false → is_at (nat_cmp s) q ≡ false
  next_apart out = test_turned s q ∙ by (nat_eq q s) refl
    where
      by : (b : Bool) → nat_eq q s ≡ b → b ≡ false
      by true e =
          let inside : linked ≡ true = within (ap (is_in q) split ∙ ap (λ b. b || is_in q rest) e) in
          absurd (cc)
      by false e = refl

-- a change past a front is cut away
cut_last : (front : ℕ) (change : Change) (changes : List Change) → front < change.number
    → filter (λ c. nat_le c.number front) (changes ++ change ∷ []) ≡ filter (λ c. nat_le c.number front) changes
cut_last front change [] past = by (nat_le change.number front) refl
  where
    by : (b : Bool) → nat_le change.number front ≡ b → cond b (change ∷ []) [] ≡ []
    by true e = absurd (grind (arith, past))
    by false e = refl
cut_last front change (c ∷ changes) past = by (nat_le c.number front) (cut_last front change changes past)
  where
    kept : List Change → List Change
    kept l = filter (λ c. nat_le c.number front) l

    by : (b : Bool) → kept (changes ++ change ∷ []) ≡ kept changes
        → cond b (c ∷ kept (changes ++ change ∷ [])) (kept (changes ++ change ∷ [])) ≡ cond b (c ∷ kept changes) (kept changes)
    by true e = ap (λ l. c ∷ l) e
    by false e = e

-- so what was told of it is told no longer
pub cut_pushed : (front : ℕ) (change : Change) (b : Bool) (o : Option Kept) → front < change.number
    → option_map (cut front) (done_where b (pushed change) o) ≡ option_map (cut front) o
cut_pushed front change true None past = refl
cut_pushed front change true (Some kept) past = ap (λ l. Some (record kept { changes = l })) (cut_last front change kept.changes past)
cut_pushed front change false o past = refl

-- where the test fails, nothing is done
pub not_done : (b : Bool) (does : Kept → Kept) (o : Option Kept) → b ≡ false → done_where b does o ≡ o
not_done true does o e = absurd (cc)
not_done false does o e = refl
