-- What things have across two sides, after one came or some went.
use Rattle.std.proofs.Common.{◌≡◌, ℕ, ◌+◌, ◌≤◌, Bool, true, false, not, cond, ◌&&◌, ◌||◌, List, [], ◌∷◌, ◌++◌, map, filter, length, nat_eq}
use Rattle.std.proofs.Common.{refl, sym, ap, ◌∙◌, arith}
use Rattle.std.specs.List.{AllByRecursion, IsDistinct, list_any}
use Rattle.std.specs.Cmp.{nat_eq_equiv}
use Rattle.std.proofs.lemmas.Bool.{eqb-true, eq-eqb}
use Rattle.std.proofs.lemmas.Map.Keys.{IsDistinct-head, IsDistinct-tail, IsDistinct-cons}
use Rattle.edge_slab.specs.Edges.{those, across, without, is_in}

-- ---- numbers

-- numbers that are equal by test are one
pub same_number : (m n : ℕ) → nat_eq m n ≡ true → m ≡ n
same_number m n e = eqb-true m n e

-- a number is equal to itself
pub same_itself : (n : ℕ) → nat_eq n n ≡ true
same_itself n = eq-eqb n n refl

-- the test is the same either way
pub turned : (m n : ℕ) → nat_eq m n ≡ nat_eq n m
turned m n = nat_eq_equiv.symm m n

-- both hold, in either order
pub and_turned : (b c : Bool) → (b && c) ≡ (c && b)
and_turned true true = refl
and_turned true false = refl
and_turned false true = refl
and_turned false false = refl

-- ---- facts on each thing of a list

-- what follows from a fact on each follows for each
pub each : {X : Type 0} (P Q : X → Type 0) → ((x : X) → P x → Q x) → (xs : List X) → AllByRecursion P xs → AllByRecursion Q xs
each P Q so [] all = tt
each P Q so (x ∷ xs) all = (so x all.0, each P Q so xs all.1)

-- what holds always holds of each
pub always : {X : Type 0} (P : X → Type 0) → ((x : X) → P x) → (xs : List X) → AllByRecursion P xs
always P so [] = tt
always P so (x ∷ xs) = (so x, always P so xs)

-- what holds of each holds of each of some
pub each_of_some : {X : Type 0} (P : X → Type 0) (test : X → Bool) (xs : List X) → AllByRecursion P xs → AllByRecursion P (filter test xs)
each_of_some P test [] all = tt
each_of_some P test (x ∷ xs) all = by (test x) (each_of_some P test xs all.1)
  where
    by : (b : Bool) → AllByRecursion P (filter test xs) → AllByRecursion P (cond b (x ∷ filter test xs) (filter test xs))
    by true rest = (all.0, rest)
    by false rest = rest

-- those that pass a test do pass it
pub each_passes : {X : Type 0} (test : X → Bool) (xs : List X) → AllByRecursion (λ x. test x ≡ true) (filter test xs)
each_passes test [] = tt
each_passes test (x ∷ xs) = by (test x) refl (each_passes test xs)
  where
    by : (b : Bool) → test x ≡ b → AllByRecursion (λ x. test x ≡ true) (filter test xs)
        → AllByRecursion (λ x. test x ≡ true) (cond b (x ∷ filter test xs) (filter test xs))
    by true e rest = (e, rest)
    by false e rest = rest

-- of two facts on each both hold of each
pub each_both : {X : Type 0} (P Q : X → Type 0) (xs : List X) → AllByRecursion P xs → AllByRecursion Q xs → AllByRecursion (λ x. P x × Q x) xs
each_both P Q [] all also = tt
each_both P Q (x ∷ xs) all also = ((all.0, also.0), each_both P Q xs all.1 also.1)

-- and of one more, put last
pub each_push : {X : Type 0} (P : X → Type 0) (xs : List X) (x : X) → AllByRecursion P xs → P x → AllByRecursion P (xs ++ x ∷ [])
each_push P [] x all new = (new, tt)
each_push P (y ∷ xs) x all new = (all.0, each_push P xs x all.1 new)

-- one that passes a test, with what holds of each
pub one_of : {X : Type 0} (P : X → Type 0) (test : X → Bool) (xs : List X) → AllByRecursion P xs → list_any test xs ≡ true
    → (x : X) × (test x ≡ true) × P x
one_of P test [] all e = absurd (cc)
one_of {X} P test (x ∷ xs) all e = by (test x) refl e (one_of P test xs all.1)
  where
    by : (b : Bool) → test x ≡ b → (b || list_any test xs) ≡ true → (list_any test xs ≡ true → (x : X) × (test x ≡ true) × P x)
        → (x : X) × (test x ≡ true) × P x
    by true is e rest = (x, is, all.0)
    by false is e rest = rest e

-- none passes a test that fails at each
pub none_of : {X : Type 0} (test : X → Bool) (xs : List X) → AllByRecursion (λ x. test x ≡ false) xs → list_any test xs ≡ false
none_of test [] all = refl
none_of test (x ∷ xs) all = ap (λ b. b || list_any test xs) all.0 ∙ none_of test xs all.1

-- tests that are the same are passed alike
pub any_same : {X : Type 0} (p q : X → Bool) → ((x : X) → p x ≡ q x) → (xs : List X) → list_any p xs ≡ list_any q xs
any_same p q same [] = refl
any_same p q same (x ∷ xs) = ap (λ b. b || list_any p xs) (same x) ∙ ap (λ b. q x || b) (any_same p q same xs)

-- where one passes, one passes any weaker test
pub any_weaker : {X : Type 0} (p q : X → Bool) → ((x : X) → p x ≡ true → q x ≡ true) → (xs : List X) → list_any p xs ≡ true → list_any q xs ≡ true
any_weaker p q so [] e = absurd (cc)
any_weaker p q so (x ∷ xs) e = by (p x) refl e (any_weaker p q so xs)
  where
    or_true : (b : Bool) → (b || true) ≡ true
    or_true true = refl
    or_true false = refl

    by : (b : Bool) → p x ≡ b → (b || list_any p xs) ≡ true → (list_any p xs ≡ true → list_any q xs ≡ true) → (q x || list_any q xs) ≡ true
    by true is e rest = ap (λ c. c || list_any q xs) (so x is)
    by false is e rest = ap (λ c. q x || c) (rest e) ∙ or_true (q x)

-- one that passes is still there after those went that fail
pub any_left : {X : Type 0} (p q : X → Bool) → ((x : X) → p x ≡ true → q x ≡ true) → (xs : List X) → list_any p xs ≡ true
    → list_any p (filter q xs) ≡ true
any_left p q so [] e = e
any_left p q so (x ∷ xs) e = by (p x) (q x) refl refl e (any_left p q so xs)
  where
    or_true : (b : Bool) → (b || true) ≡ true
    or_true true = refl
    or_true false = refl

    by : (b c : Bool) → p x ≡ b → q x ≡ c → (b || list_any p xs) ≡ true → (list_any p xs ≡ true → list_any p (filter q xs) ≡ true)
        → list_any p (cond c (x ∷ filter q xs) (filter q xs)) ≡ true
    by true true is f e rest = ap (λ d. d || list_any p (filter q xs)) is
    by true false is f e rest = absurd (let g = so x is in cc)
    by false true is f e rest = ap (λ d. p x || d) (rest e) ∙ or_true (p x)
    by false false is f e rest = rest e

-- one that passes is there after another was put last
pub any_push : {X : Type 0} (p : X → Bool) (xs : List X) (x : X) → list_any p xs ≡ true → list_any p (xs ++ x ∷ []) ≡ true
any_push p [] x e = absurd (cc)
any_push p (y ∷ xs) x e = by (p y) e (any_push p xs x)
  where
    by : (b : Bool) → (b || list_any p xs) ≡ true → (list_any p xs ≡ true → list_any p (xs ++ x ∷ []) ≡ true) → (b || list_any p (xs ++ x ∷ [])) ≡ true
    by true e rest = refl
    by false e rest = rest e

-- and so is one that was put last
pub any_last : {X : Type 0} (p : X → Bool) (xs : List X) (x : X) → p x ≡ true → list_any p (xs ++ x ∷ []) ≡ true
any_last p [] x e = ap (λ b. b || false) e
any_last p (y ∷ xs) x e = ap (λ b. p y || b) (any_last p xs x e) ∙ by (p y)
  where
    by : (b : Bool) → (b || true) ≡ true
    by true = refl
    by false = refl

-- some are no more than all
pub length-some : {X : Type 0} (test : X → Bool) (xs : List X) → length (filter test xs) ≤ length xs
length-some test [] = omega arith
length-some test (x ∷ xs) = by (test x) (length-some test xs)
  where
    by : (b : Bool) → length (filter test xs) ≤ length xs → length (cond b (x ∷ filter test xs) (filter test xs)) ≤ length (x ∷ xs)
    by true rest = omega arith
    by false rest = omega arith

-- where one goes there is one less
pub length-less : {X : Type 0} (test : X → Bool) (xs : List X) → list_any test xs ≡ true → length (filter (λ x. not (test x)) xs) + 1 ≤ length xs
length-less test [] e = absurd (cc)
length-less test (x ∷ xs) e = by (test x) e (length-less test xs) (length-some (λ x. not (test x)) xs)
  where
    by : (b : Bool) → (b || list_any test xs) ≡ true → (list_any test xs ≡ true → length (filter (λ x. not (test x)) xs) + 1 ≤ length xs)
        → length (filter (λ x. not (test x)) xs) ≤ length xs
        → length (cond (not b) (x ∷ filter (λ x. not (test x)) xs) (filter (λ x. not (test x)) xs)) + 1 ≤ length (x ∷ xs)
    by true e rest some = omega arith
    by false e rest some = let less = rest e in omega arith

-- ---- numbers of a list

-- a list without a number that it lacks
pub without-none : (n : ℕ) (ns : List ℕ) → is_in n ns ≡ false → without n ns ≡ ns
without-none n [] e = refl
without-none n (m ∷ ns) e = by (nat_eq n m) e (without-none n ns)
  where
    by : (b : Bool) → (b || is_in n ns) ≡ false → (is_in n ns ≡ false → without n ns ≡ ns) → cond (not b) (m ∷ without n ns) (without n ns) ≡ m ∷ ns
    by true e rest = absurd (cc)
    by false e rest = ap (λ l. m ∷ l) (rest e)

-- it lacks the number then
pub is_in-without : (n : ℕ) (ns : List ℕ) → is_in n (without n ns) ≡ false
is_in-without n [] = refl
is_in-without n (m ∷ ns) = by (nat_eq n m) refl (is_in-without n ns)
  where
    by : (b : Bool) → nat_eq n m ≡ b → is_in n (without n ns) ≡ false → is_in n (cond (not b) (m ∷ without n ns) (without n ns)) ≡ false
    by true e rest = rest
    by false e rest = ap (λ c. c || is_in n (without n ns)) e ∙ rest

-- where each number stands once, each of some does
pub once-some : (test : ℕ → Bool) (ns : List ℕ) → IsDistinct nat_eq ns → IsDistinct nat_eq (filter test ns)
once-some test [] once = once
once-some test (n ∷ ns) once = by (test n) (once-some test ns (IsDistinct-tail nat_eq n ns once))
  where
    by : (b : Bool) → IsDistinct nat_eq (filter test ns) → IsDistinct nat_eq (cond b (n ∷ filter test ns) (filter test ns))
    by true rest = IsDistinct-cons nat_eq n (filter test ns) (each_of_some (λ m. nat_eq n m ≡ false) test ns (IsDistinct-head nat_eq n ns once)) rest
    by false rest = rest

-- ---- across two sides

module _ {X : Type 0} (side other : X → ℕ) where
  -- of one thing more
  pub across-cons : (n : ℕ) (x : X) (xs : List X)
      → across side other n (x ∷ xs) ≡ cond (nat_eq n (side x)) (other x ∷ across side other n xs) (across side other n xs)
  across-cons n x xs = by (nat_eq n (side x))
    where
      by : (b : Bool) → map other (cond b (x ∷ those side n xs) (those side n xs)) ≡ cond b (other x ∷ across side other n xs) (across side other n xs)
      by true = refl
      by false = refl

  -- of one thing more, put last
  pub across-push : (n : ℕ) (x : X) (xs : List X)
      → across side other n (xs ++ x ∷ []) ≡ cond (nat_eq n (side x)) (across side other n xs ++ other x ∷ []) (across side other n xs)
  across-push n x [] = by (nat_eq n (side x))
    where
      by : (b : Bool) → map other (cond b (x ∷ []) []) ≡ cond b (other x ∷ []) []
      by true = refl
      by false = refl
  across-push n x (y ∷ ys) =
      across-cons n y (ys ++ x ∷ [])
      ∙ by (nat_eq n (side y)) (nat_eq n (side x)) (across-push n x ys)
      ∙ ap (λ l. cond (nat_eq n (side x)) (l ++ other x ∷ []) l) (sym (across-cons n y ys))
    where
      by : (b c : Bool) → across side other n (ys ++ x ∷ []) ≡ cond c (across side other n ys ++ other x ∷ []) (across side other n ys)
          → cond b (other y ∷ across side other n (ys ++ x ∷ [])) (across side other n (ys ++ x ∷ []))
          ≡ cond c (cond b (other y ∷ across side other n ys) (across side other n ys) ++ other x ∷ [])
          (cond b (other y ∷ across side other n ys) (across side other n ys))
      by true true e = ap (λ l. other y ∷ l) e
      by true false e = ap (λ l. other y ∷ l) e
      by false c e = e

  -- of a choice of one thing more
  across-cond : (n : ℕ) (b : Bool) (x : X) (xs : List X) → across side other n (cond b (x ∷ xs) xs)
      ≡ cond b (cond (nat_eq n (side x)) (other x ∷ across side other n xs) (across side other n xs)) (across side other n xs)
  across-cond n true x xs = across-cons n x xs
  across-cond n false x xs = refl

  module _ (test : X → Bool) where
    -- those that fail the test
    abbrev left : List X → List X
    left xs = filter (λ x. not (test x)) xs

    -- where those go that have two given numbers, the one goes that the other had
    pub across-but : (a b n : ℕ) (xs : List X) → AllByRecursion (λ x. test x ≡ (nat_eq a (side x) && nat_eq b (other x))) xs
        → across side other n (left xs) ≡ cond (nat_eq n a) (without b (across side other n xs)) (across side other n xs)
    across-but a b n [] all = by (nat_eq n a)
      where
        by : (w : Bool) → across side other n [] ≡ cond w (without b (across side other n [])) (across side other n [])
        by true = refl
        by false = refl
    across-but a b n (x ∷ xs) all =
        across-cond n (not (test x)) x (left xs)
        ∙ by (test x) (nat_eq n (side x)) (nat_eq n a) (nat_eq b (other x)) refl tests (across-but a b n xs all.1)
        ∙ ap (λ l. cond (nat_eq n a) (without b l) l) (sym (across-cons n x xs))
      where
        tests : nat_eq n (side x) ≡ true → test x ≡ (nat_eq n a && nat_eq b (other x))
        tests e = all.0 ∙ ap (λ c. c && nat_eq b (other x)) (ap (nat_eq a) (sym (same_number n (side x) e)) ∙ turned a n)

        by : (t u w v : Bool) → nat_eq b (other x) ≡ v → (u ≡ true → t ≡ (w && v))
            → across side other n (left xs) ≡ cond w (without b (across side other n xs)) (across side other n xs)
            → cond (not t) (cond u (other x ∷ across side other n (left xs)) (across side other n (left xs))) (across side other n (left xs))
            ≡ cond w (without b (cond u (other x ∷ across side other n xs) (across side other n xs)))
            (cond u (other x ∷ across side other n xs) (across side other n xs))
        by true false w v ve h e = e
        by false false w v ve h e = e
        by true true true true ve h e =
            e ∙ sym (ap (λ c. cond (not c) (other x ∷ without b (across side other n xs)) (without b (across side other n xs))) ve)
        by true true true false ve h e = absurd (let g = h refl in cc)
        by true true false v ve h e = absurd (let g = h refl in cc)
        by false true true true ve h e = absurd (let g = h refl in cc)
        by false true true false ve h e =
            ap (λ l. other x ∷ l) e
            ∙ sym (ap (λ c. cond (not c) (other x ∷ without b (across side other n xs)) (without b (across side other n xs))) ve)
        by false true false v ve h e = ap (λ l. other x ∷ l) e

  -- where those go that have a number on the other side, it goes
  pub across-but_other : (b n : ℕ) (xs : List X)
      → across side other n (filter (λ x. not (nat_eq b (other x))) xs) ≡ without b (across side other n xs)
  across-but_other b n [] = refl
  across-but_other b n (x ∷ xs) =
      across-cond n (not (nat_eq b (other x))) x (filter (λ x. not (nat_eq b (other x))) xs)
      ∙ by (nat_eq b (other x)) (nat_eq n (side x)) refl (across-but_other b n xs)
      ∙ ap (without b) (sym (across-cons n x xs))
    where
      by : (t u : Bool) → nat_eq b (other x) ≡ t
          → across side other n (filter (λ x. not (nat_eq b (other x))) xs) ≡ without b (across side other n xs)
          → cond (not t) (cond u (other x ∷ across side other n (filter (λ x. not (nat_eq b (other x))) xs))
          (across side other n (filter (λ x. not (nat_eq b (other x))) xs))) (across side other n (filter (λ x. not (nat_eq b (other x))) xs))
          ≡ without b (cond u (other x ∷ across side other n xs) (across side other n xs))
      by true true f e = e ∙ sym (ap (λ c. cond (not c) (other x ∷ without b (across side other n xs)) (without b (across side other n xs))) f)
      by true false f e = e
      by false true f e =
          ap (λ l. other x ∷ l) e ∙ sym (ap (λ c. cond (not c) (other x ∷ without b (across side other n xs)) (without b (across side other n xs))) f)
      by false false f e = e

  -- where those go that have a number on this side, nothing is left there, and all elsewhere
  pub across-but_side : (a n : ℕ) (xs : List X)
      → across side other n (filter (λ x. not (nat_eq a (side x))) xs) ≡ cond (nat_eq n a) [] (across side other n xs)
  across-but_side a n [] = by (nat_eq n a)
    where
      by : (w : Bool) → across side other n [] ≡ cond w [] (across side other n [])
      by true = refl
      by false = refl
  across-but_side a n (x ∷ xs) =
      across-cond n (not (nat_eq a (side x))) x (filter (λ x. not (nat_eq a (side x))) xs)
      ∙ by (nat_eq a (side x)) (nat_eq n (side x)) (nat_eq n a) tests (across-but_side a n xs)
      ∙ ap (λ l. cond (nat_eq n a) [] l) (sym (across-cons n x xs))
    where
      tests : nat_eq n (side x) ≡ true → nat_eq a (side x) ≡ nat_eq n a
      tests e = ap (nat_eq a) (sym (same_number n (side x) e)) ∙ turned a n

      by : (t u w : Bool) → (u ≡ true → t ≡ w)
          → across side other n (filter (λ x. not (nat_eq a (side x))) xs) ≡ cond w [] (across side other n xs)
          → cond (not t) (cond u (other x ∷ across side other n (filter (λ x. not (nat_eq a (side x))) xs))
          (across side other n (filter (λ x. not (nat_eq a (side x))) xs))) (across side other n (filter (λ x. not (nat_eq a (side x))) xs))
          ≡ cond w [] (cond u (other x ∷ across side other n xs) (across side other n xs))
      by true false w h e = e
      by false false w h e = e
      by true true true h e = e
      by true true false h e = absurd (let g = h refl in cc)
      by false true true h e = absurd (let g = h refl in cc)
      by false true false h e = ap (λ l. other x ∷ l) e

  -- a number stands across from another where one of the things has both
  pub is_in-across : (a b : ℕ) (xs : List X)
      → is_in b (across side other a xs) ≡ list_any (λ x. nat_eq a (side x) && nat_eq b (other x)) xs
  is_in-across a b [] = refl
  is_in-across a b (x ∷ xs) = ap (is_in b) (across-cons a x xs) ∙ by (nat_eq a (side x)) (is_in-across a b xs)
    where
      by : (u : Bool) → is_in b (across side other a xs) ≡ list_any (λ x. nat_eq a (side x) && nat_eq b (other x)) xs
          → is_in b (cond u (other x ∷ across side other a xs) (across side other a xs))
          ≡ ((u && nat_eq b (other x)) || list_any (λ x. nat_eq a (side x) && nat_eq b (other x)) xs)
      by true e = ap (λ c. nat_eq b (other x) || c) e
      by false e = e

  -- what none of them has stands nowhere across
  pub across-lacks : (b : ℕ) (xs : List X) → AllByRecursion (λ x. nat_eq b (other x) ≡ false) xs → (n : ℕ) → is_in b (across side other n xs) ≡ false
  across-lacks b [] all n = refl
  across-lacks b (x ∷ xs) all n = ap (is_in b) (across-cons n x xs) ∙ by (nat_eq n (side x)) (across-lacks b xs all.1 n)
    where
      by : (u : Bool) → is_in b (across side other n xs) ≡ false → is_in b (cond u (other x ∷ across side other n xs) (across side other n xs)) ≡ false
      by true e = ap (λ c. c || is_in b (across side other n xs)) all.0 ∙ e
      by false e = e

  -- what one of them has stands somewhere across
  pub across-has : (b : ℕ) (xs : List X) → list_any (λ x. nat_eq b (other x)) xs ≡ true → (n : ℕ) × (is_in b (across side other n xs) ≡ true)
  across-has b [] e = absurd (cc)
  across-has b (x ∷ xs) e = by (nat_eq b (other x)) refl e (across-has b xs)
    where
      later : (n : ℕ) (u : Bool) → is_in b (across side other n xs) ≡ true → is_in b (cond u (other x ∷ across side other n xs) (across side other n xs)) ≡ true
      later n true f = ap (λ c. nat_eq b (other x) || c) f ∙ or_true (nat_eq b (other x))
        where
          or_true : (c : Bool) → (c || true) ≡ true
          or_true true = refl
          or_true false = refl
      later n false f = f

      by : (t : Bool) → nat_eq b (other x) ≡ t → (t || list_any (λ x. nat_eq b (other x)) xs) ≡ true
          → (list_any (λ x. nat_eq b (other x)) xs ≡ true → (n : ℕ) × (is_in b (across side other n xs) ≡ true))
          → (n : ℕ) × (is_in b (across side other n (x ∷ xs)) ≡ true)
      by true is e rest = (
        side x,
        ap (is_in b) (across-cons (side x) x xs)
            ∙ ap (λ u. is_in b (cond u (other x ∷ across side other (side x) xs) (across side other (side x) xs))) (same_itself (side x))
            ∙ ap (λ c. c || is_in b (across side other (side x) xs)) is,
      )
      by false is e rest = let found = rest e in (found.0, ap (is_in b) (across-cons found.0 x xs) ∙ later found.0 (nat_eq found.0 (side x)) found.1)

  -- they are no more than all
  pub length-across : (n : ℕ) (xs : List X) → length (across side other n xs) ≤ length xs
  length-across n [] = omega arith
  length-across n (x ∷ xs) = by (nat_eq n (side x)) (length-across n xs)
    where
      by : (u : Bool) → length (across side other n xs) ≤ length xs → length (map other (cond u (x ∷ those side n xs) (those side n xs))) ≤ length (x ∷ xs)
      by true e = omega arith
      by false e = omega arith

  -- what a function gives of each is what stands across
  pub across-map : (key : X → ℕ) (f : ℕ → ℕ) (xs : List X) → AllByRecursion (λ x. f (key x) ≡ other x) xs → (n : ℕ)
      → map f (across side key n xs) ≡ across side other n xs
  across-map key f [] all n = refl
  across-map key f (x ∷ xs) all n = by (nat_eq n (side x)) (across-map key f xs all.1 n)
    where
      by : (u : Bool) → map f (across side key n xs) ≡ across side other n xs
          → map f (map key (cond u (x ∷ those side n xs) (those side n xs))) ≡ map other (cond u (x ∷ those side n xs) (those side n xs))
      by true e = ap (λ m. m ∷ map f (across side key n xs)) all.0 ∙ ap (λ l. other x ∷ l) e
      by false e = e
