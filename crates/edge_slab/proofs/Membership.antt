-- Whether pairs are linked after a call.
use Rattle.std.proofs.Common.{◌≡◌, ℕ, Bool, true, false, not, cond, ◌&&◌, ◌||◌, List, [], ◌∷◌, ◌++◌, nat_eq, refl, sym, ap, ◌∙◌}
use Rattle.edge_slab.specs.Edges.{Edges, without, is_in, is_linked, subscribers_at, SameEdges, IsLinked, IsUnlinked, IsDropped}
use Rattle.edge_slab.proofs.Lists.{same_number, turned}

-- a number put last is in a list, with those that were
pub is_in-push : (n m : ℕ) (ns : List ℕ) → is_in n (ns ++ m ∷ []) ≡ cond (nat_eq n m) true (is_in n ns)
is_in-push n m [] = by (nat_eq n m)
  where
    by : (b : Bool) → (b || false) ≡ cond b true false
    by true = refl
    by false = refl
is_in-push n m (k ∷ ns) = ap (λ b. nat_eq n k || b) (is_in-push n m ns) ∙ by (nat_eq n k) (nat_eq n m)
  where
    by : (b c : Bool) → (b || cond c true (is_in n ns)) ≡ cond c true (b || is_in n ns)
    by true true = refl
    by true false = refl
    by false c = refl

-- a number that was taken out is in a list no longer, and the others are
pub is_in-out : (n m : ℕ) (ns : List ℕ) → is_in n (without m ns) ≡ cond (nat_eq m n) false (is_in n ns)
is_in-out n m [] = by (nat_eq m n)
  where
    by : (b : Bool) → false ≡ cond b false false
    by true = refl
    by false = refl
is_in-out n m (k ∷ ns) = by (nat_eq m k) refl (nat_eq m n) refl (is_in-out n m ns)
  where
    apart : nat_eq m k ≡ true → nat_eq m n ≡ false → nat_eq n k ≡ false
    apart e f = ap (nat_eq n) (sym (same_number m k e)) ∙ turned n m ∙ f

    same : nat_eq m k ≡ false → nat_eq m n ≡ true → nat_eq n k ≡ false
    same e f = ap (λ x. nat_eq x k) (sym (same_number m n f)) ∙ e

    by : (b : Bool) → nat_eq m k ≡ b → (c : Bool) → nat_eq m n ≡ c → is_in n (without m ns) ≡ cond c false (is_in n ns)
        → is_in n (cond (not b) (k ∷ without m ns) (without m ns)) ≡ cond c false (nat_eq n k || is_in n ns)
    by true e true f rest = rest
    by true e false f rest = rest ∙ ap (λ x. x || is_in n ns) (sym (apart e f))
    by false e true f rest = ap (λ x. x || is_in n (without m ns)) (same e f) ∙ rest
    by false e false f rest = ap (λ x. nat_eq n k || x) rest

module _ (old new : Edges) (s p : ℕ) where
  -- a pair that was linked is there, with those that were
  pub linked-is : IsLinked (not (is_linked old s p)) old s p new → (t q : ℕ)
      → is_linked new t q ≡ cond (nat_eq q p && nat_eq t s) true (is_linked old t q)
  linked-is is t q = ap (is_in t) (is.at_place q) ∙ by (is_linked old s p) refl (nat_eq q p) refl (nat_eq t s) refl
    where
      there : is_linked old s p ≡ true → nat_eq q p ≡ true → nat_eq t s ≡ true → is_linked old t q ≡ true
      there e f g = ap (is_linked old t) (same_number q p f) ∙ ap (λ x. is_linked old x p) (same_number t s g) ∙ e

      push : (c : Bool) → nat_eq t s ≡ c → is_in t (subscribers_at old q ++ s ∷ []) ≡ cond c true (is_linked old t q)
      push c e = is_in-push t s (subscribers_at old q) ∙ ap (λ b. cond b true (is_linked old t q)) e

      by : (a : Bool) → is_linked old s p ≡ a → (b : Bool) → nat_eq q p ≡ b → (c : Bool) → nat_eq t s ≡ c
          → is_in t (cond (not a && b) (subscribers_at old q ++ s ∷ []) (subscribers_at old q)) ≡ cond (b && c) true (is_linked old t q)
      by true e true f true g = there e f g
      by true e true f false g = refl
      by true e false f c g = refl
      by false e true f c g = push c g
      by false e false f c g = refl

  -- a pair that was unlinked isn't, and the others are
  pub unlinked-is : IsUnlinked old s p new → (t q : ℕ) → is_linked new t q ≡ cond (nat_eq q p && nat_eq s t) false (is_linked old t q)
  unlinked-is is t q = ap (is_in t) (is.at_place q) ∙ by (nat_eq q p)
    where
      by : (b : Bool) → is_in t (cond b (without s (subscribers_at old q)) (subscribers_at old q)) ≡ cond (b && nat_eq s t) false (is_linked old t q)
      by true = is_in-out t s (subscribers_at old q)
      by false = refl

-- those of a subscriber that was dropped aren't, and the others are
pub dropped-is : (old new : Edges) (s : ℕ) → IsDropped old s new → (t q : ℕ) → is_linked new t q ≡ cond (nat_eq s t) false (is_linked old t q)
dropped-is old new s is t q = ap (is_in t) (is.at_place q) ∙ is_in-out t s (subscribers_at old q)

-- where nothing changes, the same are
pub same-is : (old new : Edges) → SameEdges old new → (t q : ℕ) → is_linked new t q ≡ is_linked old t q
same-is old new same t q = ap (is_in t) (same.at_place q)
