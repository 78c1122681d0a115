-- A subscriber's pairs, taken out one after the other.
use Rattle.std.proofs.Common.{◌≡◌, ℕ, ◌+◌, ◌≤◌, Bool, true, false, cond, ◌||◌, List, [], ◌∷◌, length, Option, Some, None, IfNone}
use Rattle.std.proofs.Common.{slice_get, nat_eq, refl, sym, ap, ◌∙◌, arith}
use Rattle.edge_slab.specs.Edges.{Edges, without, is_in, is_linked, subscribers_at, places_of, IsUnlinked, IsDropped}
use Rattle.edge_slab.proofs.Lists.{without-none, is_in-without, length-less, same_number, same_itself}

-- what a list without a number is, after the number went from it
pub without-again : (b : Bool) (s : ℕ) (ns : List ℕ) → without s (cond b (without s ns) ns) ≡ without s ns
without-again true s ns = without-none s (without s ns) (is_in-without s ns)
without-again false s ns = refl

-- the first of a list is in it
is_in-first : (n : ℕ) (ns : List ℕ) → Some n ≡ slice_get ns 0 → is_in n ns ≡ true
is_in-first n [] e = absurd (cc)
is_in-first n (m ∷ ns) e = let same : n ≡ m = cc in ap (λ k. nat_eq n k || is_in n ns) (sym same) ∙ ap (λ b. b || is_in n ns) (same_itself n)

-- without its first a list is shorter
shorter : (n : ℕ) (ns : List ℕ) → Some n ≡ slice_get ns 0 → length (without n ns) + 1 ≤ length ns
shorter n ns e = length-less (nat_eq n) ns (is_in-first n ns e)

-- a list without a first is empty
empty : (ns : List ℕ) → None ≡ slice_get ns 0 → ns ≡ []
empty [] e = refl
empty (n ∷ ns) e = absurd (cc)

-- one pair less of a subscriber
pub one_less : (old new : Edges) (s p : ℕ) → IsUnlinked old s p new → Some p ≡ slice_get (places_of old s) 0
    → length (places_of new s) + 1 ≤ length (places_of old s)
one_less old new s p gone first =
    let left : places_of new s ≡ without p (places_of old s) =
    gone.of_subscriber s ∙ ap (λ b. cond b (without p (places_of old s)) (places_of old s)) (same_itself s)
    in
    let less = shorter p (places_of old s) first in
    let same = ap length left in
    omega (arith, less, same)

-- what was taken out so far is of the subscriber
pub record DroppedSoFar (old : Edges) (s : ℕ) (now : Edges) : Type 0 where
  pub at_place : (q : ℕ) → without s (subscribers_at now q) ≡ without s (subscribers_at old q)
  pub of_subscriber : (t : ℕ) → nat_eq t s ≡ false → places_of now t ≡ places_of old t

-- one pair more goes
pub dropped_more : (old now new : Edges) (s p : ℕ) → DroppedSoFar old s now → IsUnlinked now s p new → DroppedSoFar old s new
dropped_more old now new s p so gone = record {
  at_place = λ q. ap (without s) (gone.at_place q) ∙ without-again (nat_eq q p) s (subscribers_at now q) ∙ so.at_place q;
  of_subscriber = λ t e. gone.of_subscriber t ∙ ap (λ b. cond b (without p (places_of now t)) (places_of now t)) e ∙ so.of_subscriber t e;
}

-- where none is left, all are
pub dropped_all : (old now : Edges) (s : ℕ) → DroppedSoFar old s now → ((p : ℕ) → is_linked now s p ≡ false) → None ≡ slice_get (places_of now s) 0
    → IsDropped old s now
dropped_all old now s so none first = record {
  at_place = λ q. sym (without-none s (subscribers_at now q) (none q)) ∙ so.at_place q;
  of_subscriber = λ t. by t (nat_eq t s) refl;
}
  where
    by : (t : ℕ) (b : Bool) → nat_eq t s ≡ b → places_of now t ≡ cond b [] (places_of old t)
    by t true e = ap (places_of now) (same_number t s e) ∙ empty (places_of now s) first
    by t false e = so.of_subscriber t e

-- what holds where there is nothing
pub under_none : {A : Type 0} (o : Option A) (P : Type 0) → o ≡ None → IfNone o P → P
under_none None P e p = p
under_none (Some x) P e p = absurd (cc)
