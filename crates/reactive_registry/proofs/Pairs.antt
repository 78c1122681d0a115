-- What a pair of a subscriber and an address, come or gone, leaves of the two directions.
use Rattle.std.proofs.Common.{◌≡◌, ℕ, ◌≤◌, Bool, true, false, cond, ◌&&◌, List, [], ◌∷◌, ◌++◌, filter, Some, None, refl, sym, ap, subst, ◌∙◌}
use Rattle.std.specs.List.{AllByRecursion}
use Rattle.std.specs.Option.{option_map_or}
use Rattle.std.specs.Ordering.{nat_cmp}
use Rattle.std.specs.BTreeMap.{is_at}
use Rattle.std.proofs.lemmas.List.Elements.{recursion_from_All}
use Rattle.std.proofs.lemmas.Map.Lookups.{exact_unsigned}
use Rattle.plain_data.proofs.Entries.{equal}
use Rattle.rdt_types.specs.declared.address.Address.{Address}
use Rattle.rdt_types.specs.Addresses.{address_cmp}
use Rattle.rdt_types.proofs.Addresses.{address_cmp-equal}
use Rattle.change_feed.specs.declared.change.Change.{Change}
use Rattle.change_feed.specs.Tails.{IsTail}
use Rattle.reactive_registry.specs.declared.places.Places.{Places}
use Rattle.reactive_registry.specs.Registered.{Kept, kept_in, is_address}
use Rattle.reactive_registry.specs.Places.{links, AreLinked}

-- numbers that compare as equal are one
pub same_number : (s t : ℕ) → is_at (nat_cmp s) t ≡ true → s ≡ t
same_number s t e = exact_unsigned s t (equal (nat_cmp s t) e)

-- addresses that compare as equal are one
pub same_address : (a b : Address) → is_at (address_cmp a) b ≡ true → a ≡ b
same_address a b e = address_cmp-equal a b (equal (address_cmp a b) e)

-- where an address has an answer already, nothing changes
pub address_there : (f : Address → Bool) (k : Address) (w : Bool) → f k ≡ w → (a : Address) → f a ≡ cond (is_at (address_cmp k) a) w (f a)
address_there f k w e a = by (is_at (address_cmp k) a) refl
  where
    by : (b : Bool) → is_at (address_cmp k) a ≡ b → f a ≡ cond b w (f a)
    by true same = ap f (sym (same_address k a same)) ∙ e
    by false same = refl

-- and so of a pair
pub pair_there : (f : Address → ℕ → Bool) (k : Address) (s : ℕ) (w : Bool) → f k s ≡ w
    → (a : Address) (t : ℕ) → f a t ≡ cond (is_at (address_cmp k) a && is_at (nat_cmp s) t) w (f a t)
pair_there f k s w e a t = by (is_at (address_cmp k) a) (is_at (nat_cmp s) t) refl refl
  where
    by : (b c : Bool) → is_at (address_cmp k) a ≡ b → is_at (nat_cmp s) t ≡ c → f a t ≡ cond (b && c) w (f a t)
    by true true p q = ap (λ x. f x t) (sym (same_address k a p)) ∙ ap (f k) (sym (same_number s t q)) ∙ e
    by true false p q = refl
    by false c p q = refl

-- what came and went again
pub come_and_gone : (b : Bool) (x : Bool) → cond b false (cond b true x) ≡ cond b false x
come_and_gone true x = refl
come_and_gone false x = refl

-- ---- the two directions

module _ (front : ℕ) (es es' : List (ℕ × Kept)) (p p' : Places) where
  -- both are as before
  pub linked_as_before : AreLinked front es p → ((q : ℕ) → kept_in es' q ≡ kept_in es q) → ((a : Address) (t : ℕ) → links p' a t ≡ links p a t)
      → AreLinked front es' p'
  linked_as_before old kept places = record {
    both_ways = λ q a. places a q ∙ old.both_ways q a ∙ sym (ap (λ o. option_map_or (λ k. is_address k a) o false) (kept q));
    followed = λ q k e. old.followed q k (sym (kept q) ∙ e);
  }

  -- a pair came or went, in both
  pub linked_pair : (s : ℕ) (k : Address) (kept kept' : Kept) (w : Bool) → AreLinked front es p → kept_in es s ≡ Some kept
      → ((q : ℕ) → kept_in es' q ≡ cond (is_at (nat_cmp s) q) (Some kept') (kept_in es q))
      → ((a : Address) → is_address kept' a ≡ cond (is_at (address_cmp k) a) w (is_address kept a))
      → AllByRecursion (λ c. c.number ≤ front) kept'.changes
      → ((a : Address) (t : ℕ) → links p' a t ≡ cond (is_at (address_cmp k) a && is_at (nat_cmp s) t) w (links p a t))
      → AreLinked front es' p'
  linked_pair s k kept kept' w old found puts has all places = record {
    both_ways = λ q a. places a q ∙ both q a (is_at (nat_cmp s) q) refl ∙ sym (ap (λ o. option_map_or (λ x. is_address x a) o false) (puts q));
    followed = λ q x e. changes q x (is_at (nat_cmp s) q) (sym (puts q) ∙ e);
  }
    where
      here : (q : ℕ) (a : Address) → is_at (nat_cmp s) q ≡ true → links p a q ≡ is_address kept a
      here q a e = old.both_ways q a ∙ ap (λ o. option_map_or (λ x. is_address x a) o false) (ap (kept_in es) (sym (same_number s q e)) ∙ found)

      both : (q : ℕ) (a : Address) (c : Bool) → is_at (nat_cmp s) q ≡ c
          → cond (is_at (address_cmp k) a && c) w (links p a q) ≡ option_map_or (λ x. is_address x a) (cond c (Some kept') (kept_in es q)) false
      both q a true e = by (is_at (address_cmp k) a) ∙ sym (has a)
        where
          by : (b : Bool) → cond (b && true) w (links p a q) ≡ cond b w (is_address kept a)
          by true = refl
          by false = here q a e
      both q a false e = by (is_at (address_cmp k) a) ∙ old.both_ways q a
        where
          by : (b : Bool) → cond (b && false) w (links p a q) ≡ links p a q
          by true = refl
          by false = refl

      changes : (q : ℕ) (x : Kept) (c : Bool) → cond c (Some kept') (kept_in es q) ≡ Some x → AllByRecursion (λ c. c.number ≤ front) x.changes
      changes q x true e = let is : kept' ≡ x = cc in subst (λ (y : Kept). AllByRecursion (λ c. c.number ≤ front) y.changes) is all
      changes q x false e = old.followed q x e

-- one is gone, from both
pub linked_left : (front : ℕ) (es es' : List (ℕ × Kept)) (p p' : Places) (s : ℕ) → AreLinked front es p
    → ((q : ℕ) → kept_in es' q ≡ cond (is_at (nat_cmp s) q) None (kept_in es q))
    → ((a : Address) (t : ℕ) → links p' a t ≡ cond (is_at (nat_cmp s) t) false (links p a t)) → AreLinked front es' p'
linked_left front es es' p p' s old gone places = record {
  both_ways = λ q a. places a q ∙ by q a (is_at (nat_cmp s) q) ∙ sym (ap (λ o. option_map_or (λ k. is_address k a) o false) (gone q));
  followed = λ q k e. changes q k (is_at (nat_cmp s) q) (sym (gone q) ∙ e);
}
  where
    by : (q : ℕ) (a : Address) (b : Bool) → cond b false (links p a q) ≡ option_map_or (λ k. is_address k a) (cond b None (kept_in es q)) false
    by q a true = refl
    by q a false = old.both_ways q a

    changes : (q : ℕ) (k : Kept) (b : Bool) → cond b None (kept_in es q) ≡ Some k → AllByRecursion (λ c. c.number ≤ front) k.changes
    changes q k true e = absurd (cc)
    changes q k false e = old.followed q k e

-- what is kept of one is put back as it was
pub put_back : (es : List (ℕ × Kept)) (s : ℕ) (kept kept' : Kept) → kept_in es s ≡ Some kept → kept' ≡ kept
    → (q : ℕ) → cond (is_at (nat_cmp s) q) (Some kept') (kept_in es q) ≡ kept_in es q
put_back es s kept kept' found same q = by (is_at (nat_cmp s) q) refl
  where
    by : (c : Bool) → is_at (nat_cmp s) q ≡ c → cond c (Some kept') (kept_in es q) ≡ kept_in es q
    by true e = ap (λ x. Some x) same ∙ sym found ∙ ap (kept_in es) (same_number s q e)
    by false e = refl

-- ---- changes up to a front

-- each change is of a commit up to a front
abbrev pub UpTo : ℕ → List Change → Type 0
UpTo front changes = AllByRecursion (λ c. c.number ≤ front) changes

-- some of the changes up to a front are up to it too
pub up_to-filter : (front : ℕ) (test : Change → Bool) (changes : List Change) → UpTo front changes → UpTo front (filter test changes)
up_to-filter front test [] all = tt
up_to-filter front test (c ∷ changes) all = by (test c) (up_to-filter front test changes all.1)
  where
    by : (b : Bool) → UpTo front (filter test changes) → UpTo front (cond b (c ∷ filter test changes) (filter test changes))
    by true rest = (all.0, rest)
    by false rest = rest

-- two lists of changes up to a front are up to it when they are joined
pub up_to-append : (front : ℕ) (changes later : List Change) → UpTo front changes → UpTo front later → UpTo front (changes ++ later)
up_to-append front [] later first second = second
up_to-append front (c ∷ changes) later first second = (first.0, up_to-append front changes later first.1 second)

-- the changes of a tail are up to where it goes
pub up_to-tail : (from to : ℕ) (changes : List Change) → IsTail from to changes → UpTo to changes
up_to-tail from to changes tail = recursion_from_All (λ c. c.number ≤ to) changes (λ k d within. (tail.within k d within).1)
