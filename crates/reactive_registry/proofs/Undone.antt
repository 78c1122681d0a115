-- What is left of changes that were told and taken back, and what telling them one by one comes to.
use Rattle.std.proofs.Common.{◌≡◌, ℕ, ◌<◌, ◌≤◌, nat_le, Bool, true, false, cond, suc, List, [], ◌∷◌, ◌++◌, filter, Option, Some, None, option_map}
use Rattle.std.proofs.Common.{refl, sym, ap, subst, ◌||◌, ◌∙◌, arith}
use Rattle.std.specs.List.{All}
use Rattle.std.specs.Option.{option_map_or}
use Rattle.std.proofs.lemmas.List.{append_assoc, append-nil}
use Rattle.rdt_types.specs.declared.address.Address.{Address}
use Rattle.change_feed.specs.declared.change.Change.{Change}
use Rattle.change_feed.specs.Tails.{IsTail}
use Rattle.reactive_registry.specs.declared.places.Places.{Places}
use Rattle.reactive_registry.specs.Registered.{Kept, kept_in, is_address, told}
use Rattle.reactive_registry.specs.Places.{links, AreLinked}
use Rattle.reactive_registry.specs.code.Telling.{done_where, pushed, cut, told_along, cut_along, is_linked, ArePast, IsUpTo}
use Rattle.reactive_registry.proofs.Pairs.{up_to-filter, up_to-append, up_to-tail}

-- nothing up to a front is cut away
cut_same : (front : ℕ) (changes : List Change) → IsUpTo front changes → filter (λ c. nat_le c.number front) changes ≡ changes
cut_same front [] all = refl
cut_same front (c ∷ changes) all = by (nat_le c.number front) refl (cut_same front changes all.1)
  where
    kept : List Change
    kept = filter (λ c. nat_le c.number front) changes

    by : (b : Bool) → nat_le c.number front ≡ b → kept ≡ changes → cond b (c ∷ kept) kept ≡ c ∷ changes
    by true e rest = ap (λ l. c ∷ l) rest
    by false e rest = absurd (grind (arith, all.0))

-- one whose changes are all up to the front loses none of them when the rest is cut away
pub kept_up_to : (front : ℕ) (o : Option Kept) → ((kept : Kept) → o ≡ Some kept → IsUpTo front kept.changes) → option_map (cut front) o ≡ o
kept_up_to front None up_to = refl
kept_up_to front (Some kept) up_to = ap (λ l. Some (record kept { changes = l })) (cut_same front kept.changes (up_to kept refl))

-- what was told past the front, and only where it was linked, is gone after the way back
pub undone : (places : Places) (q front : ℕ) (changes : List Change) (o old : Option Kept) → option_map (cut front) o ≡ old
    → option_map (cut front) old ≡ old → (is_linked places q changes ≡ false → o ≡ old) → cut_along places q front changes o ≡ old
undone places q front [] o old first second elsewhere = elsewhere refl
undone places q front (c ∷ changes) o old first second elsewhere =
    by (links places c.address q) refl (λ x e out. undone places q front changes x old e second out)
  where
    by : (b : Bool) → links places c.address q ≡ b
        → ((x : Option Kept) → option_map (cut front) x ≡ old → (is_linked places q changes ≡ false → x ≡ old) → cut_along places q front changes x ≡ old)
        → cut_along places q front changes (done_where b (cut front) o) ≡ old
    by true e rest = rest (option_map (cut front) o) (ap (option_map (cut front)) first ∙ second) (λ out. first)
    by false e rest = rest o first (λ out. elsewhere (ap (λ b. b || is_linked places q changes) e ∙ out))

-- ---- what is told one by one

-- one that stands exactly at its addresses is told of all changes there
told_one_by_one : (places : Places) (q : ℕ) (kept : Kept) (changes : List Change) → ((a : Address) → links places a q ≡ is_address kept a)
    → told_along places q changes (Some kept) ≡ Some (told changes kept)
told_one_by_one places q kept [] are = ap (λ l. Some (record kept { changes = l })) (sym (append-nil kept.changes))
told_one_by_one places q kept (c ∷ changes) are =
    by (links places c.address q) (are c.address) (told_one_by_one places q (pushed c kept) changes are) (told_one_by_one places q kept changes are)
  where
    rest : List Change
    rest = filter (λ change. is_address kept change.address) changes

    by : (b : Bool) → b ≡ is_address kept c.address
        → told_along places q changes (Some (pushed c kept)) ≡ Some (told changes (pushed c kept))
        → told_along places q changes (Some kept) ≡ Some (told changes kept)
        → told_along places q changes (done_where b (pushed c) (Some kept)) ≡ Some (told (c ∷ changes) kept)
    by true e there here =
        there
        ∙ ap (λ l. Some (record kept { changes = l })) (append_assoc kept.changes (c ∷ []) rest)
        ∙ ap (λ b. Some (record kept { changes = kept.changes ++ cond b (c ∷ rest) rest })) e
    by false e there here = here ∙ ap (λ b. Some (record kept { changes = kept.changes ++ cond b (c ∷ rest) rest })) e

-- where none is kept none is told
told_none : (places : Places) (q : ℕ) (changes : List Change) → told_along places q changes None ≡ None
told_none places q [] = refl
told_none places q (c ∷ changes) = by (links places c.address q) (told_none places q changes)
  where
    by : (b : Bool) → told_along places q changes None ≡ None → told_along places q changes (done_where b (pushed c) None) ≡ None
    by true e = e
    by false e = e

-- by whether one is kept: it is told of the changes at its addresses, and where none is kept none is told
pub told_each : (places : Places) (q : ℕ) (changes : List Change) (o : Option Kept)
    → ((a : Address) → links places a q ≡ option_map_or (λ k. is_address k a) o false) → told_along places q changes o ≡ option_map (told changes) o
told_each places q changes None are = told_none places q changes
told_each places q changes (Some kept) are = told_one_by_one places q kept changes are

-- ---- both directions afterwards

-- changes up to a front are up to each later one
pub up_to-more : (front to : ℕ) (changes : List Change) → front ≤ to → IsUpTo front changes → IsUpTo to changes
up_to-more front to [] le all = tt
up_to-more front to (c ∷ changes) le all = (omega (arith, all.0), up_to-more front to changes le all.1)

-- the changes of a tail are past where it comes from
pub past-tail : (from to : ℕ) (changes : List Change) → IsTail from to changes → ArePast from changes
past-tail from to changes tail = each changes tail.within
  where
    each : (changes : List Change) → All (λ c. (from < c.number) × (c.number ≤ to)) changes → ArePast from changes
    each [] all = tt
    each (c ∷ changes) all = ((all 0 c (omega arith)).0, each changes (λ k d h. all (suc k) d (omega arith)))

module _ (from to : ℕ) (changes : List Change) (tail : IsTail from to changes) (es es' : List (ℕ × Kept)) (places : Places) where
  -- telling changes no address, so the links stay; what is told is of the tail, and so up to its end
  pub linked_told : AreLinked from es places → ((q : ℕ) → kept_in es' q ≡ option_map (told changes) (kept_in es q)) → AreLinked to es' places
  linked_told old is = record {
    both_ways = λ q a. old.both_ways q a ∙ same a (kept_in es q) ∙ sym (ap (λ o. option_map_or (λ k. is_address k a) o false) (is q));
    followed = λ q kept e. all (kept_in es q) (old.followed q) kept (sym (is q) ∙ e);
  }
    where
      same : (a : Address) (o : Option Kept) → option_map_or (λ k. is_address k a) o false
          ≡ option_map_or (λ k. is_address k a) (option_map (told changes) o) false
      same a None = refl
      same a (Some kept) = refl

      all : (o : Option Kept) → ((kept : Kept) → o ≡ Some kept → IsUpTo from kept.changes) → (kept : Kept) → option_map (told changes) o ≡ Some kept
          → IsUpTo to kept.changes
      all None up_to kept e = absurd (cc)
      all (Some k) up_to kept e =
          let is : told changes k ≡ kept = cc in
          subst (λ (x : Kept). IsUpTo to x.changes) is
          (up_to-append to k.changes (filter (λ c. is_address k c.address) changes) (up_to-more from to k.changes tail.rises (up_to k refl))
          (up_to-filter to (λ c. is_address k c.address) changes (up_to-tail from to changes tail)))
