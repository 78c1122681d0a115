-- The least pair that is computed is the least of all pairs.
use Rattle.std.proofs.Common.{◌≡◌, ℕ, ◌+◌, ◌<◌, ◌≤◌, ◌⊎◌, inl, inr, zero, suc, Bool, true, false, cond, nat_lt, List, [], ◌∷◌, length, get_or, Option}
use Rattle.std.proofs.Common.{Some, None, slice_get, MatchOption, refl, ap, subst, ◌∙◌, arith}
use Rattle.std.proofs.lemmas.Bool.{cases_lt}
use Rattle.std.proofs.lemmas.List.Sorted.{IsNonDecreasingBy-from_all_adjacent}
use Rattle.std.specs.List.Sorted.{IsNonDecreasingBy}
use Rattle.change_feed.specs.declared.change.Change.{Change}
use Rattle.abort_witness.specs.declared.witness.Based.{Based}
use Rattle.abort_witness.specs.declared.witness.Found.{Found}
use Rattle.abort_witness.specs.Pairs.{clashes, first_clash, found_at, lesser, least, least_from, IsPair, IsUpTo, IsLeast, HasNoPair, LeastIsLeast}

-- ---- changes whose numbers don't fall

-- no change behind another has a lesser number
abbrev Rises : List Change → Type 0
Rises [] = Unit {0}
Rises (change ∷ rest) = ((i : ℕ) (other : Change) → slice_get rest i ≡ Some other → change.number ≤ other.number) × Rises rest

-- a place where a change stands is within the list
item-within : (changes : List Change) (i : ℕ) (change : Change) → slice_get changes i ≡ Some change → i < length changes
item-within [] i change e = absurd (cc)
item-within (first ∷ rest) zero change e = omega arith
item-within (first ∷ rest) (suc i) change e = let h = item-within rest i change e in omega arith

-- and is what an index reads there
item-read : (changes : List Change) (i : ℕ) (change d : Change) → slice_get changes i ≡ Some change → get_or changes i d ≡ change
item-read [] i change d e = absurd (cc)
item-read (first ∷ rest) zero change d e = cc
item-read (first ∷ rest) (suc i) change d e = item-read rest i change d e

-- numbers that don't fall from any place to a later one don't fall from the first to those behind it, nor among these
rises : (changes : List Change) → IsNonDecreasingBy (λ change. change.number) changes → Rises changes
rises [] order = tt
rises (change ∷ rest) order = (
  λ i other e.
      let inside = item-within rest i other e in
      let behind : change.number ≤ (get_or rest i change).number = order zero (suc i) change (omega arith) (omega (arith, inside)) in
      let same : get_or rest i change ≡ other = item-read rest i other change e in
      rw (ap (λ c. c.number) same) at behind,
  rises rest (λ i j d within inside. order (suc i) (suc j) d (omega arith) (omega (arith, inside))),
)

-- ---- one observation

-- a change of the commit of a number clashes with the observation
record Clashing (based : Based) (changes : List Change) (number : ℕ) : Type 0 where
  index : ℕ
  change : Change
  among : slice_get changes index ≡ Some change
  numbered : change.number ≡ number
  clashing : clashes based change ≡ true

-- none of the changes clashes, or the number is that of one that clashes, and no lesser one is
abbrev IsFirst : Based → List Change → Option ℕ → Type 0
IsFirst based changes None = (number : ℕ) → Clashing based changes number → ⊥
IsFirst based changes (Some first) = Clashing based changes first × ((number : ℕ) → Clashing based changes number → first ≤ number)

module _ (based : Based) (change : Change) (rest : List Change) where
  -- what clashes behind a change clashes among all
  one-behind : (number : ℕ) → Clashing based rest number → Clashing based (change ∷ rest) number
  one-behind number c = record { index = suc c.index; change = c.change; among = c.among; numbered = c.numbered; clashing = c.clashing }

  -- where the first doesn't clash, what clashes is behind it
  behind-at : (number index : ℕ) (other : Change) → clashes based change ≡ false → slice_get (change ∷ rest) index ≡ Some other → other.number ≡ number
      → clashes based other ≡ true → Clashing based rest number
  behind-at number zero other apart among numbered clashing = absurd (let same : change ≡ other = cc in let yes : clashes based change
      ≡ true = ap (clashes based) same ∙ clashing in cc)
  behind-at number (suc index) other apart among numbered clashing = record
      { index = index; change = other; among = among; numbered = numbered; clashing = clashing }

  -- a clash among all stands at some place, and not at the first
  behind : (number : ℕ) → clashes based change ≡ false → Clashing based (change ∷ rest) number → Clashing based rest number
  behind number apart c = behind-at number c.index c.change apart c.among c.numbered c.clashing

  -- no change has a lesser number than the first
  reached : Rises (change ∷ rest) → (index : ℕ) (other : Change) → slice_get (change ∷ rest) index ≡ Some other → change.number ≤ other.number
  reached rising zero other among = let same : change ≡ other = cc in let n : change.number ≡ other.number = ap (λ c. c.number) same in omega arith
  reached rising (suc index) other among = rising.0 index other among

-- a first change that clashes has the least number, as numbers don't fall; one that doesn't leaves it to those behind it
first-is : (based : Based) (changes : List Change) → Rises changes → IsFirst based changes (first_clash based changes)
first-is based [] rising = λ number c. absurd (let e = c.among in cc)
first-is based (change ∷ rest) rising = by (clashes based change) refl (first_clash based rest) (first-is based rest rising.1)
  where
    by : (b : Bool) → clashes based change ≡ b → (found : Option ℕ) → IsFirst based rest found
        → IsFirst based (change ∷ rest) (cond b (Some change.number) found)
    by true here found later = (
      record { index = zero; change = change; among = refl; numbered = refl; clashing = here },
      λ number c. let h = reached based change rest rising c.index c.change c.among in let n = c.numbered in omega (arith, h, n),
    )
    by false here None later = λ number c. later number (behind based change rest number here c)
    by false here (Some first) later = (one-behind based change rest first later.0, λ number c. later.1 number (behind based change rest number here c))

-- ---- observations from a place on

-- a pair of one of these observations
record PairFrom (place : ℕ) (based : List Based) (changes : List Change) (found : Found) : Type 0 where
  ahead : ℕ
  observation : Based
  at : found.place ≡ place + ahead
  placed : slice_get based ahead ≡ Some observation
  clash : Clashing observation changes found.number

-- there is no pair, or this is one and no other is lesser
abbrev IsBest : ℕ → List Based → List Change → Option Found → Type 0
IsBest place based changes None = (found : Found) → PairFrom place based changes found → ⊥
IsBest place based changes (Some found) = PairFrom place based changes found × ((other : Found) → PairFrom place based changes other → IsUpTo found other)

-- a lesser number comes first, and of one number a place that isn't behind
up_to : (first second : Found) → first.number ≤ second.number → first.place ≤ second.place → IsUpTo first second
up_to first second numbers places = by (cases_lt first.number second.number)
  where
    by : (first.number < second.number) ⊎ (second.number ≤ first.number) → IsUpTo first second
    by (inl h) = inl h
    by (inr h) = inr (omega (arith, h, numbers), places)

-- what comes first of three
up_to-along : (first second third : Found) → first.number ≤ second.number → first.place ≤ third.place → IsUpTo second third → IsUpTo first third
up_to-along first second third numbers places (inl h) = inl (omega (arith, h, numbers))
up_to-along first second third numbers places (inr h) = let n = h.0 in up_to first third (omega (arith, n, numbers)) places

module _ (place : ℕ) (based : Based) (others : List Based) (changes : List Change) where
  -- a pair is one of the first observation, or one of the others
  pair-split : (found : Found) → PairFrom place (based ∷ others) changes found
      → ((found.place ≡ place) × Clashing based changes found.number) ⊎ PairFrom (place + 1) others changes found
  pair-split found pair = by pair.ahead pair.at pair.placed
    where
      by : (ahead : ℕ) → found.place ≡ place + ahead → slice_get (based ∷ others) ahead ≡ Some pair.observation
          → ((found.place ≡ place) × Clashing based changes found.number) ⊎ PairFrom (place + 1) others changes found
      by zero at placed = let same : pair.observation ≡ based = cc in inl (omega (arith, at), subst (λ b. Clashing b changes found.number) same pair.clash)
      by (suc ahead) at placed = inr (record { ahead = ahead; observation = pair.observation; at = omega (arith, at); placed = placed; clash = pair.clash })

  -- what clashes with the first observation is a pair at its place
  first-pair : (number : ℕ) → Clashing based changes number → PairFrom place (based ∷ others) changes (record { place = place; number = number })
  first-pair number c = record { ahead = zero; observation = based; at = omega arith; placed = refl; clash = c }

  -- a pair of the other observations is one of all, at the same place
  later-pair : (found : Found) → PairFrom (place + 1) others changes found → PairFrom place (based ∷ others) changes found
  later-pair found pair = record {
    ahead = suc pair.ahead;
    observation = pair.observation;
    at =
        (let h = pair.at in omega (arith, h));
    placed = pair.placed;
    clash = pair.clash;
  }

  -- the best of one observation and the others
  best-both : (first : Option ℕ) (rest : Option Found) → IsFirst based changes first → IsBest (place + 1) others changes rest
      → IsBest place (based ∷ others) changes (lesser (found_at place first) rest)
  best-both None None here later = λ found pair. by found (pair-split found pair)
    where
      by : (found : Found) → ((found.place ≡ place) × Clashing based changes found.number) ⊎ PairFrom (place + 1) others changes found → ⊥
      by found (inl h) = here found.number h.1
      by found (inr h) = later found h
  best-both None (Some second) here later = (later-pair second later.0, λ other pair. by other (pair-split other pair))
    where
      by : (other : Found) → ((other.place ≡ place) × Clashing based changes other.number) ⊎ PairFrom (place + 1) others changes other → IsUpTo second other
      by other (inl h) = absurd (here other.number h.1)
      by other (inr h) = later.1 other h
  best-both (Some first) None here later = (first-pair first here.0, λ other pair. by other (pair-split other pair))
    where
      by : (other : Found) → ((other.place ≡ place) × Clashing based changes other.number) ⊎ PairFrom (place + 1) others changes other
          → IsUpTo (record { place = place; number = first }) other
      by other (inl h) = let p = h.0 in up_to (record { place = place; number = first }) other (here.1 other.number h.1) (omega (arith, p))
      by other (inr h) = absurd (later other h)
  best-both (Some first) (Some second) here later = by_number (nat_lt second.number first) refl
    where
      by_number : (b : Bool) → nat_lt second.number first ≡ b
          → IsBest place (based ∷ others) changes (cond b (Some second) (Some (record { place = place; number = first })))
      by_number true below = (later-pair second later.0, λ other pair. by other (pair-split other pair))
        where
          by : (other : Found) → ((other.place ≡ place) × Clashing based changes other.number) ⊎ PairFrom (place + 1) others changes other → IsUpTo second other
          by other (inl h) = let n = here.1 other.number h.1 in inl (grind (arith, n, below))
          by other (inr h) = later.1 other h
      by_number false below = (first-pair first here.0, λ other pair. by other (pair-split other pair))
        where
          by : (other : Found) → ((other.place ≡ place) × Clashing based changes other.number) ⊎ PairFrom (place + 1) others changes other
              → IsUpTo (record { place = place; number = first }) other
          by other (inl h) = let p = h.0 in up_to (record { place = place; number = first }) other (here.1 other.number h.1) (omega (arith, p))
          by other (inr h) =
              let p = h.at in
              let n : first ≤ second.number = grind (arith, below) in
              up_to-along (record { place = place; number = first }) second other n (omega (arith, p)) (later.1 other h)

-- observation by observation: the best of all is the lesser of the first one's first clash and the best of the others
best-is : (place : ℕ) (based : List Based) (changes : List Change) → Rises changes → IsBest place based changes (least_from place based changes)
best-is place [] changes rising = λ found pair. absurd (let e = pair.placed in cc)
best-is place (first ∷ others) changes rising =
    best-both place first others changes (first_clash first changes) (least_from (place + 1) others changes) (first-is first changes rising)
    (best-is (place + 1) others changes rising)

-- ---- all observations

-- a pair of all observations is one of those from place 0 on
pair-is : (based : List Based) (changes : List Change) (found : Found) → IsPair based changes found → PairFrom 0 based changes found
pair-is based changes found pair = record {
  ahead = found.place;
  observation = pair.observation;
  at = omega arith;
  placed = pair.placed;
  clash = record { index = pair.index; change = pair.change; among = pair.among; numbered = pair.numbered; clashing = pair.clashing };
}

-- and a pair of those from place 0 on is one of all
is-pair : (based : List Based) (changes : List Change) (found : Found) → PairFrom 0 based changes found → IsPair based changes found
is-pair based changes found pair =
    let c = pair.clash in
    let at : found.place ≡ pair.ahead = (let h = pair.at in omega (arith, h)) in record {
      observation = pair.observation;
      change = c.change;
      index = c.index;
      placed = ap (slice_get based) at ∙ pair.placed;
      among = c.among;
      numbered = c.numbered;
      clashing = c.clashing;
    }

-- numbers of a tail don't fall, and the best of the observations from place 0 on is the least of all pairs
pub least-is-least : LeastIsLeast
least-is-least based first last changes tail =
    by (least based changes) (best-is 0 based changes (rises changes (IsNonDecreasingBy-from_all_adjacent (λ change. change.number) changes tail.in_order)))
  where
    by : (found : Option Found) → IsBest 0 based changes found → MatchOption found (HasNoPair based changes) (IsLeast based changes)
    by None best = λ found pair. best found (pair-is based changes found pair)
    by (Some found) best = record { pair = is-pair based changes found best.0; least = λ other pair. best.1 other (pair-is based changes other pair) }
