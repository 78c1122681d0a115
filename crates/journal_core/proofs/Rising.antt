-- Lists of changes in the order of their commits.
use Rattle.std.proofs.Common.{◌≡◌, ℕ, ◌+◌, ◌-◌, ◌<◌, ◌≤◌, zero, suc, Bool, true, false, not, nat_lt, nat_le, List, [], ◌∷◌, ◌++◌, map, filter, length}
use Rattle.std.proofs.Common.{take, drop, get_or, refl, sym, ap, ◌∙◌, arith, cond}
use Rattle.std.specs.List.Sorted.{IsPartitionPoint, IsPartitionedBy, IsNonDecreasingBy}
use Rattle.std.proofs.lemmas.Grind.{common_steps}
use Rattle.std.specs.List.{All}
use Rattle.std.proofs.lemmas.List.Elements.{All-filter, All-nil, All-cons}
use Rattle.std.proofs.lemmas.List.Sorted.{all_adjacent_from_non_decreasing}
use Rattle.change_feed.specs.Tails.{IsTail}
use Rattle.rdt_types.specs.DeltaMaps.{Deltas}
use Rattle.change_feed.specs.declared.change.Change.{Change}
use Rattle.txn_lang.specs.States.{Journal}
use Rattle.std.proofs.Common.{append-nil, append_assoc}
use Rattle.std.proofs.Math.Seq.{drop-nil, take-add}
use Rattle.std.proofs.lemmas.List.{drop-drop, length-drop}
use Rattle.txn_lang.specs.declared.commit.Commit.{Commit}
use Rattle.journal_core.specs.Changes.{changes, changes_of, past, up_to}
use Rattle.journal_core.specs.Pairs.{AreNumberedFrom}
use Rattle.journal_core.specs.code.Rising.{Rises}
use Rattle.journal_core.specs.code.Parts.{IsPartedAt, IsUpToBefore}

-- what rises from a number rises from a lesser one
pub rises_lower : (m n : ℕ) (all : List Change) → m ≤ n → Rises n all → Rises m all
rises_lower m n [] within rises = tt
rises_lower m n (change ∷ rest) within rises = (omega (arith, within, rises.0), rises.1)

-- what is left out leaves the rest in order
pub rises-filter : (p : Change → Bool) (n : ℕ) (all : List Change) → Rises n all → Rises n (filter p all)
rises-filter p n [] rises = tt
rises-filter p n (change ∷ rest) rises = kept (p change) (rises-filter p change.number rest rises.1)
  where
    kept : (b : Bool) → Rises change.number (filter p rest) → Rises n (cond b (change ∷ filter p rest) (filter p rest))
    kept true later = (rises.0, later)
    kept false later = rises_lower n change.number (filter p rest) rises.0 later

-- the changes of one commit all have its number
pub one_commit : (n : ℕ) (deltas : Deltas) (rest : List Change) → Rises n rest
    → Rises n (map (λ pair. record { number = n; address = pair.0; delta = pair.1 }) deltas ++ rest)
one_commit n [] rest rises = rises
one_commit n (pair ∷ deltas) rest rises = (omega arith, one_commit n deltas rest rises)

-- the changes of a journal are in order
pub changes-rise : (n : ℕ) (journal : Journal) → AreNumberedFrom n journal → Rises n (changes journal)
changes-rise n [] numbered = tt
changes-rise n (commit ∷ rest) numbered =
    rises_lower n commit.number (changes (commit ∷ rest)) (omega (arith, numbered.0))
    (one_commit commit.number commit.deltas (changes rest) (rw numbered.0 (changes-rise (n + 1) rest numbered.1)))

-- no number is below the one from which they rise
pub rises-at : (n : ℕ) (all : List Change) (j : ℕ) (d : Change) → Rises n all → j < length all → n ≤ (get_or all j d).number
rises-at n [] j d rises within = absurd (omega (arith, within))
rises-at n (change ∷ rest) zero d rises within = rises.0
rises-at n (change ∷ rest) (suc j) d rises within =
    let later = rises-at change.number rest j d rises.1 (omega (arith, within)) in omega (arith, later, rises.0)

-- the same by places
pub non_decreasing : (n : ℕ) (all : List Change) → Rises n all → IsNonDecreasingBy (λ change. change.number) all
non_decreasing n [] rises i j d order within = absurd (omega (arith, within))
non_decreasing n (change ∷ rest) rises zero zero d order within = omega arith
non_decreasing n (change ∷ rest) rises zero (suc j) d order within = rises-at change.number rest j d rises.1 (omega (arith, within))
non_decreasing n (change ∷ rest) rises (suc i) zero d order within = absurd (omega (arith, order))
non_decreasing n (change ∷ rest) rises (suc i) (suc j) d order within =
    non_decreasing change.number rest rises.1 i j d (omega (arith, order)) (omega (arith, within))

-- those up to a number stand before the others
pub partitioned : (m : ℕ) (all : List Change) → Rises 0 all → IsPartitionedBy (λ change. nat_le change.number m) all
partitioned m all rises i j d order within here = let at = non_decreasing 0 all rises i j d order within in grind (arith, at, here)

-- at the place between two parts, what passes is what stands before it
pub filter-front : {X : Type 0} (p : X → Bool) (xs : List X) (i : ℕ)
    → IsPartitionPoint (λ x. p x ≡ true) (λ x. p x ≡ false) xs i → i ≤ length xs → filter p xs ≡ take i xs
filter-front p [] zero point within = refl
filter-front p [] (suc i) point within = refl
filter-front p (x ∷ xs) zero point within =
    rw (point.1 0 x (omega arith) (omega arith)) (filter-front p xs zero (
      (λ k d low high. absurd (omega (arith, high))),
      λ k d low high. point.1 (suc k) d (omega arith) (omega (arith, high)),
    ) (omega arith))
filter-front p (x ∷ xs) (suc i) point within =
    rw (point.0 0 x (omega arith) (omega arith))
    (ap (λ ys. x ∷ ys) (filter-front p xs i (
      (λ k d low high. point.0 (suc k) d (omega arith) (omega (arith, high))),
      λ k d low high. point.1 (suc k) d (omega (arith, low)) (omega (arith, high)),
    ) (omega (arith, within))))

-- and what passes the opposite test stands behind it
pub filter-back : {X : Type 0} (p q : X → Bool) → ((x : X) → q x ≡ not (p x)) → (xs : List X) (i : ℕ)
    → IsPartitionPoint (λ x. p x ≡ true) (λ x. p x ≡ false) xs i → i ≤ length xs → filter q xs ≡ drop i xs
filter-back p q other [] zero point within = refl
filter-back p q other [] (suc i) point within = refl
filter-back p q other (x ∷ xs) zero point within =
    rw (other x) (rw (point.1 0 x (omega arith) (omega arith))
    (ap (λ ys. x ∷ ys) (filter-back p q other xs zero (
      (λ k d low high. absurd (omega (arith, high))),
      λ k d low high. point.1 (suc k) d (omega arith) (omega (arith, high)),
    ) (omega arith))))
filter-back p q other (x ∷ xs) (suc i) point within =
    rw (other x) (rw (point.0 0 x (omega arith) (omega arith))
    (filter-back p q other xs i (
      (λ k d low high. point.0 (suc k) d (omega arith) (omega (arith, high))),
      λ k d low high. point.1 (suc k) d (omega (arith, low)) (omega (arith, high)),
    ) (omega (arith, within))))

-- what stands before a change up to a number is up to it too, since the numbers rise
pub front-up_to : (m n : ℕ) (all : List Change) (i : ℕ) (d : Change) → Rises n all → i < length all → (get_or all i d).number ≤ m → IsUpToBefore m all i
front-up_to m n [] i d rises within at = absurd (omega (arith, within))
front-up_to m n (change ∷ rest) zero d rises within at = record { within = omega arith; up_to = refl; past = refl }
front-up_to m n (change ∷ rest) (suc i) d rises within at =
    let later = rises-at change.number rest i d rises.1 (omega (arith, within)) in
    let here : nat_le change.number m ≡ true = grind (arith, later, at) in
    let not_past : nat_lt m change.number ≡ false = grind (arith, later, at) in
    let more = front-up_to m change.number rest i d rises.1 (omega (arith, within)) at in
    record { within = omega (arith, within); up_to = rw here (ap (λ l. change ∷ l) more.up_to); past = rw not_past more.past }

-- what is left behind a place is in order
pub rises-drop : (n i : ℕ) (all : List Change) → Rises n all → Rises n (drop i all)
rises-drop n i [] rises = rw (drop-nil {A = Change} i) tt
rises-drop n zero (change ∷ rest) rises = rises
rises-drop n (suc i) (change ∷ rest) rises = rises_lower n change.number (drop i rest) rises.0 (rises-drop change.number i rest rises.1)

-- what is past a number isn't up to it
pub later : (m n : ℕ) → nat_lt m n ≡ not (nat_le n m)
later m n = grind arith

-- all that stands behind a place
pub all_behind : {X : Type 0} (xs : List X) (i : ℕ) → take (length xs - i) (drop i xs) ≡ drop i xs
all_behind xs i = grind (arith, common_steps)

-- where those up to a number come to an end the list is parted
pub parted-at : (m : ℕ) (all : List Change) (i : ℕ)
    → IsPartitionPoint (λ change. nat_le change.number m ≡ true) (λ change. nat_le change.number m ≡ false) all i → i ≤ length all → IsPartedAt m all i
parted-at m all i point within = record {
  within = within;
  up_to = sym (filter-front (λ change. nat_le change.number m) all i point within);
  past = sym (filter-back (λ change. nat_le change.number m) (λ change. nat_lt m change.number) (λ change. later m change.number) all i point within);
}

-- a list that is parted behind a place before which all is up to the number is parted there
pub parted-behind : (m : ℕ) (all : List Change) (i j : ℕ) → IsUpToBefore m all i → IsPartedAt m (drop i all) j → IsPartedAt m all (i + j)
parted-behind m all i j before parted = record {
  within = let w = parted.within in let u = before.within in let l = length-drop i all in omega (arith, w, u, l);
  up_to = take-add i j all ∙ ap (λ l. take i all ++ l) parted.up_to ∙ sym before.up_to;
  past = sym (drop-drop j i all) ∙ parted.past ∙ sym before.past;
}

-- the changes of one commit more stand at the end
pub changes-more : (journal : Journal) (commit : Commit) → changes (journal ++ commit ∷ []) ≡ changes journal ++ changes_of commit
changes-more [] commit = append-nil (changes_of commit)
changes-more (first ∷ rest) commit =
    ap (λ more. changes_of first ++ more) (changes-more rest commit) ∙ sym (append_assoc (changes_of first) (changes rest) (changes_of commit))

-- one commit more with the next number is numbered too
pub numbered-more : (n : ℕ) (journal : Journal) (commit : Commit) → AreNumberedFrom n journal → commit.number ≡ n + length journal + 1
    → AreNumberedFrom n (journal ++ commit ∷ [])
numbered-more n [] commit numbered is = (omega (arith, is), tt)
numbered-more n (first ∷ rest) commit numbered is = (numbered.0, numbered-more (n + 1) rest commit numbered.1 (omega (arith, is)))

-- what passes a test passes it
all_pass : {X : Type 0} (p : X → Bool) (xs : List X) → All (λ x. p x ≡ true) (filter p xs)
all_pass p [] = All-nil (λ x. p x ≡ true)
all_pass p (x ∷ xs) = kept (p x) refl (all_pass p xs)
  where
    kept : (b : Bool) → p x ≡ b → All (λ x. p x ≡ true) (filter p xs) → All (λ x. p x ≡ true) (cond b (x ∷ filter p xs) (filter p xs))
    kept true here rest = All-cons (λ x. p x ≡ true) x (filter p xs) here rest
    kept false here rest = rest

-- changes past one number and up to another, in order, are a tail
tail_of : (first last : ℕ) (kept : List Change) → first ≤ last → Rises 0 kept
    → All (λ change. nat_lt first change.number ≡ true) kept → All (λ change. nat_le change.number last ≡ true) kept → IsTail first last kept
tail_of first last kept order rises low high = record {
  rises = order;
  within = λ k d here. let l = low k d here in let h = high k d here in (grind (arith, l), grind (arith, h));
  in_order = all_adjacent_from_non_decreasing (λ change. change.number) kept (non_decreasing 0 kept rises);
}

-- the changes between two numbers are in order, and within them
between-rises : (first last : ℕ) (all : List Change) → Rises 0 all → Rises 0 (past first (up_to last all))
between-rises first last all rises =
    rises-filter (λ change. nat_lt first change.number) 0 (up_to last all) (rises-filter (λ change. nat_le change.number last) 0 all rises)

-- the changes between two numbers are past the first, which is the outer test
between-low : (first last : ℕ) (all : List Change) → All (λ change. nat_lt first change.number ≡ true) (past first (up_to last all))
between-low first last all = all_pass (λ change. nat_lt first change.number) (up_to last all)

-- and up to the second, which the outer test can't undo
between-high : (first last : ℕ) (all : List Change) → All (λ change. nat_le change.number last ≡ true) (past first (up_to last all))
between-high first last all =
    All-filter (λ change. nat_lt first change.number) (λ change. nat_le change.number last ≡ true) (up_to last all)
    (all_pass (λ change. nat_le change.number last) all)

-- the changes between two numbers are a tail
pub all-are-tail : (first last : ℕ) (all : List Change) → first ≤ last → Rises 0 all → IsTail first last (past first (up_to last all))
all-are-tail first last all order rises =
    tail_of first last (past first (up_to last all)) order (between-rises first last all rises) (between-low first last all) (between-high first last all)

-- and so are some of them
pub some-are-tail : (p : Change → Bool) (first last : ℕ) (all : List Change) → first ≤ last → Rises 0 all
    → IsTail first last (filter p (past first (up_to last all)))
some-are-tail p first last all order rises =
    let part = past first (up_to last all) in
    tail_of first last (filter p part) order (rises-filter p 0 part (between-rises first last all rises))
    (All-filter p (λ change. nat_lt first change.number ≡ true) part (between-low first last all))
    (All-filter p (λ change. nat_le change.number last ≡ true) part (between-high first last all))
