-- The least pair among changes is the first of the journal's pairs.
use Rattle.std.proofs.Common.{◌≡◌, ℕ, ◌+◌, ◌<◌, Bool, true, false, nat_lt, ◌||◌, List, [], ◌∷◌, ◌++◌, Option, Some, None, slice_get, refl, sym}
use Rattle.std.proofs.Common.{ap, ◌∙◌, arith, cond}
use Rattle.std.specs.List.{list_any}
use Rattle.std.proofs.lemmas.Bool.{le-ltb, lt-ltb}
use Rattle.rdt_types.specs.DeltaMaps.{Deltas}
use Rattle.change_feed.specs.declared.change.Change.{Change}
use Rattle.abort_witness.specs.declared.witness.Based.{Based}
use Rattle.abort_witness.specs.declared.witness.Found.{Found}
use Rattle.abort_witness.specs.Pairs.{clashes, first_clash, found_at, lesser, least_from}
use Rattle.txn_lang.specs.declared.commit.Commit.{Commit}
use Rattle.txn_lang.specs.States.{Journal}
use Rattle.journal_core.specs.Changes.{changes_by, changes_of, changes}
use Rattle.journal_core.specs.Pairs.{hits_from, pairs, AreNumberedFrom, LeastIsFirst}
use Rattle.journal_core.specs.code.Rising.{Rises}
use Rattle.journal_core.proofs.Rising.{rises_lower, one_commit}

-- the number where some change of a commit clashes, else what is found behind it
abbrev here_or : Bool → ℕ → Option ℕ → Option ℕ
here_or b n later = cond b (Some n) later

-- the first clash in the changes of one commit and then in others
commit-first : (based : Based) (n : ℕ) (deltas : Deltas) (rest : List Change)
    → first_clash based (changes_by n deltas ++ rest) ≡ here_or (list_any (clashes based) (changes_by n deltas)) n (first_clash based rest)
commit-first based n [] rest = refl
commit-first based n (pair ∷ deltas) rest =
    by_clash (commit-first based n deltas rest) (clashes based (record { number = n; address = pair.0; delta = pair.1 })) refl
  where
    by_clash : first_clash based (changes_by n deltas ++ rest) ≡ here_or (list_any (clashes based) (changes_by n deltas)) n (first_clash based rest)
        → (b : Bool) → clashes based (record { number = n; address = pair.0; delta = pair.1 }) ≡ b
        → cond b (Some n) (first_clash based (changes_by n deltas ++ rest))
        ≡ here_or (b || list_any (clashes based) (changes_by n deltas)) n (first_clash based rest)
    by_clash later true here = refl
    by_clash later false here = later

-- a find is behind a number, if there is one
abbrev Behind : ℕ → Option Found → Type 0
Behind n None = Unit {0}
Behind n (Some found) = n < found.number

-- a number is behind another, if there is one
abbrev BehindNumber : ℕ → Option ℕ → Type 0
BehindNumber n None = Unit {0}
BehindNumber n (Some number) = n < number

-- the first clash is at one of the changes
first-behind : (n : ℕ) (based : Based) (all : List Change) → Rises (n + 1) all → BehindNumber n (first_clash based all)
first-behind n based [] rises = tt
first-behind n based (change ∷ rest) rises = by_clash (first-behind n based rest (lowered rest rises.1)) (clashes based change)
  where
    lowered : (rest : List Change) → Rises change.number rest → Rises (n + 1) rest
    lowered [] later = tt
    lowered (next ∷ others) later = (omega (arith, rises.0, later.0), later.1)

    by_clash : BehindNumber n (first_clash based rest) → (b : Bool) → BehindNumber n (cond b (Some change.number) (first_clash based rest))
    by_clash later true = omega (arith, rises.0)
    by_clash later false = later

-- of two that are behind a number the lesser is
lesser-behind : (n place : ℕ) (number : Option ℕ) (second : Option Found) → BehindNumber n number → Behind n second
    → Behind n (lesser (found_at place number) second)
lesser-behind n place None second first later = later
lesser-behind n place (Some number) None first later = first
lesser-behind n place (Some number) (Some found) first later = by_number (nat_lt found.number number)
  where
    by_number : (b : Bool) → Behind n (cond b (Some found) (Some (record { place = place; number = number })))
    by_number true = later
    by_number false = first

-- what is found among changes behind a number is behind it
least-behind : (n place : ℕ) (based : List Based) (all : List Change) → Rises (n + 1) all → Behind n (least_from place based all)
least-behind n place [] all rises = tt
least-behind n place (first ∷ rest) all rises =
    lesser-behind n place (first_clash first all) (least_from (place + 1) rest all) (first-behind n first all rises) (least-behind n (place + 1) rest all rises)

-- the first of some, or else another
abbrev first_or : List Found → Option Found → Option Found
first_or [] other = other
first_or (found ∷ rest) other = Some found

-- the first of some has this number
abbrev StartsAt : ℕ → List Found → Type 0
StartsAt n [] = Unit {0}
StartsAt n (found ∷ rest) = found.number ≡ n

-- the hits of a commit have its number
hits-start : (place : ℕ) (based : List Based) (commit : Commit) → StartsAt commit.number (hits_from place based commit)
hits-start place [] commit = tt
hits-start place (first ∷ rest) commit = by_clash (hits-start (place + 1) rest commit) (list_any (clashes first) (changes_of commit))
  where
    by_clash : StartsAt commit.number (hits_from (place + 1) rest commit) → (b : Bool)
        → StartsAt commit.number (cond b (record { place = place; number = commit.number } ∷ hits_from (place + 1) rest commit)
        (hits_from (place + 1) rest commit))
    by_clash later true = refl
    by_clash later false = later

-- a hit at a place comes before the other hits of its commit, and before what is found behind the commit
here-first : (n place : ℕ) (hits : List Found) (later : Option Found) → StartsAt n hits → Behind n later
    → lesser (Some (record { place = place; number = n })) (first_or hits later) ≡ Some (record { place = place; number = n })
here-first n place [] None starts behind = refl
here-first n place [] (Some found) starts behind = rw (le-ltb found.number n (omega (arith, behind))) refl
here-first n place (found ∷ rest) later starts behind = rw (le-ltb found.number n (omega (arith, starts))) refl

-- what is found behind a commit comes behind its hits
later-first : (n place : ℕ) (number : Option ℕ) (hits : List Found) (later : Option Found) → StartsAt n hits → BehindNumber n number
    → lesser (found_at place number) (first_or hits later) ≡ first_or hits (lesser (found_at place number) later)
later-first n place number [] later starts behind = refl
later-first n place None (found ∷ rest) later starts behind = refl
later-first n place (Some number) (found ∷ rest) later starts behind = rw (lt-ltb found.number number (omega (arith, starts, behind))) refl

-- among the changes of a commit and then others, the first hit of the commit is the least pair, if it has one
least-hits : (place : ℕ) (based : List Based) (commit : Commit) (rest : List Change) → Rises (commit.number + 1) rest
    → least_from place based (changes_of commit ++ rest) ≡ first_or (hits_from place based commit) (least_from place based rest)
least-hits place [] commit rest rises = refl
least-hits place (first ∷ others) commit rest rises =
    rw (commit-first first commit.number commit.deltas rest, least-hits (place + 1) others commit rest rises)
    (by_clash (list_any (clashes first) (changes_of commit)))
  where
    by_clash : (b : Bool)
        → lesser (found_at place (here_or b commit.number (first_clash first rest)))
        (first_or (hits_from (place + 1) others commit) (least_from (place + 1) others rest))
        ≡ first_or (cond b (record { place = place; number = commit.number } ∷ hits_from (place + 1) others commit) (hits_from (place + 1) others commit))
        (lesser (found_at place (first_clash first rest)) (least_from (place + 1) others rest))
    by_clash true =
        here-first commit.number place (hits_from (place + 1) others commit) (least_from (place + 1) others rest)
        (hits-start (place + 1) others commit) (least-behind commit.number (place + 1) others rest rises)
    by_clash false =
        later-first commit.number place (first_clash first rest) (hits_from (place + 1) others commit) (least_from (place + 1) others rest)
        (hits-start (place + 1) others commit) (first-behind commit.number first rest rises)

-- without changes there is no pair
none-found : (place : ℕ) (based : List Based) → least_from place based [] ≡ None
none-found place [] = refl
none-found place (first ∷ rest) = none-found (place + 1) rest

-- the first of two lists
first-of_both : (hits later : List Found) → slice_get (hits ++ later) 0 ≡ first_or hits (slice_get later 0)
first-of_both [] later = refl
first-of_both (found ∷ rest) later = refl

-- commits behind a number have changes behind it
rise-behind : (n : ℕ) (journal : Journal) → AreNumberedFrom n journal → Rises (n + 1) (changes journal)
rise-behind n [] numbered = tt
rise-behind n (commit ∷ rest) numbered =
    rises_lower (n + 1) commit.number (changes (commit ∷ rest)) (omega (arith, numbered.0))
    (one_commit commit.number commit.deltas (changes rest)
    (rises_lower commit.number (n + 1 + 1) (changes rest) (omega (arith, numbered.0)) (rise-behind (n + 1) rest numbered.1)))

-- from a number on
least-first : (n : ℕ) (based : List Based) (journal : Journal) → AreNumberedFrom n journal
    → least_from 0 based (changes journal) ≡ slice_get (pairs based journal) 0
least-first n based [] numbered = none-found 0 based
least-first n based (commit ∷ rest) numbered =
    least-hits 0 based commit (changes rest) (rw numbered.0 (rise-behind (n + 1) rest numbered.1))
    ∙ ap (first_or (hits_from 0 based commit)) (least-first (n + 1) based rest numbered.1)
    ∙ sym (first-of_both (hits_from 0 based commit) (pairs based rest))

-- the least pair in the changes of a journal is its first pair
pub least-is-first : LeastIsFirst
least-is-first based journal numbered = least-first 0 based journal numbered
