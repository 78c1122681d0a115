-- How a book of holds has memory for one more.
use Rattle.std.proofs.Common.{◌≡◌, ℕ, ◌+◌, ◌-◌, ◌<◌, ◌≤◌, ◌==◌, Bool, true, false, cond, not, ◌&&◌, nat_lt, List, [], ◌∷◌, ◌++◌, length, filter, append-nil, subst, sym, refl, arith}
use Rattle.std.proofs.lemmas.Bool.{ltb-true}
use Rattle.std.specs.List.{AllByRecursion}
use Rattle.txn_lang.specs.declared.commit.Commit.{Commit}
use Rattle.txn_lang.specs.declared.run.Seen.{Seen}
use Rattle.journal_core.specs.declared.hold.Hold.{Hold}
use Rattle.journal_core.specs.declared.limits.TheConstants.{HOLD_LASTS}
use Rattle.journal_core.specs.Holds.{outlasts, hold_of, is_hold, with_hold, disturbs_some}
use Rattle.hold_core.specs.code.Kept.{RisePast, AreKept}

-- holds whose numbers rise from one number to another are no more than the numbers between
rise-count : (low high : ℕ) (holds : List Hold) → RisePast low holds → AllByRecursion (λ hold. hold.number ≤ high) holds → low ≤ high
    → low + length holds ≤ high
rise-count low high [] rising within order = omega (arith, order)
rise-count low high (hold ∷ rest) rising within order =
    let behind : hold.number + length rest ≤ high = rise-count hold.number high rest rising.1 within.1 within.0 in
    omega (arith, behind, rising.0)

-- what rises past a number rises past a lower one
rise-lower : (low more : ℕ) (holds : List Hold) → low ≤ more → RisePast more holds → RisePast low holds
rise-lower low more [] order rising = tt
rise-lower low more (hold ∷ rest) order rising = (omega (arith, order, rising.0), rising.1)

-- and past any number that all are past
rise-more : (low more : ℕ) (holds : List Hold) → AllByRecursion (λ hold. more < hold.number) holds → RisePast low holds → RisePast more holds
rise-more low more [] past rising = tt
rise-more low more (hold ∷ rest) past rising = (past.0, rising.1)

-- all of them are past that number
rise-all : (low : ℕ) (holds : List Hold) → RisePast low holds → AllByRecursion (λ hold. low < hold.number) holds
rise-all low [] rising = tt
rise-all low (hold ∷ rest) rising = (rising.0, rise-all low rest (rise-lower low hold.number rest (omega (arith, rising.0)) rising.1))

-- where some are left of holds, these rise, too
rise-filter : (test : Hold → Bool) (low : ℕ) (holds : List Hold) → RisePast low holds → RisePast low (filter test holds)
rise-filter test low [] rising = tt
rise-filter test low (hold ∷ rest) rising = by (test hold) (rise-filter test hold.number rest rising.1)
  where
    by : (b : Bool) → RisePast hold.number (filter test rest) → RisePast low (cond b (hold ∷ filter test rest) (filter test rest))
    by true behind = (rising.0, behind)
    by false behind = rise-lower low hold.number (filter test rest) (omega (arith, rising.0)) behind

-- and with one behind them that is past them all
rise-snoc : (low high : ℕ) (holds : List Hold) (hold : Hold) → RisePast low holds → AllByRecursion (λ h. h.number ≤ high) holds
    → low ≤ high → high < hold.number → RisePast low (holds ++ hold ∷ [])
rise-snoc low high [] hold rising within order past = (omega (arith, order, past), tt)
rise-snoc low high (first ∷ rest) hold rising within order past =
    (rising.0, rise-snoc first.number high rest hold rising.1 within.1 within.0 past)

-- what is so of all is so of those that are left
all-filter : (P : Hold → Type 0) (test : Hold → Bool) (holds : List Hold) → AllByRecursion P holds → AllByRecursion P (filter test holds)
all-filter P test [] all = tt
all-filter P test (hold ∷ rest) all = by (test hold) (all-filter P test rest all.1)
  where
    by : (b : Bool) → AllByRecursion P (filter test rest) → AllByRecursion P (cond b (hold ∷ filter test rest) (filter test rest))
    by true behind = (all.0, behind)
    by false behind = behind

-- what is so of all and what the test gives tell of all that are left
all-left : (P Q : Hold → Type 0) (test : Hold → Bool) (holds : List Hold) → ((hold : Hold) → P hold → test hold ≡ true → Q hold)
    → AllByRecursion P holds → AllByRecursion Q (filter test holds)
all-left P Q test [] gives all = tt
all-left P Q test (hold ∷ rest) gives all = by (test hold) refl (all-left P Q test rest gives all.1)
  where
    by : (b : Bool) → test hold ≡ b → AllByRecursion Q (filter test rest) → AllByRecursion Q (cond b (hold ∷ filter test rest) (filter test rest))
    by true is behind = (gives hold all.0 is, behind)
    by false is behind = behind

all-snoc : (P : Hold → Type 0) (holds : List Hold) (hold : Hold) → AllByRecursion P holds → P hold → AllByRecursion P (holds ++ hold ∷ [])
all-snoc P [] hold all last = (last, tt)
all-snoc P (first ∷ rest) hold all last = (all.0, all-snoc P rest hold all.1 last)

-- what is at most a number is at most a greater one
all-weaker : (n more : ℕ) (holds : List Hold) → n ≤ more → AllByRecursion (λ hold. hold.number ≤ n) holds
    → AllByRecursion (λ hold. hold.number ≤ more) holds
all-weaker n more [] order all = tt
all-weaker n more (hold ∷ rest) order all = (omega (arith, order, all.0), all-weaker n more rest order all.1)

-- the first of three tests that hold
first-of : (a b c : Bool) → (a && b && c) ≡ true → a ≡ true
first-of true b c e = refl
first-of false b c e = e

-- a hold past 0 that outlasts a commit is of the last ones behind it, too
outlasts-young : (commit : Commit) (hold : Hold) → 0 < hold.number → outlasts commit hold ≡ true → commit.number - HOLD_LASTS < hold.number
outlasts-young commit hold some e =
    let young : nat_lt commit.number (hold.number + HOLD_LASTS) ≡ true =
    first-of (nat_lt commit.number (hold.number + HOLD_LASTS)) (not (hold.client == commit.client))
    (not (disturbs_some commit.deltas hold.observations)) e in
    let below : commit.number < hold.number + HOLD_LASTS = ltb-true commit.number (hold.number + HOLD_LASTS) young in
    omega (arith, below, some)

-- what outlasts a commit are holds of its last commits
left-rise : (commit : Commit) (low : ℕ) (holds : List Hold) → RisePast low holds → RisePast (commit.number - HOLD_LASTS) (filter (outlasts commit) holds)
left-rise commit low holds rising =
    rise-more low (commit.number - HOLD_LASTS) (filter (outlasts commit) holds)
    (all-left (λ hold. 0 < hold.number) (λ hold. commit.number - HOLD_LASTS < hold.number) (outlasts commit) holds (outlasts-young commit)
    (rise-all 0 holds (rise-lower 0 low holds (omega arith) rising)))
    (rise-filter (outlasts commit) low holds rising)

-- behind the next commit there is memory for one more
pub room-left : (n capacity : ℕ) (holds : List Hold) (commit : Commit) → AreKept n holds capacity → commit.number ≡ n + 1
    → length (filter (outlasts commit) holds) < capacity
room-left n capacity holds commit kept next =
    let left : List Hold = filter (outlasts commit) holds in
    let rising : RisePast (commit.number - HOLD_LASTS) left = left-rise commit (n - HOLD_LASTS) holds kept.rising in
    let within : AllByRecursion (λ hold. hold.number ≤ n) left = all-filter (λ hold. hold.number ≤ n) (outlasts commit) holds kept.within in
    let count : (commit.number - HOLD_LASTS) + length left ≤ n =
    rise-count (commit.number - HOLD_LASTS) n left rising within (omega (arith, next)) in
    omega (arith, count, next, kept.room)

-- what is kept behind a commit that is a hold, or none
kept-with : (n later from : ℕ) (left : List Hold) (commit : Commit) (observations : List Seen) (b : Bool) → commit.number ≡ n + 1
    → RisePast (commit.number - HOLD_LASTS) left → AllByRecursion (λ hold. hold.number ≤ n) left → HOLD_LASTS ≤ later
    → AreKept commit.number (left ++ cond b (hold_of commit observations ∷ []) []) later
kept-with n later from left commit observations true next rising within room = record {
  rising = rise-snoc (commit.number - HOLD_LASTS) n left (hold_of commit observations) rising within (omega (arith, next)) (omega (arith, next));
  within = all-snoc (λ hold. hold.number ≤ commit.number) left (hold_of commit observations)
      (all-weaker n commit.number left (omega (arith, next)) within) (omega arith);
  room = room;
}
kept-with n later from left commit observations false next rising within room = record {
  rising = subst (λ (l : List Hold). RisePast (commit.number - HOLD_LASTS) l) (sym (append-nil left)) rising;
  within = subst (λ (l : List Hold). AllByRecursion (λ hold. hold.number ≤ commit.number) l) (sym (append-nil left))
      (all-weaker n commit.number left (omega (arith, next)) within);
  room = room;
}

-- and it is kept with what the commit leaves
pub kept-more : (n capacity later from : ℕ) (holds : List Hold) (commit : Commit) (observations : List Seen) → AreKept n holds capacity
    → commit.number ≡ n + 1 → capacity ≤ later → AreKept commit.number (with_hold from holds commit observations) later
kept-more n capacity later from holds commit observations kept next grown =
    kept-with n later from (filter (outlasts commit) holds) commit observations (is_hold from commit) next
    (left-rise commit (n - HOLD_LASTS) holds kept.rising)
    (all-filter (λ hold. hold.number ≤ n) (outlasts commit) holds kept.within)
    (omega (arith, kept.room, grown))
