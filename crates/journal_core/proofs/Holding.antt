-- The two parts of an append; and holds along a journal: what one commit more does to the live ones, that the first commits are none,
-- and that what bars is within the journal.
use Rattle.std.proofs.Common.{◌≡◌, ℕ, ◌+◌, ◌≤◌, nat_lt, Bool, true, false, cond, List, [], ◌∷◌, ◌++◌, filter, length}
use Rattle.std.proofs.Common.{Some, None, refl, sym, ap, ◌∙◌, subst, arith}
use Rattle.std.specs.Prelude.{◌==◌}
use Rattle.std.specs.List.{AllByRecursion}
use Rattle.std.proofs.lemmas.Bool.{le-ltb}
use Rattle.std.proofs.lemmas.List.{append-nil, append_assoc}
use Rattle.rdt_types.specs.DeltaMaps.{Deltas}
use Rattle.txn_lang.specs.declared.commit.Commit.{Commit}
use Rattle.txn_lang.specs.declared.run.Seen.{Seen}
use Rattle.txn_lang.specs.States.{Journal}
use Rattle.journal_core.specs.declared.appended.Appended.{Appended}
use Rattle.journal_core.specs.declared.appended.Appended.TheVariants as appended
use Rattle.journal_core.specs.declared.hold.Hold.{Hold}
use Rattle.journal_core.specs.declared.hold.Barred.{Barred}
use Rattle.journal_core.specs.declared.ready.Ready.{Ready}
use Rattle.journal_core.specs.declared.slot.Slot.{Slot}
use Rattle.journal_core.specs.Pairs.{AreNumberedFrom, AreNumbered}
use Rattle.journal_core.specs.Journals.{Standing, CanAppend, CanAdd, AddsBelow, Decides, found_past, with_commit}
use Rattle.journal_core.specs.Holds.{is_hold, disturbs_some, observed_alone, outlasts, hold_of, with_hold, live_from, live, bars_of, bars}
use Rattle.journal_core.proofs.Each.{each-filter, each-append}

-- ---- the two parts of an append

-- what may be appended may be added
pub can-add-of : (stands_for : List ℕ → Commit → Type 0) (ready : Ready) (slot : Slot) (standing : Standing) → CanAppend stands_for ready slot standing
    → CanAdd stands_for slot standing
can-add-of stands_for ready slot standing can = record {
  bytes = can.slot_is.bytes;
  room = can.slot_is.room;
  of_run = rw can.slot_is.made (record { run = ready.run; ran = can.run; outcome = refl; deltas = refl; body_text = can.body_text });
  next = rw can.slot_is.made (record { number = refl; seq = can.next });
}

-- where nothing clashes, what is left of an append is the decision
pub decides-clear : (stands_for : List ℕ → Commit → Type 0) (ready : Ready) (slot : Slot) (old : Standing) (answer : Appended) (new : Standing)
    → CanAppend stands_for ready slot old → found_past ready old ≡ None → AddsBelow slot.commit old answer new → Decides ready old answer new
decides-clear stands_for ready slot old (appended.Clash found) new can clear adds = absurd adds
decides-clear stands_for ready slot old (appended.Full limit) new can clear adds =
    (record { clear = clear; limit_is = adds.0; reached = adds.1 }, adds.2)
decides-clear stands_for ready slot old (appended.DiskFault before after) new can clear adds =
    (record { clear = clear; below = adds.0 }, adds.1, adds.2, adds.3)
decides-clear stands_for ready slot old (appended.Number number) new can clear adds =
    (record { clear = clear; below = adds.0 }, adds.1 ∙ ap (λ commit. commit.number) can.slot_is.made, adds.2 ∙ ap (with_commit old) can.slot_is.made)

-- ---- one commit more

-- what a commit observes counts only where it is a hold
pub with-hold-alike : (m : ℕ) (holds : List Hold) (commit : Commit) (one other : List Seen) → (is_hold m commit ≡ true → one ≡ other)
    → with_hold m holds commit one ≡ with_hold m holds commit other
with-hold-alike m holds commit one other same = ap (λ more. filter (outlasts commit) holds ++ more) (by (is_hold m commit) same)
  where
    by : (b : Bool) → (b ≡ true → one ≡ other) → cond b (hold_of commit one ∷ []) [] ≡ cond b (hold_of commit other ∷ []) []
    by true same = ap (λ seen. hold_of commit seen ∷ []) (same refl)
    by false same = refl

-- behind any commits the last of the others does its step last
live_from-snoc : (m : ℕ) (before : Journal) (holds : List Hold) (journal : Journal) (commit : Commit)
    → live_from m before holds (journal ++ commit ∷ [])
    ≡ with_hold m (live_from m before holds journal) commit (observed_alone (before ++ journal) commit)
live_from-snoc m before holds [] commit = ap (λ all. with_hold m holds commit (observed_alone all commit)) (sym (append-nil before))
live_from-snoc m before holds (first ∷ rest) commit =
    let next = with_hold m holds first (observed_alone before first) in
    live_from-snoc m (before ++ first ∷ []) next rest commit
    ∙ ap (λ all. with_hold m (live_from m (before ++ first ∷ []) next rest) commit (observed_alone all commit)) (append_assoc before (first ∷ []) rest)

-- the live holds of a journal with a commit more
pub live-snoc : (m : ℕ) (journal : Journal) (commit : Commit)
    → live m (journal ++ commit ∷ []) ≡ with_hold m (live m journal) commit (observed_alone journal commit)
live-snoc m journal commit = live_from-snoc m [] [] journal commit

-- ---- the first commits are no holds

-- behind none that is live, commits up to m leave none
first-are-none : (m n : ℕ) (before journal : Journal) → AreNumberedFrom n journal → n + length journal ≤ m → live_from m before [] journal ≡ []
first-are-none m n before [] numbered within = refl
first-are-none m n before (commit ∷ rest) numbered within =
    let none : nat_lt m commit.number ≡ false = le-ltb m commit.number (omega arith) in
    rw none (first-are-none m (n + 1) (before ++ commit ∷ []) rest numbered.1 (omega arith))

-- a journal that nobody ran again has no live holds
pub live-of-first : (m : ℕ) (journal : Journal) → AreNumbered journal → length journal ≤ m → live m journal ≡ []
live-of-first m journal numbered within = first-are-none m 0 [] journal numbered (omega arith)

-- ---- within the journal

-- a hold is at a number or below it
abbrev UpTo : ℕ → Hold → Type 0
UpTo last hold = hold.number ≤ last

-- a commit up to a number leaves holds up to it
with-hold-within : (m last : ℕ) (holds : List Hold) (commit : Commit) (seen : List Seen) → commit.number ≤ last → AllByRecursion (UpTo last) holds
    → AllByRecursion (UpTo last) (with_hold m holds commit seen)
with-hold-within m last holds commit seen within all =
    each-append (UpTo last) (filter (outlasts commit) holds) (cond (is_hold m commit) (hold_of commit seen ∷ []) [])
    (each-filter (UpTo last) (outlasts commit) holds all) (by (is_hold m commit))
  where
    by : (b : Bool) → AllByRecursion (UpTo last) (cond b (hold_of commit seen ∷ []) [])
    by true = (within, tt)
    by false = tt

-- and so do all commits up to it
live_from-within : (m n last : ℕ) (before : Journal) (holds : List Hold) (journal : Journal) → AreNumberedFrom n journal → n + length journal ≤ last
    → AllByRecursion (UpTo last) holds → AllByRecursion (UpTo last) (live_from m before holds journal)
live_from-within m n last before holds [] numbered within all = all
live_from-within m n last before holds (commit ∷ rest) numbered within all =
    live_from-within m (n + 1) last (before ++ commit ∷ []) (with_hold m holds commit (observed_alone before commit)) rest numbered.1 (omega arith)
    (with-hold-within m last holds commit (observed_alone before commit) (omega arith) all)

-- what bars is one of the holds
bars_of-within : (last : ℕ) (holds : List Hold) (client : ℕ) (deltas : Deltas) (barred : Barred) → AllByRecursion (UpTo last) holds
    → bars_of holds client deltas ≡ Some barred → barred.at ≤ last
bars_of-within last [] client deltas barred all e = absurd (cc)
bars_of-within last (hold ∷ rest) client deltas barred all e =
    by (bars_of-within last rest client deltas barred all.1) (hold.client == client) (disturbs_some deltas hold.observations) e
  where
    by : (bars_of rest client deltas ≡ Some barred → barred.at ≤ last) → (own disturbed : Bool)
        → cond own None (cond disturbed (Some (record { client = hold.client; at = hold.number })) (bars_of rest client deltas)) ≡ Some barred
        → barred.at ≤ last
    by later true disturbed e = absurd (cc)
    by later false true e =
        let first : Barred = record { client = hold.client; at = hold.number } in
        let same : first ≡ barred = cc in subst (λ b. b.at ≤ last) same all.0
    by later false false e = later e

-- a hold that bars is a commit of the journal
pub barred-within : (m : ℕ) (journal : Journal) (client : ℕ) (deltas : Deltas) (barred : Barred) → AreNumbered journal
    → bars m journal client deltas ≡ Some barred → barred.at ≤ length journal
barred-within m journal client deltas barred numbered e =
    bars_of-within (length journal) (live m journal) client deltas barred
    (live_from-within m 0 (length journal) [] [] journal numbered (omega arith) tt) e
