-- A book of holds goes on with its journal, and a count of denials keeps to the count of the keeper.
use Rattle.std.proofs.Common.{◌≡◌, ℕ, ◌+◌, ◌≤◌, ◌==◌, Bool, true, false, cond, List, length, Result, Ok, Err}
use Rattle.std.proofs.Common.{inl, inr, refl, sym, ap, ◌∙◌, subst, arith}
use Rattle.std.specs.Prelude.{OnOk, None, ◌&&◌, nat_lt}
use Rattle.std.proofs.lemmas.Bool.{and_parts}
use Rattle.std.proofs.lemmas.Bool.Decides.{nat_tests}
use Rattle.dio_core.specs.Counts.{one_more, last_count}
use Rattle.txn_lang.specs.declared.commit.Commit.{Commit}
use Rattle.txn_lang.specs.declared.run.Seen.{Seen}
use Rattle.txn_lang.specs.States.{Journal}
use Rattle.journal_core.specs.declared.ready.Ready.{Ready}
use Rattle.journal_core.specs.Holds.{says_hold, is_hold, observed_alone}
use Rattle.journal_core.specs.Journals.{Standing, found_past}
use Rattle.journal_core.specs.Pairs.{AreNumbered}
use Rattle.journal_core.specs.Readies.{made_of}
use Rattle.hold_core.specs.Books.{Holding, first_holding, IsBookOf, IsEnteredWith, book_of}
use Rattle.hold_core.proofs.Beside.{book-first}
use Rattle.diamond_store.specs.declared.decision.Decision.{Decision}
use Rattle.diamond_store.specs.declared.decision.Decision.TheVariants as decision
use Rattle.diamond_store.specs.Books.{denials_after, IsAtMostRise}
use Rattle.diamond_store.specs.Settling.{CanSettle, CountsFaults}

-- what holds anyway holds at a success
pub on_ok : {A E : Type 0} (r : Result A E) (P : Type 0) → P → OnOk r P
on_ok (Ok a) P p = p
on_ok (Err e) P p = tt

-- a new book is that of the commits that are kept already
pub book-opened : (kept journal : Journal) (book : Holding) (n : ℕ) → AreNumbered kept → journal ≡ kept → n ≡ length journal → book ≡ first_holding n
    → IsBookOf book journal
book-opened kept journal book n numbered same is first =
    let at : book ≡ first_holding (length journal) = first ∙ ap first_holding is in
    at
    ∙ book-first journal (subst AreNumbered (sym same) numbered)
    ∙ ap (λ (k : ℕ). book_of k journal) (sym (ap (λ (b : Holding). b.from) at))

-- a commit that is a hold says so
hold-says : (from : ℕ) (commit : Commit) → is_hold from commit ≡ true → says_hold commit.outcome ≡ true
hold-says from commit is =
    let late = nat_lt from commit.number in
    let says = says_hold commit.outcome in
    (and_parts late says (and_parts (late && says) (length commit.deltas == 0) is).0).1

-- what was copied is what the commit's body observes, where that is a hold: nothing clashes, so it observes there what its run did
pub held-alone : (book : Holding) (ready : Ready) (old mid : Standing) (seen : List Seen) (commit : Commit) → mid ≡ record old { room = mid.room }
    → CanSettle old.shards ready old.commits → commit ≡ made_of mid.commits ready → None ≡ found_past ready mid
    → (says_hold ready.run.outcome ≡ true → seen ≡ ready.run.observations) → IsEnteredWith book.from mid.commits commit seen
held-alone book ready old mid seen commit same can made clear copied is =
    let says = hold-says book.from (made_of mid.commits ready) (subst (λ (c : Commit). is_hold book.from c ≡ true) made is) in
    let before : found_past ready old ≡ None = sym (ap (λ (s : Standing). found_past ready s) same) ∙ sym clear in
    let alone = subst (λ (s : Standing). observed_alone s.commits (made_of s.commits ready) ≡ ready.run.observations) (sym same) (can.observed before) in
    copied says ∙ sym alone ∙ ap (observed_alone mid.commits) (sym made)

-- one more is at most one more than before
one_more-by : (n : ℕ) → one_more n ≤ n + 1
one_more-by n = by (n == last_count) refl
  where
    by : (t : Bool) → (n == last_count) ≡ t → cond t last_count (n + 1) ≤ n + 1
    by true e = let here : n ≡ last_count = grind (arith, nat_tests) in omega arith
    by false e = omega arith

-- a denial is counted where the keeper's count rose
pub rise-kept : (first denials faults later : ℕ) (d : Decision) → IsAtMostRise first denials faults → CountsFaults d faults later
    → IsAtMostRise first (denials_after denials d) later
rise-kept first denials faults later decision.Denied (inl most) (inl rose) = inl (let o = one_more-by denials in omega arith)
rise-kept first denials faults later decision.Denied (inr last) (inl rose) = inr (omega arith)
rise-kept first denials faults later decision.Denied most (inr both) = inr (let b = both.1 in omega arith)
rise-kept first denials faults later (decision.Number n) most same = subst (IsAtMostRise first denials) (sym same) most
rise-kept first denials faults later (decision.Clash w) most same = subst (IsAtMostRise first denials) (sym same) most
rise-kept first denials faults later (decision.Held b) most same = subst (IsAtMostRise first denials) (sym same) most
rise-kept first denials faults later (decision.Full l) most same = subst (IsAtMostRise first denials) (sym same) most
