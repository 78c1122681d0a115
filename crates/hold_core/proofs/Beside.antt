-- A book beside a journal stays that of the journal.
use Rattle.std.proofs.Common.{◌≡◌, ℕ, ◌+◌, List, [], ◌∷◌, ◌++◌, length, Some, slice_get, refl, sym, ap, ◌∙◌, arith}
use Rattle.std.proofs.lemmas.List.{length-append}
use Rattle.txn_lang.specs.declared.commit.Commit.{Commit}
use Rattle.txn_lang.specs.declared.run.Seen.{Seen}
use Rattle.txn_lang.specs.States.{Journal}
use Rattle.journal_core.specs.declared.hold.Hold.{Hold}
use Rattle.journal_core.specs.declared.appended.Appended.TheVariants as appended
use Rattle.journal_core.specs.Holds.{observed_alone, live}
use Rattle.journal_core.specs.Journals.{Standing, AddsBelow, commit_at}
use Rattle.journal_core.specs.Pairs.{AreNumbered}
use Rattle.journal_core.proofs.Witnessed.{commit-there}
use Rattle.journal_core.proofs.Holding.{live-snoc, live-of-first, with-hold-alike}
use Rattle.hold_core.specs.Books.{Holding, first_holding, with_commit, book_of, IsBookOf, IsEnteredWith}

-- nobody ran these commits again, so none is a hold
pub book-first : (journal : Journal) → AreNumbered journal → first_holding (length journal) ≡ book_of (length journal) journal
book-first journal numbered =
    ap (λ (hs : List Hold). let b : Holding = record { from = length journal; length = length journal; holds = hs } in b)
    (sym (live-of-first (length journal) journal numbered (omega arith)))

-- a commit more is entered with what its body observes behind the journal, where it is a hold
pub book-grows : (m : ℕ) (journal : Journal) (commit : Commit) (seen : List Seen) → IsEnteredWith m journal commit seen
    → with_commit (book_of m journal) commit seen ≡ book_of m (journal ++ commit ∷ [])
book-grows m journal commit seen alike =
    ap (λ (hs : List Hold). let b : Holding = record { from = m; length = length journal + 1; holds = hs } in b)
    (with-hold-alike m (live m journal) commit seen (observed_alone journal commit) alike ∙ sym (live-snoc m journal commit))
    ∙ ap (λ (n : ℕ). let b : Holding = record { from = m; length = n; holds = live m (journal ++ commit ∷ []) } in b)
    (sym (length-append journal (commit ∷ [])))

-- a book of a journal is that of its own number
pub is-book-of : (m : ℕ) (book : Holding) (journal : Journal) → book ≡ book_of m journal → IsBookOf book journal
is-book-of m book journal is = is ∙ ap (λ (n : ℕ). book_of n journal) (sym (ap (λ (b : Holding). b.from) is))

-- the last of a journal stands behind the others
last-there : (journal : Journal) (commit : Commit) → slice_get (journal ++ commit ∷ []) (length journal) ≡ Some commit
last-there [] commit = refl
last-there (first ∷ journal) commit = last-there journal commit

-- the commit that a journal has at the number of one that was added is that one
added-is : (old new : Standing) (made found : Commit) (number : ℕ) → made.number ≡ length old.commits + 1
    → AddsBelow made old (appended.Number number) new → Some found ≡ commit_at new.commits number → found ≡ made
added-is old new made found number next adds there =
    let behind : Journal = old.commits ++ made ∷ [] in
    let at : commit_at behind number ≡ Some made = commit-there behind (length old.commits) number (adds.1 ∙ next) ∙ last-there old.commits made in
    let both : Some found ≡ Some made = there ∙ ap (λ (x : Standing). commit_at x.commits number) adds.2 ∙ at in
    cc

-- the book with it is that of the journal with it
pub entered-is : (old new : Standing) (made found : Commit) (number : ℕ) (before after : Holding) (seen : List Seen) → made.number ≡ length old.commits + 1
    → AddsBelow made old (appended.Number number) new → Some found ≡ commit_at new.commits number → IsBookOf before old.commits
    → IsEnteredWith before.from old.commits made seen → after ≡ with_commit before found seen → after ≡ book_of before.from new.commits
entered-is old new made found number before after seen next adds there is entered left =
    left
    ∙ ap (λ (c : Commit). with_commit before c seen) (added-is old new made found number next adds there)
    ∙ ap (λ (b : Holding). with_commit b made seen) is
    ∙ book-grows before.from old.commits made seen entered
    ∙ ap (λ (x : Standing). book_of before.from x.commits) (sym adds.2)
