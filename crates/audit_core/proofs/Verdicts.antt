-- Verdicts: a flaw is a breach of what may follow, and of each list one verdict holds at most.
use Rattle.std.proofs.Common.{◌≡◌, ◌<◌, ◌≤◌, ◌+◌, ◌⊎◌, inl, inr, ℕ, zero, suc, List, [], ◌∷◌, take, Some, None, refl, sym, ap, ◌∙◌, subst, arith}
use Rattle.std.specs.List.{slice_get}
use Rattle.std.proofs.lemmas.Bool.{cases_lt}
use Rattle.std.proofs.lemmas.List.{take-take}
use Rattle.plain_data.proofs.Overlays.{Some_is}
use Rattle.txn_lang.specs.declared.commit.Commit.{Commit}
use Rattle.txn_lang.specs.declared.run.Run.{Run}
use Rattle.txn_lang.specs.States.{Journal, PartialState, known, left_by}
use Rattle.txn_lang.specs.Execution.{Ran, need, done, exec}
use Rattle.txn_lang.specs.Journals.{MayFollow, IsRunAfter, IsLegal}
use Rattle.txn_lang.specs.Tree.{tree}
use Rattle.txn_lang.proofs.Journals.{legal_commits_follow}
use Rattle.audit_core.specs.declared.verdict.Flaw.{Flaw}
use Rattle.audit_core.specs.declared.verdict.Flaw.TheVariants as flaw
use Rattle.audit_core.specs.declared.verdict.Verdict.{Verdict}
use Rattle.audit_core.specs.declared.verdict.Verdict.TheVariants as verdict
use Rattle.audit_core.specs.Verdicts.{IsRunOf, RunsAfter, IsFlaw, IsBroken, IsVerdict, FlawsAreBreaches, OneVerdict}

-- ---- one commit

-- the run that is done, or this one
abbrev run_in : Run → Ran → Run
run_in r (need a) = r
run_in r (done run) = run

-- a run that is done is one run
done-one : (r s : Run) → done r ≡ done s → r ≡ s
done-one r s e = ap (run_in r) e

-- a text is one body, and has one run on a state
one_run : (s : PartialState) (text : List ℕ) (q r : Run) → IsRunOf s text q → IsRunOf s text r → q ≡ r
one_run s text q r one two =
    let body : one.body ≡ two.body = Some_is one.body two.body (sym one.read ∙ two.read) in
    done-one q r (sym one.ran ∙ ap (λ b. exec b s) body ∙ two.ran)

-- a text that is no body has no run
no_body : (s : PartialState) (text : List ℕ) (r : Run) → tree text ≡ None → IsRunOf s text r → ⊥
no_body s text r none is = let clash : None ≡ Some is.body = sym none ∙ is.read in cc

-- what may follow is its body's run
follows-run : (before : Journal) (commit : Commit) (m : MayFollow 0 before commit) → IsRunAfter before commit
follows-run before commit m = m.runs (let number = m.number in omega arith)

-- the run of what may follow
run_after : (before : Journal) (commit : Commit) (is : IsRunAfter before commit) → RunsAfter before commit is.run
run_after before commit is = record { body = is.body; read = is.read; ran = is.ran }

-- flaw by flaw: what may follow has none
pub flaw-breaks : (before : Journal) (commit : Commit) (f : Flaw) → IsFlaw before commit f → MayFollow 0 before commit → ⊥
flaw-breaks before commit flaw.Number is m = is m.number
flaw-breaks before commit flaw.Seq is m = is.1 m.seq
flaw-breaks before commit flaw.Body is m =
    let runs = follows-run before commit m in no_body (known (left_by before)) commit.body runs.run is.1 (run_after before commit runs)
flaw-breaks before commit flaw.Outcome is m =
    let runs = follows-run before commit m in
    let same = one_run (known (left_by before)) commit.body runs.run is.1 (run_after before commit runs) is.2 in
    is.3 (runs.outcome ∙ ap (λ r. r.outcome) same)
flaw-breaks before commit flaw.Deltas is m =
    let runs = follows-run before commit m in
    let same = one_run (known (left_by before)) commit.body runs.run is.1 (run_after before commit runs) is.2 in
    is.4 (runs.deltas ∙ ap (λ r. r.deltas) same)

-- pair by pair: the later one says that the earlier doesn't hold
pub one_flaw : (before : Journal) (commit : Commit) (f g : Flaw) → IsFlaw before commit f → IsFlaw before commit g → f ≡ g
one_flaw before commit flaw.Number flaw.Number a b = refl
one_flaw before commit flaw.Number flaw.Seq a b = absurd (a b.0)
one_flaw before commit flaw.Number flaw.Body a b = absurd (a b.0.number)
one_flaw before commit flaw.Number flaw.Outcome a b = absurd (a b.0.number)
one_flaw before commit flaw.Number flaw.Deltas a b = absurd (a b.0.number)
one_flaw before commit flaw.Seq flaw.Number a b = absurd (b a.0)
one_flaw before commit flaw.Seq flaw.Seq a b = refl
one_flaw before commit flaw.Seq flaw.Body a b = absurd (a.1 b.0.seq)
one_flaw before commit flaw.Seq flaw.Outcome a b = absurd (a.1 b.0.seq)
one_flaw before commit flaw.Seq flaw.Deltas a b = absurd (a.1 b.0.seq)
one_flaw before commit flaw.Body flaw.Number a b = absurd (b a.0.number)
one_flaw before commit flaw.Body flaw.Seq a b = absurd (b.1 a.0.seq)
one_flaw before commit flaw.Body flaw.Body a b = refl
one_flaw before commit flaw.Body flaw.Outcome a b = absurd (no_body (known (left_by before)) commit.body b.1 a.1 b.2)
one_flaw before commit flaw.Body flaw.Deltas a b = absurd (no_body (known (left_by before)) commit.body b.1 a.1 b.2)
one_flaw before commit flaw.Outcome flaw.Number a b = absurd (b a.0.number)
one_flaw before commit flaw.Outcome flaw.Seq a b = absurd (b.1 a.0.seq)
one_flaw before commit flaw.Outcome flaw.Body a b = absurd (no_body (known (left_by before)) commit.body a.1 b.1 a.2)
one_flaw before commit flaw.Outcome flaw.Outcome a b = refl
one_flaw before commit flaw.Outcome flaw.Deltas a b =
    absurd (a.3 (b.3 ∙ ap (λ r. r.outcome) (one_run (known (left_by before)) commit.body b.1 a.1 b.2 a.2)))
one_flaw before commit flaw.Deltas flaw.Number a b = absurd (b a.0.number)
one_flaw before commit flaw.Deltas flaw.Seq a b = absurd (b.1 a.0.seq)
one_flaw before commit flaw.Deltas flaw.Body a b = absurd (no_body (known (left_by before)) commit.body a.1 b.1 a.2)
one_flaw before commit flaw.Deltas flaw.Outcome a b =
    absurd (b.3 (a.3 ∙ ap (λ r. r.outcome) (one_run (known (left_by before)) commit.body a.1 b.1 a.2 b.2)))
one_flaw before commit flaw.Deltas flaw.Deltas a b = refl

pub flaws_are_breaches : FlawsAreBreaches
flaws_are_breaches = record { breaks = flaw-breaks; one = one_flaw }

-- ---- the whole

-- among the first n items the others are found as among all
slice_get-take : {A : Type 0} (xs : List A) (n i : ℕ) → i < n → slice_get (take n xs) i ≡ slice_get xs i
slice_get-take [] zero i within = refl
slice_get-take [] (suc n) i within = refl
slice_get-take (x ∷ xs) zero i within = absurd (omega arith)
slice_get-take (x ∷ xs) (suc n) zero within = refl
slice_get-take (x ∷ xs) (suc n) (suc i) within = slice_get-take xs n i (omega arith)

-- each commit of a legal beginning may follow those before it
follows_in : (journal : Journal) (n i : ℕ) (commit : Commit) → i < n → IsLegal 0 (take n journal) → slice_get journal i ≡ Some commit
    → MayFollow 0 (take i journal) commit
follows_in journal n i commit within legal there =
    subst (λ before. MayFollow 0 before commit) (take-take i n journal (omega arith))
    (legal_commits_follow 0 (take n journal) legal i commit (slice_get-take journal n i within ∙ there))

-- a journal in which a commit has a flaw isn't legal
pub broken-breaks : (journal : Journal) (place : ℕ) (f : Flaw) → IsBroken journal place f → IsLegal 0 journal → ⊥
broken-breaks journal place f is legal =
    flaw-breaks (take is.before journal) is.commit f is.flawed (legal_commits_follow 0 journal legal is.before is.commit is.there)

-- no commit before the first with a flaw has one
not_before : (journal : Journal) (p q : ℕ) (f g : Flaw) (a : IsBroken journal p f) (b : IsBroken journal q g) → a.before < b.before → ⊥
not_before journal p q f g a b below =
    flaw-breaks (take a.before journal) a.commit f a.flawed (follows_in journal b.before a.before a.commit below b.legal a.there)

-- so there is one first, and it has one flaw
one_broken : (journal : Journal) (p q : ℕ) (f g : Flaw) → IsBroken journal p f → IsBroken journal q g → (p ≡ q) × (f ≡ g)
one_broken journal p q f g a b = by (cases_lt a.before b.before) (cases_lt b.before a.before)
  where
    at_once : a.before ≡ b.before → (p ≡ q) × (f ≡ g)
    at_once same =
        let commit : a.commit ≡ b.commit = Some_is a.commit b.commit (sym a.there ∙ ap (slice_get journal) same ∙ b.there) in (
          a.place_is ∙ ap (λ n. n + 1) same ∙ sym b.place_is,
          one_flaw (take b.before journal) b.commit f g
              (subst (λ c. IsFlaw (take b.before journal) c f) commit (subst (λ n. IsFlaw (take n journal) a.commit f) same a.flawed))
              b.flawed,
        )

    by : (a.before < b.before) ⊎ (b.before ≤ a.before) → (b.before < a.before) ⊎ (a.before ≤ b.before) → (p ≡ q) × (f ≡ g)
    by (inl h) other = absurd (not_before journal p q f g a b h)
    by (inr h) (inl k) = absurd (not_before journal q p g f b a k)
    by (inr h) (inr k) = at_once (omega arith)

pub one_verdict : (journal : Journal) (v w : Verdict) → IsVerdict journal v → IsVerdict journal w → v ≡ w
one_verdict journal (verdict.Legal m) (verdict.Legal n) a b = ap verdict.Legal (a.0 ∙ sym b.0)
one_verdict journal (verdict.Legal m) (verdict.Broken q g) a b = absurd (broken-breaks journal q g b a.1)
one_verdict journal (verdict.Broken p f) (verdict.Legal n) a b = absurd (broken-breaks journal p f a b.1)
one_verdict journal (verdict.Broken p f) (verdict.Broken q g) a b =
    let same = one_broken journal p q f g a b in ap (λ k. verdict.Broken k f) same.0 ∙ ap (verdict.Broken q) same.1

pub verdicts_are_one : OneVerdict
verdicts_are_one = record { one = one_verdict; legal = λ journal n. (λ is. is, λ is. is); broken = broken-breaks }
