-- What an audit says of a list of commits: that it is a legal journal, or which commit is the first that isn't what it should
-- be, and what of it.
use Rattle.std.specs.Prelude.{◌≡◌, ◌≢◌, ◌↔◌, ℕ, ◌+◌, List, [], ◌∷◌, length, take, Option, Some, None, refl}
use Rattle.std.specs.List.{slice_get}
use Rattle.std.proofs.lemmas.Bool.{eqb-false}
use Rattle.rdt_types.specs.declared.outcome.Outcome.TheVariants as outcome
use Rattle.txn_trees.specs.declared.statement.Body.{Body}
use Rattle.txn_lang.specs.declared.commit.Commit.{Commit}
use Rattle.txn_lang.specs.declared.run.Run.{Run}
use Rattle.txn_lang.specs.States.{Journal, PartialState, known, left_by}
use Rattle.txn_lang.specs.Execution.{exec, done}
use Rattle.txn_lang.specs.Journals.{own, MayFollow, IsLegal}
use Rattle.txn_lang.specs.Tree.{tree}
use Rattle.audit_core.specs.declared.verdict.Flaw.{Flaw}
use Rattle.audit_core.specs.declared.verdict.Flaw.TheVariants as flaw
use Rattle.audit_core.specs.declared.verdict.Verdict.{Verdict}
use Rattle.audit_core.specs.declared.verdict.Verdict.TheVariants as verdict

-- ---- one commit

-- A commit has the next number behind these, and the next seq of its client.
pub record IsInOrder (before : Journal) (commit : Commit) : Type 0 where
  pub number : commit.number ≡ length before + 1
  pub seq : commit.seq ≡ length (own commit.client before) + 1

-- A text is that of a body, and this is its run on a state.
pub record IsRunOf (s : PartialState) (text : List ℕ) (run : Run) : Type 0 where
  pub body : Body
  pub read : tree text ≡ Some body
  pub ran : exec body s ≡ done run

-- what there is to compare a commit's outcome and deltas with: its body's run on the state that these leave
abbrev pub RunsAfter : Journal → Commit → Run → Type 0
RunsAfter before commit run = IsRunOf (known (left_by before)) commit.body run

-- What stands against a commit behind these. The order is that of the lines: what is said of one holds only where nothing is
-- said by those above it.
abbrev pub IsFlaw : Journal → Commit → Flaw → Type 0
-- another number than the next
IsFlaw before commit flaw.Number = commit.number ≢ length before + 1
-- another seq than the next of its client
IsFlaw before commit flaw.Seq = (commit.number ≡ length before + 1) × (commit.seq ≢ length (own commit.client before) + 1)
-- the body is none
IsFlaw before commit flaw.Body = IsInOrder before commit × (tree commit.body ≡ None)
-- the body's run on the state of the commits before it ends with another outcome
IsFlaw before commit flaw.Outcome =
    IsInOrder before commit × (run : Run) × RunsAfter before commit run × (commit.outcome ≢ run.outcome)
-- or leaves other deltas
IsFlaw before commit flaw.Deltas =
    IsInOrder before commit × (run : Run) × RunsAfter before commit run × (commit.outcome ≡ run.outcome) × (commit.deltas ≢ run.deltas)

-- What is found of a commit behind these: a flaw, or that it may stand there.
abbrev pub IsFound : Journal → Commit → Option Flaw → Type 0
IsFound before commit None = MayFollow 0 before commit
IsFound before commit (Some f) = IsFlaw before commit f

-- ---- the whole

-- At this place, counted from 1, stands the first commit that may not follow those before it, and this is what stands against it.
pub record IsBroken (journal : Journal) (place : ℕ) (f : Flaw) : Type 0 where
  pub before : ℕ
  pub place_is : place ≡ before + 1
  pub commit : Commit
  pub there : slice_get journal before ≡ Some commit
  pub legal : IsLegal 0 (take before journal)
  pub flawed : IsFlaw (take before journal) commit f

-- WHAT AN AUDIT SAYS: so many commits, all of them legal, with none taken on trust; or the first that isn't, and its first flaw.
abbrev pub IsVerdict : Journal → Verdict → Type 0
IsVerdict journal (verdict.Legal n) = (n ≡ length journal) × IsLegal 0 journal
IsVerdict journal (verdict.Broken place f) = IsBroken journal place f

-- nothing is legal, and of no commit
legal-nothing : IsVerdict [] (verdict.Legal 0)
legal-nothing = (refl, tt)

-- a commit that says it is the second of all, and the second of its client
abbrev pub second_alone : Commit
second_alone = record { number = 2; client = 9; seq = 2; body = []; outcome = outcome.Ok []; deltas = [] }

-- can't stand first, and its number is named first
number-example : IsVerdict (second_alone ∷ []) (verdict.Broken 1 flaw.Number)
number-example = record { before = 0; place_is = refl; commit = second_alone; there = refl; legal = tt; flawed = eqb-false 2 1 refl }

-- ---- laws

-- a commit has a flaw only where it may not follow, and one flaw at most
pub record FlawsAreBreaches : Type 0 where
  pub breaks : (before : Journal) (commit : Commit) (f : Flaw) → IsFlaw before commit f → MayFollow 0 before commit → ⊥
  pub one : (before : Journal) (commit : Commit) (f g : Flaw) → IsFlaw before commit f → IsFlaw before commit g → f ≡ g

-- Of each list one verdict holds at most: it is `Legal` exactly where each commit may follow those before it, and then names
-- how many there are.
pub record OneVerdict : Type 0 where
  pub one : (journal : Journal) (v w : Verdict) → IsVerdict journal v → IsVerdict journal w → v ≡ w
  pub legal : (journal : Journal) (n : ℕ) → IsVerdict journal (verdict.Legal n) ↔ ((n ≡ length journal) × IsLegal 0 journal)
  pub broken : (journal : Journal) (place : ℕ) (f : Flaw) → IsVerdict journal (verdict.Broken place f) → IsLegal 0 journal → ⊥
