-- What a keeper keeps: a list of commits, which it may tell or not.
use Rattle.std.specs.Prelude.{◌≡◌, ℕ, ◌+◌, if◌then◌else◌, nat_lt, List, [], ◌∷◌, ◌++◌, length, Option, Some, None, IfSome, refl}
use Rattle.txn_lang.specs.declared.commit.Commit.{Commit}
use Rattle.txn_lang.specs.declared.run.Run.{Run}
use Rattle.txn_lang.specs.States.{Journal}
use Rattle.txn_lang.specs.Journals.{own}
use Rattle.journal_core.specs.declared.limits.TheConstants.{FIRST_UNTOLD_CLIENT}
use Rattle.journal_core.specs.Bodies.{IsBodyText}
use Rattle.journal_core.specs.Changes.{adding}
use Rattle.journal_core.specs.Readies.{IsRunOf}

-- the commit has the next number, and the next seq of its client
pub record IsNext (before : Journal) (commit : Commit) : Type 0 where
  pub number : commit.number ≡ length before + 1
  pub seq : commit.seq ≡ length (own commit.client before) + 1

-- the commit is one of a run, with the body's text as it is kept
pub record IsOfRun (commit : Commit) : Type 0 where
  pub run : Run
  pub ran : IsRunOf commit.body run
  pub outcome : commit.outcome ≡ run.outcome
  pub deltas : commit.deltas ≡ run.deltas
  pub body_text : IsBodyText commit.body

-- The bytes stand for this commit, which may be kept behind the list that is told.
pub record StandsFor (stands_for : List ℕ → Commit → Type 0) (told : Option Journal) (bytes : List ℕ) (commit : Commit) : Type 0 where
  pub made : stands_for bytes commit
  pub of_run : IsOfRun commit
  pub next : IfSome told (λ list. IsNext list commit)

-- bytes that stand for some commit, which may be kept next
abbrev pub CanKeep : (List ℕ → Commit → Type 0) → Option Journal → List ℕ → Type 0
CanKeep stands_for told bytes = (commit : Commit) × StandsFor stands_for told bytes commit

-- The list with one commit more. It is told only as long as each client in it is below a number.
abbrev pub kept_after : Option Journal → Commit → Option Journal
kept_after None commit = None
kept_after (Some list) commit = if nat_lt commit.client FIRST_UNTOLD_CLIENT then Some (list ++ commit ∷ []) else None

-- what is told goes up by the commit that the bytes stand for
abbrev pub Keeps : (List ℕ → Commit → Type 0) → List ℕ → Option Journal → Option Journal → Type 0
Keeps stands_for bytes old new = (commit : Commit) → StandsFor stands_for old bytes commit → new ≡ kept_after old commit

-- a commit of the client 0 is told
kept_after-example : kept_after (Some []) (adding 1 []) ≡ Some (adding 1 [] ∷ [])
kept_after-example = refl
