-- Journals, and what makes one legal: each commit is what its body does on the state that the commits before it leave.
use Rattle.std.specs.Prelude.{◌≡◌, ℕ, ◌+◌, ◌<◌, List, [], length, take, drop, slice_get, Some, refl}
use Rattle.plain_data.specs.Histories as histories
use Rattle.plain_data.specs.Histories.{IsLawful}
use Rattle.txn_trees.specs.declared.statement.Body.{Body}
use Rattle.txn_lang.specs.declared.commit.Commit.{Commit}
use Rattle.txn_lang.specs.declared.run.Run.{Run}
use Rattle.txn_lang.specs.States.{Journal, known, left_by, put_and_add}
use Rattle.txn_lang.specs.Execution.{exec, done}
use Rattle.txn_lang.specs.Tree.{tree}

-- the commits of one client
abbrev pub own : ℕ → Journal → Journal
own client journal = histories.own (λ (commit : Commit). commit.client) client journal

-- the second of the two commits is that of client 9, and none is that of client 8
own-example : own 9 put_and_add ≡ drop 1 put_and_add
own-example = refl

own-of-none : own 8 put_and_add ≡ []
own-of-none = refl

-- the commit that a run makes after these
abbrev pub commit_of : Journal → ℕ → List ℕ → Run → Commit
commit_of before client body run = record {
  number = length before + 1;
  client = client;
  seq = length (own client before) + 1;
  body = body;
  outcome = run.outcome;
  deltas = run.deltas;
}

-- The commit is what its body does on the state that these leave.
pub record IsRunAfter (before : Journal) (commit : Commit) : Type 0 where
  pub body : Body
  pub run : Run
  pub read : tree commit.body ≡ Some body
  pub ran : exec body (known (left_by before)) ≡ done run
  pub outcome : commit.outcome ≡ run.outcome
  pub deltas : commit.deltas ≡ run.deltas

-- The commit may follow these: it has the next number and the next seq of its client, and, unless it is one of the
-- first m, whose bodies nobody ran again, it is what its body does.
pub record MayFollow (m : ℕ) (before : Journal) (commit : Commit) : Type 0 where
  pub number : commit.number ≡ length before + 1
  pub seq : commit.seq ≡ length (own commit.client before) + 1
  pub runs : m < commit.number → IsRunAfter before commit

-- Each commit of the journal may follow those before it.
abbrev pub IsLegal : ℕ → Journal → Type 0
IsLegal m journal = IsLawful MayFollow m journal

-- with nothing in it a journal is legal; specs/Examples has one of two commits
IsLegal-example : IsLegal 0 []
IsLegal-example = tt

-- a law: of a legal journal each commit, by its place, may follow those before it
abbrev pub LegalCommitsFollow : Type 0
LegalCommitsFollow = (m : ℕ) (journal : Journal) → IsLegal m journal → (i : ℕ) (commit : Commit)
    → slice_get journal i ≡ Some commit → MayFollow m (take i journal) commit
