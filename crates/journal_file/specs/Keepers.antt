-- A keeper of commits, and how its file stands.
use Rattle.std.specs.Prelude.{◌≡◌, ℕ, ◌<◌, ◌⊎◌, Bool, false, List, Option, Some, None, IfSome}
use Rattle.dio_core.specs.Disks.{DiskState}
use Rattle.dio_core.specs.Moments.{LeavesOnly, AtAnyMoment}
use Rattle.commit_file.specs.Files.{Contents, all_of}
use Rattle.commit_file.specs.Kept.{IsProper}
use Rattle.commit_file.specs.Keepers.{Keeper, Stands, IsSpelled, FollowsToo, RunsInTurn, kept_by, doubtful_by, held_of, doubt_of}
use Rattle.txn_lang.specs.declared.commit.Commit.{Commit}
use Rattle.txn_lang.specs.States.{Journal}
use Rattle.journal_core.specs.declared.limits.TheConstants.{FIRST_UNTOLD_CLIENT}
use Rattle.record_code.specs.Payloads.{IsKeepable}
use Rattle.journal_file.specs.Commits.{commit_of, commits_of, CommitsFollow, IsKeptWith}

-- ---- what is kept

-- The bytes behind a gate stand for a commit: they spell a payload, which is read as the commit where that may be kept.
pub record IsCoded (bytes : List ℕ) (commit : Commit) : Type 0 where
  pub payload : List ℕ
  pub spelled : IsSpelled bytes payload
  pub client : commit.client < FIRST_UNTOLD_CLIENT
  pub again : IsKeepable commit → commit_of payload ≡ Some commit

-- the commits of contents, where they are told
abbrev pub commits_where : Option Contents → Option Journal
commits_where None = None
commits_where (Some c) = commits_of (all_of c)

-- the commits that a keeper keeps, where its disk tells
abbrev pub told_by : Keeper → Option Journal
told_by k = commits_where (held_of k)

-- the commit of a payload, where there is one
abbrev pub commit_where : Option (List ℕ) → Option Commit
commit_where None = None
commit_where (Some p) = commit_of p

-- the commit that a crash may leave behind them besides, where there is one
abbrev pub doubted_by : Keeper → Option Commit
doubted_by k = commit_where (doubt_of k)

-- ---- the file between two calls

-- The file that ends there holds these commits, and a keeper may go on behind them.
pub record Holds (journal : Journal) (end : ℕ) (s : DiskState) : Type 0 where
  pub stands : Stands false end s
  pub proper : IsProper CommitsFollow (kept_by end s)
  pub commits : commits_of (all_of (kept_by end s)) ≡ Some journal

-- the contents stand for commits that follow one another, with the doubtful one too, if there is one
abbrev pub AreCommits : Bool → Contents → List ℕ → Type 0
AreCommits doubtful c p =
    (journal : Journal) × (commits_of (all_of c) ≡ Some journal) × FollowsToo CommitsFollow doubtful c p

-- so do those of a keeper, where its disk tells
abbrev pub IsOfCommits : Keeper → Type 0
IsOfCommits k = IfSome k.state (λ s. AreCommits k.doubtful (kept_by k.end s) (doubtful_by k.end s))

-- the keeper keeps these commits, if its disk tells
abbrev pub KeepsThese : Journal → Keeper → Type 0
KeepsThese journal k = IfSome (told_by k) (λ list. list ≡ journal)

-- the file as it reads is kept as these commits, or as these and the doubtful one
abbrev pub ReadsAs : Journal → Option Commit → Option DiskState → Type 0
ReadsAs journal doubted state = IfSome state (λ s. IsKeptWith journal doubted s.file)

-- so is each image that a crash may leave
abbrev pub LeavesAs : Journal → Option Commit → Option DiskState → Type 0
LeavesAs journal doubted state = IfSome state (λ s. LeavesOnly (IsKeptWith journal doubted) s.durable)

-- ---- while it is mended, or a commit is kept

-- A crash at any moment leaves the commits, or these and the doubtful one.
abbrev pub MendsSafe : Journal → Keeper → Keeper → Type 0
MendsSafe journal old new = AtAnyMoment (IsKeptWith journal (doubted_by old)) old.past new.past new.state

-- A crash at any moment leaves what it might have left before, up to some moment, and then the commits, or these and this
-- one.
abbrev pub KeepsSafe : Journal → Commit → Keeper → Keeper → Type 0
KeepsSafe journal commit old new =
    AtAnyMoment (IsKeptWith journal (doubted_by old)) old.past new.past new.state
    ⊎ RunsInTurn (IsKeptWith journal (doubted_by old)) (IsKeptWith journal (Some commit)) old.past new.past new.state

-- what is doubtful then is nothing, or what was doubtful before, or this commit
abbrev pub DoubtsOneOf : Commit → Keeper → Keeper → Type 0
DoubtsOneOf commit old new =
    (doubted_by new ≡ None) ⊎ ((doubted_by new ≡ doubted_by old) ⊎ (doubted_by new ≡ Some commit))
