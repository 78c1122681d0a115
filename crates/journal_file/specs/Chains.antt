-- Commits that were taken one behind another: what is known of each, and how many each client has.
use Rattle.std.specs.Prelude.{◌≡◌, ℕ, Bool, true, false, List, [], ◌∷◌, ◌++◌, length, Option, Some, None, IfSome, Result, Ok, Err}
use Rattle.std.specs.Map.{lookup}
use Rattle.std.specs.BTreeMap.{is_at}
use Rattle.std.specs.Ordering.{nat_cmp}
use Rattle.plain_data.specs.Histories.{IsLawful}
use Rattle.txn_lang.specs.declared.commit.Commit.{Commit}
use Rattle.txn_lang.specs.States.{Journal}
use Rattle.txn_lang.specs.Journals.{own}
use Rattle.journal_core.specs.Keeping.{IsNext}
use Rattle.commit_file.specs.declared.version.Version.TheVariants.{Two}
use Rattle.record_code.specs.Payloads.{IsRecorded}
use Rattle.journal_file.specs.declared.counts.Counts.{Counts}
use Rattle.journal_file.specs.Commits.{is_next}

-- The commit may stand behind these: it has a payload, the next number, and the next seq of its client.
pub record Continues (before : Journal) (commit : Commit) : Type 0 where
  pub recorded : IsRecorded Two commit
  pub next : IsNext before commit

-- each commit may stand behind those before it
abbrev pub AreContinued : Journal → Type 0
AreContinued journal = IsLawful (λ base before commit. Continues before commit) 0 journal

-- how many there are, or 0
abbrev pub or_zero : Option ℕ → ℕ
or_zero None = 0
or_zero (Some n) = n

-- how many commits of a client were counted
abbrev pub counted : List (ℕ × ℕ) → ℕ → ℕ
counted seqs client = or_zero (lookup (is_at (nat_cmp client)) seqs)

-- So many commits are these, and so many are each client's.
pub record AreCounted (commits : Journal) (counts : Counts) : Type 0 where
  pub all : counts.all ≡ length commits
  pub own : (client : ℕ) → counted counts.seqs client ≡ length (own client commits)

-- The commits are continued, and counted, where they still are.
pub record IsChain (counts : Option Counts) (commits : Journal) : Type 0 where
  pub continued : AreContinued commits
  pub counted : IfSome counts (AreCounted commits)

-- WHAT BECOMES OF A COMMIT behind others, which are counted: it is taken exactly where it is the next, and counted then. Where it
-- isn't, just that is told: memory is wanting only for a commit that is the next.
abbrev pub Follows : {E : Type 0} → Journal → Commit → Result Bool E → Counts → Type 0
Follows before commit (Ok true) new = (is_next before commit ≡ true) × AreCounted (before ++ commit ∷ []) new
Follows before commit (Ok false) new = (is_next before commit ≡ false) × AreCounted before new
Follows before commit (Err error) new = is_next before commit ≡ true
