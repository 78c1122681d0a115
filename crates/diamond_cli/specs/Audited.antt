-- What `audit` promises.
use Rattle.std.specs.Prelude.{◌≡◌, ℕ, Bool, if◌then◌else◌, [], ◌∷◌, Option, IfSome, refl}
use Rattle.dio_core.specs.Counts.{Rose}
use Rattle.dio_core.specs.Disks.{DiskState}
use Rattle.txn_lang.specs.States.{Journal}
use Rattle.audit_core.specs.declared.growing.Audited.{Audited}
use Rattle.audit_core.specs.declared.verdict.Flaw.TheVariants as flaw
use Rattle.audit_core.specs.declared.verdict.Verdict.{Verdict}
use Rattle.audit_core.specs.declared.verdict.Verdict.TheVariants as verdict
use Rattle.audit_core.specs.Verdicts.{IsVerdict}
use Rattle.audit_core.specs.Reports.{report_of}
use Rattle.commit_file.specs.declared.recover_error.RecoverError.{RecoverError}
use Rattle.commit_file.specs.declared.recover_error.RecoverError.TheVariants as error
use Rattle.journal_file.specs.Commits.{IsKeptAs, IsNotJournal}
use Rattle.script_runner.specs.Script.{Writing}
use Rattle.script_runner.specs.declared.status.TheConstants.{WHOLE, WRITE_FAULT, NO_MEMORY}
use Rattle.diamond_cli.specs.declared.audited.TheConstants.{BROKEN}
use Rattle.diamond_cli.specs.declared.file.TheConstants.{DISK_FAULT, NOT_JOURNAL}
use Rattle.diamond_cli.specs.Filed.{Storing, HoldsNone, IsUnwritten}
use Rattle.diamond_cli.specs.Serving.{IsAmong, IsTried}

BROKEN-is : BROKEN ≡ 11
BROKEN-is = refl

-- the status of a verdict that was told
abbrev pub status_of : Verdict → ℕ
status_of (verdict.Legal n) = WHOLE
status_of (verdict.Broken place f) = BROKEN

status_of-example : status_of (verdict.Broken 3 flaw.Outcome) ≡ 11
status_of-example = refl

-- The commits that the file, where the disk tells, is kept as came to this verdict, and this is their report.
pub record IsAuditOf (at : Option ℕ) (state : Option DiskState) (audited : Audited) : Type 0 where
  pub kept : Journal
  pub read : IfSome state (λ s. IsKeptAs kept s.file)
  pub holds : IsVerdict kept audited.verdict
  pub text_is : audited.text ≡ report_of kept audited.verdict at

-- These commits were audited, and the report of what came of it was tried.
pub record IsReported (commits : Journal) (at : Option ℕ) (status : ℕ) (w : Writing) : Type 0 where
  pub verdict : Verdict
  pub holds : IsVerdict commits verdict
  pub done : Bool
  pub tried : IsTried (report_of commits verdict at) done w
  pub status_is : status ≡ (if done then status_of verdict else WRITE_FAULT)

-- So were the commits that the file, where the disk tells, is kept as.
pub record IsAudited (at : Option ℕ) (d : Storing) (status : ℕ) (w : Writing) : Type 0 where
  pub kept : Journal
  pub read : IfSome d.state (λ s. IsKeptAs kept s.file)
  pub reported : IsReported kept at status w

-- what there is where the file was read: its commits were audited, and the disk is as before
pub record IsRead (at : Option ℕ) (d : Storing) (status : ℕ) (w : Writing) : Type 0 where
  pub audited : IsAudited at d status w
  pub spared : d.state_then ≡ d.state
  pub counted : d.faults_then ≡ d.faults

-- and where it was not: nothing was written, and the disk is as before
pub record IsUnread (d : Storing) (w : Writing) (e : RecoverError) : Type 0 where
  pub unwritten : IsUnwritten w
  pub spared : d.state_then ≡ d.state
  pub disk : e ≡ error.DiskFault → Rose d.faults d.faults_then
  pub refused : (place : ℕ) → e ≡ error.NotJournal place → HoldsNone d.state

-- WHAT `audit` PROMISES, from the disk and the sink before it to both after it.
pub record Audits (at : Option ℕ) (d : Storing) (status : ℕ) (w : Writing) : Type 0 where
  -- there are six statuses
  pub statuses : IsAmong (WHOLE ∷ WRITE_FAULT ∷ NO_MEMORY ∷ DISK_FAULT ∷ NOT_JOURNAL ∷ BROKEN ∷ []) status
  -- At 0, 4 and 11 the file's commits were audited, and their report was tried. So at 0 they are legal and at 11 they aren't, and
  -- the sink took exactly the report; at 4 a prefix of it.
  pub audited : IsAmong (WHOLE ∷ WRITE_FAULT ∷ BROKEN ∷ []) status → IsAudited at d status w
  -- at 5, 6 and 7 nothing is written
  pub unwritten : IsAmong (NO_MEMORY ∷ DISK_FAULT ∷ NOT_JOURNAL ∷ []) status → IsUnwritten w
  -- at 6 the disk failed, at 7 the file is none of a journal, and at 4 a write failed
  pub disk : status ≡ DISK_FAULT → Rose d.faults d.faults_then
  pub refused : status ≡ NOT_JOURNAL → HoldsNone d.state
  pub sink : status ≡ WRITE_FAULT → Rose w.faults w.faults_then
  -- whatever comes, the disk reads as before, and a crash leaves what it left before
  pub spared : d.state_then ≡ d.state
  -- where no count rose, the status is 0, 5, 7 or 11
  pub completes : ¬ (Rose d.faults d.faults_then) → ¬ (Rose w.faults w.faults_then)
      → IsAmong (WHOLE ∷ NO_MEMORY ∷ NOT_JOURNAL ∷ BROKEN ∷ []) status
  -- it isn't 7 where the file is kept as some commits, and neither 0, 4 nor 11 where it is none of a journal
  pub unrefused : IfSome d.state (λ s. (kept : Journal) → IsKeptAs kept s.file → status ≡ NOT_JOURNAL → ⊥)
  pub unread : IfSome d.state (λ s. (at : ℕ) → IsNotJournal at s.file → IsAmong (WHOLE ∷ WRITE_FAULT ∷ BROKEN ∷ []) status → ⊥)
