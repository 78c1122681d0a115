-- What `audit` promises, from what its parts do.
use Rattle.std.proofs.Common.{◌≡◌, ℕ, Bool, true, false, cond, refl, sym, ap, ◌∙◌, subst}
use Rattle.std.specs.Prelude.{Option, Some, None, IfSome, Err}
use Rattle.dio_core.specs.Counts.{Rose, IsCounted}
use Rattle.dio_core.specs.Disks.{DiskState}
use Rattle.txn_lang.specs.States.{Journal}
use Rattle.commit_file.specs.declared.recover_error.RecoverError.{RecoverError}
use Rattle.commit_file.specs.declared.recover_error.RecoverError.TheVariants as error
use Rattle.commit_file.specs.Kept.{kept}
use Rattle.commit_file.specs.Recovering.{disk_failed}
use Rattle.commit_file.specs.Recovering as recovering
use Rattle.audit_core.specs.declared.verdict.Verdict.{Verdict}
use Rattle.audit_core.specs.declared.verdict.Verdict.TheVariants as verdict
use Rattle.journal_file.specs.Commits.{CommitsFollow, IsKeptAs, IsNotJournal, commits_in}
use Rattle.script_runner.specs.Script.{Writing}
use Rattle.script_runner.specs.declared.status.TheConstants.{WRITE_FAULT}
use Rattle.diamond_cli.specs.Filed.{Storing, HoldsNone, IsUnwritten, refusal}
use Rattle.diamond_cli.specs.Audited.{status_of, IsAudited, IsRead, IsUnread, Audits}

-- ---- what is told of a disk

-- what holds of each file holds of the one that is told
of_any : {P : DiskState → Type 0} (state : Option DiskState) → ((s : DiskState) → P s) → IfSome state P
of_any None all = tt
of_any (Some s) all = all s

-- a file that is kept as some commits is one of a journal
both : (s : DiskState) (journal : Journal) (at : ℕ) → IsKeptAs journal s.file → IsNotJournal at s.file → ⊥
both s journal at is none = let no : ◌≡◌ {A = Option Journal} None (Some journal) = sym (ap commits_in none) ∙ is in absurd (cc no)

-- so is the one that is told
not_none : (A : Type 0) (state : Option DiskState) (journal : Journal) → IfSome state (λ s. IsKeptAs journal s.file)
    → IfSome state (λ s. (at : ℕ) → IsNotJournal at s.file → A → ⊥)
not_none A None journal is = tt
not_none A (Some s) journal is = λ at none among. both s journal at is none

-- and one that is none of a journal is kept as no commits
not_kept : (A : Type 0) (state : Option DiskState) → HoldsNone state → IfSome state (λ s. (journal : Journal) → IsKeptAs journal s.file → A → ⊥)
not_kept A None none = tt
not_kept A (Some s) none = λ journal is among. both s journal none.0 is none.1

-- the file is none of a journal, from this place on
none-held : (state : Option DiskState) (at : ℕ) → IfSome state (λ s. recovering.IsRefused (kept CommitsFollow s.file) (error.NotJournal at)) → HoldsNone state
none-held None at refused = tt
none-held (Some s) at refused = (at, refused)

-- ---- where the file was not read

module _ (d : Storing) (w : Writing) where
  -- nothing was written, and the disk is as before
  pub unread-by : (A : Type 0) (e : RecoverError) → IfSome d.state (λ s. recovering.IsRefused (kept CommitsFollow s.file) e)
      → d.state_then ≡ d.state → IsCounted (disk_failed {A = A} (Err e)) d.faults d.faults_then → IsUnwritten w → IsUnread d w e
  unread-by A (error.NotJournal at) refused same counted unwritten = record {
    unwritten = unwritten;
    spared = same;
    disk = λ is. absurd (cc);
    refused = λ place is. none-held d.state at refused;
  }
  unread-by A error.DiskFault refused same counted unwritten = record {
    unwritten = unwritten;
    spared = same;
    disk = λ is. counted;
    refused = λ place is. absurd (cc);
  }
  unread-by A error.NoMemory refused same counted unwritten = record {
    unwritten = unwritten;
    spared = same;
    disk = λ is. absurd (cc);
    refused = λ place is. absurd (cc);
  }

  -- the same for want of memory
  pub no-memory : d.state_then ≡ d.state → IsUnwritten w → IsUnread d w error.NoMemory
  no-memory same unwritten = record {
    unwritten = unwritten;
    spared = same;
    disk = λ is. absurd (cc);
    refused = λ place is. absurd (cc);
  }

  -- the promises, by why it was not read
  pub audits-unread : (at : Option ℕ) (e : RecoverError) → IsUnread d w e → Audits at d (refusal e) w
  audits-unread at (error.NotJournal place) u = record {
    statuses = refl;
    audited = λ among. absurd (cc among);
    unwritten = λ among. u.unwritten;
    disk = λ is. absurd (cc is);
    refused = λ is. u.refused place refl;
    sink = λ is. absurd (cc is);
    spared = u.spared;
    completes = λ disk written. refl;
    unrefused = not_kept _ d.state (u.refused place refl);
    unread = of_any d.state (λ s at none among. absurd (cc among));
  }
  audits-unread at error.DiskFault u = record {
    statuses = refl;
    audited = λ among. absurd (cc among);
    unwritten = λ among. u.unwritten;
    disk = λ is. u.disk refl;
    refused = λ is. absurd (cc is);
    sink = λ is. absurd (cc is);
    spared = u.spared;
    completes = λ disk written. absurd (disk (u.disk refl));
    unrefused = of_any d.state (λ s kept is among. absurd (cc among));
    unread = of_any d.state (λ s at none among. absurd (cc among));
  }
  audits-unread at error.NoMemory u = record {
    statuses = refl;
    audited = λ among. absurd (cc among);
    unwritten = λ among. u.unwritten;
    disk = λ is. absurd (cc is);
    refused = λ is. absurd (cc is);
    sink = λ is. absurd (cc is);
    spared = u.spared;
    completes = λ disk written. refl;
    unrefused = of_any d.state (λ s kept is among. absurd (cc among));
    unread = of_any d.state (λ s at none among. absurd (cc among));
  }

  -- ---- where it was

  -- the promises, by what was found and whether it was told
  read-by : (at : Option ℕ) (done : Bool) (v : Verdict) → IsAudited at d (cond done (status_of v) WRITE_FAULT) w
      → (done ≡ false → Rose w.faults w.faults_then) → d.state_then ≡ d.state → Audits at d (cond done (status_of v) WRITE_FAULT) w
  read-by at true (verdict.Legal n) audited fault same = record {
    statuses = refl;
    audited = λ among. audited;
    unwritten = λ among. absurd (cc among);
    disk = λ is. absurd (cc is);
    refused = λ is. absurd (cc is);
    sink = λ is. absurd (cc is);
    spared = same;
    completes = λ disk written. refl;
    unrefused = of_any d.state (λ s kept is among. absurd (cc among));
    unread = not_none _ d.state audited.kept audited.read;
  }
  read-by at true (verdict.Broken place f) audited fault same = record {
    statuses = refl;
    audited = λ among. audited;
    unwritten = λ among. absurd (cc among);
    disk = λ is. absurd (cc is);
    refused = λ is. absurd (cc is);
    sink = λ is. absurd (cc is);
    spared = same;
    completes = λ disk written. refl;
    unrefused = of_any d.state (λ s kept is among. absurd (cc among));
    unread = not_none _ d.state audited.kept audited.read;
  }
  read-by at false v audited fault same = record {
    statuses = refl;
    audited = λ among. audited;
    unwritten = λ among. absurd (cc among);
    disk = λ is. absurd (cc is);
    refused = λ is. absurd (cc is);
    sink = λ is. fault refl;
    spared = same;
    completes = λ disk written. absurd (written (fault refl));
    unrefused = of_any d.state (λ s kept is among. absurd (cc among));
    unread = not_none _ d.state audited.kept audited.read;
  }

  -- at the status that was answered
  pub audits-read : (at : Option ℕ) (status : ℕ) → IsRead at d status w → Audits at d status w
  audits-read at status r =
      let told = r.audited.reported in
      subst (λ (s : ℕ). Audits at d s w) (sym told.status_is)
      (read-by at told.done told.verdict (subst (λ (s : ℕ). IsAudited at d s w) told.status_is r.audited) told.tried.fault r.spared)
