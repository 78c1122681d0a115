-- What `serve` promises of the file in which commits are kept.
use Rattle.std.specs.Prelude.{◌≡◌, ◌≢◌, ◌⊎◌, ℕ, [], ◌∷◌, Option, None, IfSome, refl}
use Rattle.dio_core.specs.declared.disk.Disk.{Ghosts as DiskTells}
use Rattle.dio_core.specs.Counts.{Rose}
use Rattle.dio_core.specs.Disks.{DiskState}
use Rattle.dio_core.specs.Links.{Both}
use Rattle.rdt_types.specs.declared.settings.Settings.{Settings}
use Rattle.txn_lang.specs.States.{Journal}
use Rattle.commit_file.specs.declared.recover_error.RecoverError.{RecoverError}
use Rattle.commit_file.specs.declared.recover_error.RecoverError.TheVariants as error
use Rattle.commit_file.specs.Keepers.{Keeper}
use Rattle.journal_file.specs.Commits.{IsKeptAs, IsNotJournal}
use Rattle.journal_file.specs.Keepers.{KeepsThese, doubted_by, ReadsAs, LeavesAs}
use Rattle.script_runner.specs.Script.{Writing}
use Rattle.script_runner.specs.declared.status.TheConstants.{WHOLE, WRITE_FAULT, NO_MEMORY}
use Rattle.diamond_server.specs.Accounts.{Gatherings}
use Rattle.diamond_server.specs.Ways.{Promising}
use Rattle.diamond_cli.specs.declared.file.TheConstants.{DISK_FAULT, NOT_JOURNAL}
use Rattle.diamond_cli.specs.declared.line.TheConstants.{LISTENER_FAULT}
use Rattle.diamond_cli.specs.Serving.{IsAmong, IsEnded}

statuses-are : DISK_FAULT ∷ NOT_JOURNAL ∷ [] ≡ 6 ∷ 7 ∷ []
statuses-are = refl

-- A disk, when a command begins and when it ends.
pub record Storing : Type 0 where
  pub state : Option DiskState  -- what it reads as and what a crash may leave, or None where it doesn't tell
  pub state_then : Option DiskState
  pub faults : ℕ  -- how many calls have failed
  pub faults_then : ℕ

-- a disk, by what disks tell
abbrev pub storing : {D : Type 0} → DiskTells D → D → D → Storing
storing told old new =
    record { state = told.state old; state_then = told.state new; faults = told.disk_faults old; faults_then = told.disk_faults new }

-- HOW THE FILE STANDS AT THE END, by the keeper that kept the store's commits in it. At most one commit is doubtful: one that was
-- denied, since its keeping had failed, and that the disk didn't let the keeper take back. The disk's count of faults was `before` when
-- the store was made, and is `after` at its end.
pub record HoldsJournal (journal : Journal) (before after : ℕ) (state : Option DiskState) : Type 0 where
  pub keeper : Keeper
  pub over : keeper.state ≡ state
  -- what is certain: the keeper has kept the journal's commits, and no others
  pub keeps : KeepsThese journal keeper
  -- what is doubtful: nothing, unless the disk's count rose
  pub doubts : (doubted_by keeper ≡ None) ⊎ Rose before after
  -- the file as it reads is kept as the journal, or as the journal and the doubtful commit
  pub reads : ReadsAs journal (doubted_by keeper) state
  -- and so is each image that a crash may leave
  pub leaves : LeavesAs journal (doubted_by keeper) state
  -- where the disk's count didn't rise, the file reads as exactly the journal
  pub exact : ¬ (Rose before after) → ReadsAs journal None state

-- ---- where it was not recovered

-- the status by which that is said
abbrev pub refusal : RecoverError → ℕ
refusal (error.NotJournal at) = NOT_JOURNAL
refusal error.DiskFault = DISK_FAULT
refusal error.NoMemory = NO_MEMORY

refusal-example : refusal (error.NotJournal 12) ≡ 7
refusal-example = refl

-- the file of the disk, where it tells, is none of a journal
abbrev pub HoldsNone : Option DiskState → Type 0
HoldsNone state = IfSome state (λ s. (at : ℕ) × IsNotJournal at s.file)

-- the disk is as it was: its file reads as before, a crash leaves what it left before, and no call of it has failed
pub record IsSpared (d : Storing) : Type 0 where
  pub state : d.state_then ≡ d.state
  pub faults : d.faults_then ≡ d.faults

-- nothing was written
abbrev pub IsUnwritten : Writing → Type 0
IsUnwritten w = (w.taken_then ≡ w.taken) × (w.faults_then ≡ w.faults)

-- no link was accepted
pub record IsUnaccepted {L : Type 0} (g : Gatherings L) : Type 0 where
  pub links : g.links_then ≡ g.links
  pub given : g.given_then ≡ g.given
  pub faults : g.faults_then ≡ g.faults

-- what there is then
abbrev pub IsRefused : {L : Type 0} → Gatherings L → Storing → Writing → RecoverError → Type 0
IsRefused g d w (error.NotJournal at) = HoldsNone d.state × IsSpared d × IsUnaccepted g × IsUnwritten w
IsRefused g d w error.DiskFault = Rose d.faults d.faults_then × IsUnaccepted g × IsUnwritten w
IsRefused g d w error.NoMemory = IsUnwritten w

-- ---- the whole

-- All sessions ended, over a store that began with the commits that the file was kept as; and the file holds the store's journal then.
pub record IsFiled {L : Type 0} (Promised : Promising) (told : L → Both) (settings : Settings) (sessions : ℕ) (g : Gatherings L) (d : Storing)
    (status : ℕ) (w : Writing) : Type 0 where
  pub kept : Journal
  pub recovered : IfSome d.state (λ s. IsKeptAs kept s.file)
  pub ended : IsEnded Promised told settings sessions g kept d.faults d.faults_then status w
  pub holds : HoldsJournal ended.journal d.faults d.faults_then d.state_then

-- WHAT `serve` PROMISES OF A STORE IN A FILE, from the listener, the disk and the sink before it to them after it.
pub record ServesFile {L : Type 0} (Promised : Promising) (told : L → Both) (settings : Settings) (sessions : ℕ) (g : Gatherings L) (d : Storing)
    (status : ℕ) (w : Writing) : Type 0 where
  -- there are six statuses
  pub statuses : IsAmong (WHOLE ∷ WRITE_FAULT ∷ NO_MEMORY ∷ DISK_FAULT ∷ NOT_JOURNAL ∷ LISTENER_FAULT ∷ []) status
  -- at 0, 4 and 8 the file was recovered, all sessions ended, and the line was tried
  pub ended : IsAmong (WHOLE ∷ WRITE_FAULT ∷ LISTENER_FAULT ∷ []) status → IsFiled Promised told settings sessions g d status w
  -- at 5, 6 and 7 nothing is written
  pub unwritten : IsAmong (NO_MEMORY ∷ DISK_FAULT ∷ NOT_JOURNAL ∷ []) status → IsUnwritten w
  -- at 6 and 7 no link is accepted
  pub unaccepted : IsAmong (DISK_FAULT ∷ NOT_JOURNAL ∷ []) status → IsUnaccepted g
  -- at 6 the disk failed
  pub disk : status ≡ DISK_FAULT → Rose d.faults d.faults_then
  -- at 7 the file is none of a journal, and stays as it was
  pub refused : status ≡ NOT_JOURNAL → HoldsNone d.state
  pub spared : status ≡ NOT_JOURNAL → IsSpared d
  -- at 8 an accept failed
  pub listener : status ≡ LISTENER_FAULT → Rose g.faults g.faults_then
  -- where no count rose, the status is 0, 5 or 7, whether the disk tells or not
  pub completes : ¬ (Rose d.faults d.faults_then) → ¬ (Rose g.faults g.faults_then) → ¬ (Rose w.faults w.faults_then)
      → IsAmong (WHOLE ∷ NO_MEMORY ∷ NOT_JOURNAL ∷ []) status
  -- and it isn't 7 where the file is kept as some commits
  pub unrefused : IfSome d.state (λ s. (kept : Journal) → IsKeptAs kept s.file → status ≢ NOT_JOURNAL)
