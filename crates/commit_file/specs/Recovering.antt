-- What recovery finds and leaves, and what a crash may meet on its way.
use Rattle.std.specs.Prelude.{◌≡◌, ℕ, ◌+◌, ◌<◌, ◌≤◌, Bool, true, false, List, [], ◌∷◌, ◌++◌, length, take, drop, nat_eq}
use Rattle.std.specs.Cmp.Lexicographic.{pointwise}
use Rattle.std.specs.Prelude.{Result, Ok, Err}
use Rattle.dio_core.specs.Disks.{Durable, DiskState}
use Rattle.commit_file.specs.declared.version.Version.{Version}
use Rattle.commit_file.specs.declared.version.Version.TheVariants.{One, Two}
use Rattle.commit_file.specs.declared.recover_error.RecoverError.{RecoverError}
use Rattle.commit_file.specs.declared.recover_error.RecoverError.TheVariants as error
use Rattle.commit_file.specs.Files.{Contents, header, frames, opened, file, end_of, all_of, AreShort}
use Rattle.commit_file.specs.Kept.{Meaning, Reading, payloads, payloads_marked, kept, Follow, IsProper}
use Rattle.commit_file.specs.Kept.Reading.{Journal, NotJournal}
use Rattle.commit_file.specs.Through.{resting, cut_moments, write_moments}

-- ---- causes

-- the answer is that the disk failed
abbrev pub disk_failed : {A : Type 0} → Result A RecoverError → Bool
disk_failed (Ok _) = false
disk_failed (Err (error.NotJournal _)) = false
disk_failed (Err error.DiskFault) = true
disk_failed (Err error.NoMemory) = false

-- the answer is the place at which there is no journal, if it says so
abbrev pub IsRefused : Reading → RecoverError → Type 0
IsRefused reading (error.NotJournal at) = reading ≡ NotJournal at
IsRefused reading error.DiskFault = Unit {0}
IsRefused reading error.NoMemory = Unit {0}

-- the bytes begin with no header, and are more than a stopped creation may leave
abbrev pub IsForeign : List ℕ → Type 0
IsForeign bytes =
    (13 < length bytes) × (pointwise nat_eq (take 12 bytes) (header Two) ≡ false)
    × (pointwise nat_eq (take 12 bytes) (header One) ≡ false)

-- the answer says nothing of the file
abbrev pub IsPlain : RecoverError → Type 0
IsPlain (error.NotJournal at) = ⊥
IsPlain error.DiskFault = Unit {0}
IsPlain error.NoMemory = Unit {0}

-- ---- what is read

-- a taker of payloads took this one behind those, or not
abbrev pub Takes : Bool → List ℕ → List (List ℕ) → List (List ℕ) → Type 0
Takes true p before after = after ≡ before ++ p ∷ []
Takes false p before after = after ≡ before

-- The payloads of the open frames that begin here were taken behind those. This rest stands behind the frames.
pub record IsScanned (m : Meaning) (version : Version) (before : List (List ℕ)) (bytes rest : List ℕ)
    (after : List (List ℕ)) : Type 0 where
  pub taken : after ≡ before ++ payloads bytes
  pub follow : Follow m version before (payloads bytes)
  pub short : AreShort (payloads bytes)
  pub parts : bytes ≡ frames (payloads bytes) ++ rest
  pub within : length rest ≤ length bytes
  pub none : payloads rest ≡ []

-- no frame is open here, nor, where it would count, behind a mark
abbrev pub OpensNone : Bool → List ℕ → Type 0
OpensNone false rest = payloads rest ≡ []
OpensNone true rest = (payloads rest ≡ []) × (payloads_marked rest ≡ [])

-- The bytes are the written part of a file with these payloads: all of version 1 and without a mark, or with contents
-- that go on being written.
abbrev pub HasForm : Meaning → Bool → List ℕ → List (List ℕ) → Type 0
HasForm m false front ps = (c : Contents) × (front ≡ opened c) × (all_of c ≡ ps) × IsProper m c
HasForm m true front ps = (front ≡ header One ++ frames ps) × Follow m One [] ps × AreShort ps

-- A file is kept as these payloads, whose frames end there; where it is unmarked, it has to get a mark.
pub record IsFound (m : Meaning) (bytes : List ℕ) (ps : List (List ℕ)) (end : ℕ) (unmarked : Bool) : Type 0 where
  pub kept_as : kept m bytes ≡ Journal ps
  -- a short file holds none
  pub empty : length bytes ≤ 13 → (ps ≡ []) × (end ≡ 12)
  -- a longer one has them before the end, and no open frame behind it
  pub within : 13 < length bytes → end ≤ length bytes
  pub form : 13 < length bytes → HasForm m unmarked (take end bytes) ps
  pub none : 13 < length bytes → OpensNone unmarked (drop end bytes)

-- ---- what is left

-- The disk is at rest, and its file is that of contents with these payloads, which end there.
pub record IsAtRest (m : Meaning) (ps : List (List ℕ)) (end : ℕ) (s : DiskState) : Type 0 where
  pub contents : Contents
  pub holds : all_of contents ≡ ps
  pub proper : IsProper m contents
  pub end_is : end ≡ end_of contents
  pub rests : s ≡ resting (file contents)

-- the moments at which all behind a length is replaced by these bytes
abbrev pub replace_moments : ℕ → List ℕ → DiskState → List Durable
replace_moments to bytes s = cut_moments to s ++ write_moments to bytes (resting (take to s.file))

-- all behind a length is replaced by these bytes
abbrev pub Replaces : {A E : Type 0} → Result A E → ℕ → List ℕ → DiskState → DiskState → Type 0
Replaces (Ok _) to bytes old new = new ≡ resting (take to old.file ++ bytes)
Replaces (Err _) to bytes old new = Unit {0}
