-- A change of a file that is made durable by a sync behind it: what it leaves, and what a crash may meet on the way.
use Rattle.std.specs.Prelude.{◌≡◌, ℕ, ◌+◌, ◌⊎◌, List, [], ◌∷◌, ◌++◌, length, take, Option, Some, None, IfSome, Result, Ok, Err}
use Rattle.std.specs.List.{AllByRecursion}
use Rattle.dio_core.specs.Disks.{Durable, DiskState, settled, loosened, shortened, overwritten, write_start, Writes, Shortens}

-- a disk on which nothing is pending
abbrev pub resting : List ℕ → DiskState
resting file = record { file = file; durable = settled file }

-- the disk is at rest then, with this file
abbrev pub Rests : List ℕ → DiskState → DiskState → Type 0
Rests file old new = new ≡ resting file

-- one of these
abbrev pub IsAmong : List Durable → Durable → Type 0
IsAmong [] d = ⊥
IsAmong (x ∷ xs) d = (d ≡ x) ⊎ IsAmong xs d

-- Each moment of some calls, their start and their end among them, is one of these.
pub record PassesAmong (among past past_then : List Durable) (state : Option DiskState) : Type 0 where
  pub moments : List Durable
  pub passed : past_then ≡ past ++ moments
  pub each : AllByRecursion (IsAmong among) moments
  pub last : IfSome state (λ s. IsAmong among s.durable)

-- What a write and a sync behind it did. Where either failed, the write was made in part, or not at all.
abbrev pub WritesThrough : {A E : Type 0} → Result A E → ℕ → List ℕ → DiskState → DiskState → Type 0
WritesThrough (Ok _) at bytes old new = new ≡ resting (overwritten old.file at bytes)
WritesThrough (Err e) at bytes old new = Writes {A = ℕ} (Err e) at bytes old new

-- the moments of a write and a sync behind it
abbrev pub write_moments : ℕ → List ℕ → DiskState → List Durable
write_moments at bytes s =
    s.durable ∷ loosened (write_start s.file at) (at + length bytes) s.durable ∷ settled (overwritten s.file at bytes) ∷ []

-- What a cut and a sync behind it did.
abbrev pub CutsThrough : {A E : Type 0} → Result A E → ℕ → DiskState → DiskState → Type 0
CutsThrough (Ok _) to old new = new ≡ resting (take to old.file)
CutsThrough (Err e) to old new = Shortens {A = ℕ} (Err e) to old new

-- the moments of a cut and a sync behind it
abbrev pub cut_moments : ℕ → DiskState → List Durable
cut_moments to s = s.durable ∷ shortened to s.durable ∷ settled (take to s.file) ∷ []
