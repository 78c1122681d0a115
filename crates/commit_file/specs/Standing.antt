-- How the file stands between two calls of a keeper.
use Rattle.std.specs.Prelude.{◌≡◌, ℕ, ◌+◌, ◌≤◌, Bool, true, false, if◌then◌else◌, nat_eq, List, [], ◌∷◌, ◌++◌, length, take, drop, Result, Ok, Err, refl}
use Rattle.std.specs.List.{AllByRecursion}
use Rattle.std.specs.Cmp.Lexicographic.{pointwise}
use Rattle.dio_core.specs.Disks.{Durable, DiskState, IsUnreached, overwritten, Writes}
use Rattle.commit_file.specs.declared.version.Version.TheVariants.{One}
use Rattle.commit_file.specs.declared.gate.Outcome.{Outcome}
use Rattle.commit_file.specs.declared.gate.Outcome.TheVariants.{Done, Behind, AtGate}
use Rattle.commit_file.specs.Files.{Contents, header, opened, body, file, end_of}
use Rattle.commit_file.specs.Files.Contents.{Current, Marked}
use Rattle.commit_file.specs.Kept.{payloads, payloads_marked, behind_frames}
use Rattle.commit_file.specs.Through.{resting, write_moments}

-- the contents that the bytes before a closed gate stand for
abbrev pub contents_of : List ℕ → Contents
contents_of bytes =
    if pointwise nat_eq (take 12 bytes) (header One)
    then Marked (payloads (drop 12 bytes)) (payloads_marked (behind_frames (drop 12 bytes)))
    else Current (payloads (drop 12 bytes))

contents_of-example : contents_of (opened (Marked ((7 ∷ []) ∷ []) ((8 ∷ []) ∷ []))) ≡ Marked ((7 ∷ []) ∷ []) ((8 ∷ []) ∷ [])
contents_of-example = refl

-- The gate behind these is closed: each image that a crash may leave, and the file as it reads, begins with their file.
pub record IsClosed (c : Contents) (s : DiskState) : Type 0 where
  pub unreached : IsUnreached (end_of c + 1) s.durable
  pub synced : take (end_of c + 1) s.durable.synced ≡ file c
  pub reads : take (end_of c + 1) s.file ≡ file c

-- The gate behind these may be open, and but for that nothing is pending: behind it stand a whole payload and a closed
-- gate.
pub record IsDoubtful (c : Contents) (p : List ℕ) (s : DiskState) : Type 0 where
  pub unreached : IsUnreached (end_of c) s.durable
  pub gate_alone : AllByRecursion (λ range. range.1 ≤ end_of c + 1) s.durable.loose
  pub no_shorter : length s.durable.synced ≤ s.durable.least
  pub no_longer : s.durable.greatest ≤ length s.durable.synced
  pub synced : take (end_of c) s.durable.synced ≡ opened c
  pub synced_behind : take (length (body p) + 1) (drop (end_of c + 1) s.durable.synced) ≡ body p ++ 0 ∷ []
  pub reads : take (end_of c) s.file ≡ opened c
  pub reads_behind : take (length (body p) + 1) (drop (end_of c + 1) s.file) ≡ body p ++ 0 ∷ []

-- ---- bytes written behind a closed gate, and then the gate

-- the moments at which that is done
abbrev pub gate_moments : ℕ → ℕ → List ℕ → DiskState → List Durable
gate_moments gate end bytes s =
    write_moments (end + 1) bytes s ++ write_moments end (gate ∷ []) (resting (overwritten s.file (end + 1) bytes))

-- the bytes behind the gate, and the gate as it was
abbrev pub staged_at : ℕ → List ℕ → List ℕ → List ℕ
staged_at end bytes file = overwritten file (end + 1) bytes

-- and the gate set
abbrev pub set_at : ℕ → ℕ → List ℕ → List ℕ → List ℕ
set_at gate end bytes file = overwritten (staged_at end bytes file) end (gate ∷ [])

-- what that did, by how far it came
abbrev pub SetsGate : Outcome → ℕ → ℕ → List ℕ → DiskState → DiskState → Type 0
SetsGate Done gate end bytes old new = new ≡ resting (set_at gate end bytes old.file)
SetsGate Behind gate end bytes old new = Writes {A = ℕ} {E = ℕ} (Err 0) (end + 1) bytes old new
SetsGate AtGate gate end bytes old new =
    Writes {A = ℕ} {E = ℕ} (Err 0) end (gate ∷ []) (resting (staged_at end bytes old.file)) new

abbrev pub has_failed : Outcome → Bool
has_failed Done = false
has_failed Behind = true
has_failed AtGate = true
