-- What is said of a file's bytes: what is kept of them and what recovery leaves on the disk, or the place from which on they are no
-- journal.
use Rattle.std.specs.Prelude.{◌≡◌, ℕ, ◌+◌, ◌&&◌, not, Bool, nat_lt, nat_eq, if◌then◌else◌, List, [], ◌∷◌, ◌++◌, length, take, refl}
use Rattle.std.specs.Cmp.Lexicographic.{pointwise}
use Rattle.commit_file.specs.declared.version.Version.{Version}
use Rattle.commit_file.specs.declared.version.Version.TheVariants.{One, Two}
use Rattle.commit_file.specs.Files as files
use Rattle.commit_file.specs.Files.{header, frames, file}
use Rattle.commit_file.specs.Kept as kept
use Rattle.commit_file.specs.Kept.{Meaning, checked, continued}
use Rattle.commit_file.specs.Standing.{contents_of}
use Rattle.file_oracle.specs.declared.checking.Reading.{Reading}
use Rattle.file_oracle.specs.declared.checking.Reading.TheVariants as reading
use Rattle.file_oracle.specs.declared.contents.Contents.{Contents}
use Rattle.file_oracle.specs.declared.contents.Contents.TheVariants as contents
use Rattle.file_oracle.specs.declared.verdict.Kept.{Kept}
use Rattle.file_oracle.specs.declared.verdict.Verdict.{Verdict}
use Rattle.file_oracle.specs.declared.verdict.Verdict.TheVariants as verdict

-- ---- what is kept

-- what a verdict says is kept
abbrev pub reading_of : Verdict → kept.Reading
reading_of (verdict.Kept k) = kept.Reading.Journal k.payloads
reading_of (verdict.NotJournal at) = kept.Reading.NotJournal at

-- ---- what is left

-- the contents of the file that recovery leaves of one that is kept: all its open frames that are whole, up to the first that isn't
abbrev pub left_of : List ℕ → files.Contents
left_of bytes = if nat_lt 13 (length bytes) then contents_of bytes else files.Contents.Current []

-- of a verdict that something is kept this holds
abbrev pub IfKept : Verdict → (Kept → Type 0) → Type 0
IfKept (verdict.Kept k) holds = holds k
IfKept (verdict.NotJournal at) holds = Unit {0}

-- ---- on the way

-- the bytes begin with the header of a version
abbrev pub has_header : Version → List ℕ → Bool
has_header version bytes = pointwise nat_eq (take 12 bytes) (header version)

-- a file that is longer than that of no payload, and begins as no journal does
abbrev pub is_headless : List ℕ → Bool
is_headless bytes = nat_lt 13 (length bytes) && not (has_header Two bytes) && not (has_header One bytes)

-- contents in code
abbrev pub contents_in : Contents → files.Contents
contents_in (contents.Current ps) = files.Contents.Current ps
contents_in (contents.Marked old ps) = files.Contents.Marked old ps

-- payloads that were held against those before them, in code
abbrev pub reading_in : Reading → kept.Reading
reading_in (reading.Journal ps) = kept.Reading.Journal ps
reading_in (reading.NotJournal at) = kept.Reading.NotJournal at

-- the payloads of contents, each held against those before it
abbrev pub all_checked : Meaning → files.Contents → kept.Reading
all_checked m (files.Contents.Current ps) = checked m Two [] 12 ps
all_checked m (files.Contents.Marked old ps) =
    continued m (checked m One [] 12 old) (12 + length (frames old) + 1) ps

-- ---- worked lines

-- what stands behind the last whole frame is left out, and a file of version 1 gets a mark
left_of-torn_example : file (left_of (header Two ++ 1 ∷ 0 ∷ 0 ∷ 0 ∷ 1 ∷ 7 ∷ 1 ∷ 0 ∷ 0 ∷ 0 ∷ 2 ∷ 8 ∷ [])) ≡ header Two ++ 1 ∷ 0 ∷ 0 ∷ 0 ∷ 1 ∷ 7 ∷ 0 ∷ []
left_of-torn_example = refl

left_of-unmarked_example : file (left_of (header One ++ 1 ∷ 0 ∷ 0 ∷ 0 ∷ 1 ∷ 7 ∷ 0 ∷ [])) ≡ header One ++ 1 ∷ 0 ∷ 0 ∷ 0 ∷ 1 ∷ 7 ∷ 2 ∷ 0 ∷ []
left_of-unmarked_example = refl

-- a short file becomes that of no payload
left_of-short_example : file (left_of (1 ∷ 2 ∷ 3 ∷ [])) ≡ header Two ++ 0 ∷ []
left_of-short_example = refl
