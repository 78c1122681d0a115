-- How many commits the bytes of a journal's file tell. Behind its header each commit stands behind an open gate and its length;
-- in a file of version 1 a mark may stand once in the place of a gate. A commit that isn't whole is none.
use Rattle.std.specs.Prelude.{◌≡◌, ℕ, ◌+◌, ◌*◌, ◌-◌, ◌^◌, ◌&&◌, false, List, [], ◌∷◌, ◌++◌, min, fold, if◌then◌else◌, nat_eq, nat_lt, refl}
use Rattle.commit_file.specs.declared.version.Version.TheVariants.{One, Two}
use Rattle.commit_file.specs.Files.{header, frame, file}
use Rattle.commit_file.specs.Files.Contents.{Current, Marked}
use Rattle.serve_status.specs.declared.frames.TheConstants.{OPEN, MARK, VERSION_ONE, VERSION_AT, LENGTH_LAST}
use Rattle.serve_status.specs.declared.frames.FilePlace.{FilePlace}
use Rattle.serve_status.specs.declared.frames.FilePlace.TheVariants as place
use Rattle.serve_status.specs.declared.frames.FileReading.{FileReading}

-- at another place
abbrev pub at : FilePlace → FileReading → FileReading
at there r = record { place = there; marks = r.marks; commits = r.commits }

-- one more byte of the header, of which so many were read
abbrev pub in_header : ℕ → ℕ → FileReading → FileReading
in_header count byte r =
    if nat_lt count VERSION_AT
    then at (place.Header (count + 1)) r
    else record { place = place.Gate; marks = nat_eq byte VERSION_ONE; commits = r.commits }

-- behind the mark
abbrev pub unmarked : FileReading → FileReading
unmarked r = record { place = place.Gate; marks = false; commits = r.commits }

-- the byte of a gate, or a mark in its place
abbrev pub at_gate : ℕ → FileReading → FileReading
at_gate byte r =
    if nat_eq byte OPEN
    then at (place.Length 0 0) r
    else (if r.marks && nat_eq byte MARK then unmarked r else at place.Rest r)

-- before the last so many bytes of a commit: behind the last one there is one more
abbrev pub before : ℕ → FileReading → FileReading
before left r =
    if nat_lt 0 left
    then at (place.Commit left) r
    else record { place = place.Gate; marks = r.marks; commits = min (r.commits + 1) (2 ^ 64 - 1) }

-- the length with one more byte
abbrev pub longer : ℕ → ℕ → ℕ
longer length byte = min (min (length * 256) (2 ^ 64 - 1) + byte) (2 ^ 64 - 1)

-- one more byte of the length of a commit, of which so many were read
abbrev pub in_length : ℕ → ℕ → ℕ → FileReading → FileReading
in_length count length byte r =
    if nat_lt count LENGTH_LAST then at (place.Length (count + 1) (longer length byte)) r else before (longer length byte) r

-- what one more byte tells at a place
abbrev pub with_byte_at : FilePlace → ℕ → FileReading → FileReading
with_byte_at (place.Header count) byte r = in_header count byte r
with_byte_at place.Gate byte r = at_gate byte r
with_byte_at (place.Length count length) byte r = in_length count length byte r
with_byte_at (place.Commit left) byte r = before (left - 1) r
with_byte_at place.Rest byte r = r

-- what one more byte tells
abbrev pub with_byte : FileReading → ℕ → FileReading
with_byte r byte = with_byte_at r.place byte r

-- nothing was read yet
abbrev pub unread : FileReading
unread = record { place = place.Header 0; marks = false; commits = 0 }

-- how many commits a file tells
abbrev pub commits_in : List ℕ → ℕ
commits_in bytes = (fold with_byte unread bytes).commits

-- of a file with two commits, the second of which has no byte
commits_in-example : commits_in (file (Current ((7 ∷ 8 ∷ []) ∷ [] ∷ []))) ≡ 2
commits_in-example = refl

-- of one of version 1, on both sides of its mark
commits_in-marked_example : commits_in (file (Marked ((7 ∷ []) ∷ []) ((8 ∷ 9 ∷ []) ∷ (7 ∷ []) ∷ []))) ≡ 3
commits_in-marked_example = refl

-- a second mark isn't one, and in a file of version 2 none is
commits_in-twice_example : commits_in (header One ++ 2 ∷ 2 ∷ frame (7 ∷ [])) ≡ 0
commits_in-twice_example = refl

commits_in-current_example : commits_in (header Two ++ 2 ∷ frame (7 ∷ [])) ≡ 0
commits_in-current_example = refl

-- a commit whose gate is closed, and one that isn't whole
commits_in-closed_example : commits_in (header Two ++ 0 ∷ 0 ∷ 0 ∷ 0 ∷ 1 ∷ 7 ∷ 0 ∷ []) ≡ 0
commits_in-closed_example = refl

commits_in-torn_example : commits_in (header Two ++ frame (7 ∷ []) ++ 1 ∷ 0 ∷ 0 ∷ 0 ∷ 2 ∷ 1 ∷ []) ≡ 1
commits_in-torn_example = refl
