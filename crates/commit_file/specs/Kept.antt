-- What a file is kept as: whatever a crash has left of it.
use Rattle.std.specs.Prelude.{◌≡◌, ℕ, zero, suc, ◌+◌, ◌<◌, ◌⊎◌, ◌==◌, Bool, true, false, nat_lt, nat_eq, if◌then◌else◌, refl}
use Rattle.std.specs.Prelude.{List, [], ◌∷◌, ◌++◌, length, take, drop, Option, Some, None}
use Rattle.std.specs.Int.{w32, from_be_bytes}
use Rattle.std.specs.Cmp.Lexicographic.{pointwise}
use Rattle.commit_file.specs.declared.version.Version.{Version}
use Rattle.commit_file.specs.declared.version.Version.TheVariants.{One, Two}
use Rattle.commit_file.specs.Files.{Contents, header, frame, frames, file, all_of, IsShort}
use Rattle.commit_file.specs.Files.Contents.{Current, Marked}

-- What payloads mean: whether one of a version may stand behind these.
abbrev pub Meaning : Type 0
Meaning = Version → List (List ℕ) → List ℕ → Bool

-- a list of payloads, or the place of the first byte that no journal has there
pub data Reading : Type 0 where
  Journal : List (List ℕ) → Reading
  NotJournal : ℕ → Reading

-- ---- the frames

abbrev pub length_field : List ℕ → ℕ
length_field bytes = from_be_bytes w32 (take 4 bytes)

-- the payload behind a gate, where its length and its bytes are there
abbrev pub payload_behind : List ℕ → Option (List ℕ)
payload_behind bytes =
    if nat_lt (length bytes) (4 + length_field bytes) then None else Some (take (length_field bytes) (drop 4 bytes))

-- the payload of the open frame that is whole and begins here
abbrev pub payload_at : List ℕ → Option (List ℕ)
payload_at [] = None
payload_at (gate ∷ bytes) = if gate == 1 then payload_behind bytes else None

-- how many bytes behind its gate belong to it
abbrev pub stride : Option (List ℕ) → ℕ
stride None = 0
stride (Some payload) = 4 + length payload

abbrev pub listed : Option (List ℕ) → List (List ℕ) → List (List ℕ)
listed None ps = []
listed (Some p) ps = p ∷ ps

-- the payloads of the open frames, up to the first that is closed or not whole, past some bytes
abbrev pub payloads_past : ℕ → List ℕ → List (List ℕ)
payloads_past n [] = []
payloads_past (suc n) (b ∷ bytes) = payloads_past n bytes
payloads_past zero (gate ∷ bytes) =
    listed (payload_at (gate ∷ bytes)) (payloads_past (stride (payload_at (gate ∷ bytes))) bytes)

abbrev pub payloads : List ℕ → List (List ℕ)
payloads bytes = payloads_past zero bytes

-- what stands behind these open frames
abbrev pub behind_frames : List ℕ → List ℕ
behind_frames bytes = drop (length (frames (payloads bytes))) bytes

-- the payloads behind a mark, where one stands here: a second mark isn't one
abbrev pub payloads_marked : List ℕ → List (List ℕ)
payloads_marked [] = []
payloads_marked (mark ∷ bytes) = if mark == 2 then payloads bytes else []

-- ---- whether they follow one another

-- payloads of a version, each of which follows those before it, or the place of the first that doesn't
abbrev pub checked : Meaning → Version → List (List ℕ) → ℕ → List (List ℕ) → Reading
checked m version before at [] = Journal before
checked m version before at (p ∷ ps) =
    if m version before p then checked m version (before ++ p ∷ []) (at + length (frame p)) ps else NotJournal at

-- payloads of version 2 behind what was read so far
abbrev pub continued : Meaning → Reading → ℕ → List (List ℕ) → Reading
continued m (Journal before) at ps = checked m Two before at ps
continued m (NotJournal stop) at ps = NotJournal stop

-- what stands behind a header of version 1
abbrev pub checked_old : Meaning → List ℕ → Reading
checked_old m bytes = continued m (checked m One [] 12 (payloads bytes))
    (12 + length (frames (payloads bytes)) + 1) (payloads_marked (behind_frames bytes))

-- A file of at most 13 bytes holds none, whatever they are: it is what a stopped creation may leave.
abbrev pub kept : Meaning → List ℕ → Reading
kept m bytes =
    if nat_lt 13 (length bytes)
    then (if pointwise nat_eq (take 12 bytes) (header Two)
    then checked m Two [] 12 (payloads (drop 12 bytes))
    else (if pointwise nat_eq (take 12 bytes) (header One) then checked_old m (drop 12 bytes) else NotJournal 0))
    else Journal []

-- each payload of a version follows those before it
abbrev pub Follow : Meaning → Version → List (List ℕ) → List (List ℕ) → Type 0
Follow m version before [] = Unit {0}
Follow m version before (p ∷ ps) = (m version before p ≡ true) × Follow m version (before ++ p ∷ []) ps

-- so does each payload of a file
abbrev pub Follows : Meaning → Contents → Type 0
Follows m (Current ps) = Follow m Two [] ps
Follows m (Marked old ps) = Follow m One [] old × Follow m Two old ps

-- contents that a file may have
pub record IsProper (m : Meaning) (c : Contents) : Type 0 where
  pub follow : Follows m c
  pub short : IsShort c

-- ---- what an image is kept as

-- the file is kept as these
abbrev pub KeptAs : Meaning → List (List ℕ) → List ℕ → Type 0
KeptAs m ps image = kept m image ≡ Journal ps

-- the file is kept as it was
abbrev pub KeptAlike : Meaning → List ℕ → List ℕ → Type 0
KeptAlike m old image = kept m image ≡ kept m old

-- the file is kept as these contents, with a payload more or without it
abbrev pub IsBeforeOrAfter : Meaning → Contents → List ℕ → List ℕ → Type 0
IsBeforeOrAfter m c p image = KeptAs m (all_of c) image ⊎ KeptAs m (all_of c ++ p ∷ []) image

-- ---- worked lines

-- in these lines a payload follows where its first byte is its number
abbrev pub numbered : Meaning
numbered version before [] = false
numbered version before (n ∷ p) = nat_eq n (length before + 1)

kept-example : kept numbered (file (Current ((1 ∷ 8 ∷ []) ∷ []))) ≡ Journal ((1 ∷ 8 ∷ []) ∷ [])
kept-example = refl

kept-marked_example : kept numbered (file (Marked ((1 ∷ []) ∷ []) ((2 ∷ 9 ∷ []) ∷ []))) ≡ Journal ((1 ∷ []) ∷ (2 ∷ 9 ∷ []) ∷ [])
kept-marked_example = refl

-- a second payload that says that it is the third
kept-wrong_example : kept numbered (file (Current ((1 ∷ []) ∷ (3 ∷ []) ∷ []))) ≡ NotJournal 18
kept-wrong_example = refl

-- a frame whose gate is closed, and one that isn't whole
kept-closed_example : kept numbered (header Two ++ 0 ∷ 0 ∷ 0 ∷ 0 ∷ 1 ∷ 1 ∷ 0 ∷ []) ≡ Journal []
kept-closed_example = refl

kept-torn_example : kept numbered (header Two ++ 1 ∷ 0 ∷ 0 ∷ 0 ∷ 2 ∷ 1 ∷ []) ≡ Journal []
kept-torn_example = refl

-- the file of another program
kept-other_example : kept numbered (35 ∷ 33 ∷ 32 ∷ 32 ∷ 32 ∷ 32 ∷ 32 ∷ 32 ∷ 32 ∷ 32 ∷ 32 ∷ 32 ∷ 32 ∷ 32 ∷ []) ≡ NotJournal 0
kept-other_example = refl
