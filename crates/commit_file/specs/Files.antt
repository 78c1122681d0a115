-- The journal's file, as it is written.
use Rattle.std.specs.Prelude.{◌≡◌, ℕ, ◌+◌, ◌<◌, ◌^◌, List, [], ◌∷◌, ◌++◌, length, refl}
use Rattle.std.specs.List.{AllByRecursion}
use Rattle.std.specs.Int.{w32, to_be_bytes}
use Rattle.commit_file.specs.declared.version.Version.{Version}
use Rattle.commit_file.specs.declared.version.Version.TheVariants.{One, Two}

-- the letters DIAMONDJ, and the version
abbrev pub header : Version → List ℕ
header One = 68 ∷ 73 ∷ 65 ∷ 77 ∷ 79 ∷ 78 ∷ 68 ∷ 74 ∷ 0 ∷ 0 ∷ 0 ∷ 1 ∷ []
header Two = 68 ∷ 73 ∷ 65 ∷ 77 ∷ 79 ∷ 78 ∷ 68 ∷ 74 ∷ 0 ∷ 0 ∷ 0 ∷ 2 ∷ []

-- a payload behind its gate: its length, and its bytes
abbrev pub body : List ℕ → List ℕ
body payload = to_be_bytes w32 (length payload) ++ payload

-- an open frame
abbrev pub frame : List ℕ → List ℕ
frame payload = 1 ∷ body payload

-- open frames of these payloads
abbrev pub frames : List (List ℕ) → List ℕ
frames [] = []
frames (p ∷ ps) = frame p ++ frames ps

-- What a file that is written holds: payloads of version 2; or, in a file of version 1, payloads of that version, a mark,
-- and payloads of version 2 behind it.
pub data Contents : Type 0 where
  Current : List (List ℕ) → Contents
  Marked : List (List ℕ) → List (List ℕ) → Contents

-- all its payloads, in order
abbrev pub all_of : Contents → List (List ℕ)
all_of (Current ps) = ps
all_of (Marked old ps) = old ++ ps

-- with a payload more
abbrev pub with_payload : Contents → List ℕ → Contents
with_payload (Current ps) p = Current (ps ++ p ∷ [])
with_payload (Marked old ps) p = Marked old (ps ++ p ∷ [])

-- the header, the frames and the mark: where they end, the closed gate stands
abbrev pub opened : Contents → List ℕ
opened (Current ps) = header Two ++ frames ps
opened (Marked old ps) = (header One ++ frames old) ++ 2 ∷ frames ps

-- where they end
abbrev pub end_of : Contents → ℕ
end_of c = length (opened c)

-- the bytes that stand for these contents
abbrev pub file : Contents → List ℕ
file c = opened c ++ 0 ∷ []

-- each payload has a length that its field can hold
abbrev pub AreShort : List (List ℕ) → Type 0
AreShort ps = AllByRecursion (λ p. length p < 2 ^ 32) ps

-- so has each payload of a file
abbrev pub IsShort : Contents → Type 0
IsShort (Current ps) = AreShort ps
IsShort (Marked old ps) = AreShort old × AreShort ps

file-example : file (Current ((7 ∷ 8 ∷ []) ∷ [])) ≡ header Two ++ 1 ∷ 0 ∷ 0 ∷ 0 ∷ 2 ∷ 7 ∷ 8 ∷ 0 ∷ []
file-example = refl

file-marked_example : file (Marked [] ((7 ∷ []) ∷ [])) ≡ header One ++ 2 ∷ 1 ∷ 0 ∷ 0 ∷ 0 ∷ 1 ∷ 7 ∷ 0 ∷ []
file-marked_example = refl
