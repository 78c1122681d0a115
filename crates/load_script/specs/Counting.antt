-- How many lines of an output say what, by their second word.
use Rattle.std.specs.Prelude.{◌≡◌, ℕ, ◌==◌, Bool, true, false, List, [], ◌∷◌, ◌++◌, Option, Some, None, codes, slice_get, refl}
use Rattle.std.specs.List.{slice_split, count_by}
use Rattle.std.specs.Str.{bytes_eq}
use Rattle.dio_core.specs.declared.line.TheConstants.{NEWLINE}
use Rattle.plain_data.specs.Texts.{Bytes}

-- the space between two words
abbrev pub SPACE : ℕ
SPACE = 32

SPACE-is : SPACE ∷ [] ≡ codes " "
SPACE-is = refl

-- the second word of a line, if it has one
abbrev pub second_word : Bytes → Option Bytes
second_word line = slice_get (slice_split (λ b. b == SPACE) line) 1

-- whether a word that may be there is this one
abbrev pub is_word : Bytes → Option Bytes → Bool
is_word word None = false
is_word word (Some second) = bytes_eq second word

-- whether a line's second word is this one
abbrev pub is_second : Bytes → Bytes → Bool
is_second word line = is_word word (second_word line)

-- how many lines of an output have this second word; behind its last newline there is none
abbrev pub count_second : Bytes → Bytes → ℕ
count_second word output = count_by (is_second word) (slice_split (λ b. b == NEWLINE) output)

-- ---- worked lines

second_word-example : second_word (codes "0 commit 3 ok") ≡ Some (codes "commit")
second_word-example = refl

-- a word that is first, third or a part of another doesn't count, and two spaces part an empty word
count_second-example :
    count_second (codes "run") (codes "2 run w ok 0" ++ NEWLINE ∷ codes "run 2" ++ NEWLINE ∷ codes "2 runs run" ++ NEWLINE ∷ codes "2  run" ++ NEWLINE ∷ codes "2 run" ++ NEWLINE ∷ []) ≡ 2
count_second-example = refl
