-- How the number of a commit is found in the bytes of replies: it stands behind the word that the reply to a commit begins with.
use Rattle.std.specs.Prelude.{◌≡◌, ℕ, ◌+◌, ◌*◌, ◌-◌, ◌^◌, Bool, ◌&&◌, List, length, min, max, fold, if◌then◌else◌, codes, nat_eq, nat_lt, slice_index, refl}
use Rattle.std.specs.Char.{is_ascii_digit}
use Rattle.dio_core.specs.declared.line.TheConstants.{NEWLINE}
use Rattle.serve_status.specs.declared.replies.TheConstants.{WORD}
use Rattle.serve_status.specs.declared.replies.Place.{Place}
use Rattle.serve_status.specs.declared.replies.Place.TheVariants as place
use Rattle.serve_status.specs.declared.replies.Reading.{Reading}

-- this is the byte of the word behind so many
abbrev pub is_next : ℕ → ℕ → Bool
is_next count byte = nat_lt count (length WORD.now) && nat_eq (slice_index WORD.now count) byte

-- behind so many bytes of the word
abbrev pub behind_letters : ℕ → Place
behind_letters count = if nat_eq count (length WORD.now) then place.Number 0 else place.Word count

-- behind one more digit
abbrev pub with_digit : ℕ → ℕ → Place
with_digit number digit = place.Number (min (min (number * 10) (2 ^ 64 - 1) + digit) (2 ^ 64 - 1))

-- one more byte of a line
abbrev pub within : Place → ℕ → Place
within (place.Word count) byte = if is_next count byte then behind_letters (count + 1) else place.Rest
within (place.Number number) byte = if is_ascii_digit byte then with_digit number (byte - 48) else place.Rest
within place.Rest byte = place.Rest

-- One more byte. A newline begins a line.
abbrev pub place_after : Place → ℕ → Place
place_after at byte = if nat_eq byte NEWLINE then place.Word 0 else within at byte

-- the number of a commit that the bytes end in, as far as it was written, or 0
abbrev pub number_at : Place → ℕ
number_at (place.Word count) = 0
number_at (place.Number number) = number
number_at place.Rest = 0

-- what one more byte tells: where it ends, and the greatest number so far
abbrev pub with_byte : Reading → ℕ → Reading
with_byte r byte = record { place = place_after r.place byte; commits = max r.commits (number_at (place_after r.place byte)) }

-- nothing was written yet
abbrev pub unread : Reading
unread = record { place = place.Word 0; commits = 0 }

-- what these bytes tell
abbrev pub told_by : List ℕ → Reading
told_by bytes = fold with_byte unread bytes

-- of the reply to a commit its number, and none of those in its outcome
told_by-commit : (told_by (codes "commit 120 ok 300\ncommit 9 fail 1\n")).commits ≡ 120
told_by-commit = refl

-- no other reply tells one
told_by-others : (told_by (codes "held 7 commit 31\nabort counter(\"x\") whole base 1 clash whole commit 2\ncommits 9\n")).commits ≡ 0
told_by-others = refl

-- two pieces, of which the first ends in the number
told_by-pieces : (fold with_byte (told_by (codes "ok\ncommit 1")) (codes "20 ok\n")).commits ≡ 120
told_by-pieces = refl
