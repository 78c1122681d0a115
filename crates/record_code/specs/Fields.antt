-- How fields are read from the front of bytes: a reader gives a value and the bytes behind it, or nothing where the
-- bytes don't begin with such a field.
use Rattle.std.specs.Prelude.{◌≡◌, ℕ, zero, suc, ℤ, Bool, true, List, [], ◌∷◌, length, take, drop, slice_get, Option}
use Rattle.std.specs.Prelude.{Some, None, nat_lt, ◌||◌, if◌then◌else◌, refl}
use Rattle.std.specs.Int.{Width, w32, w64, byte_len, from_be_bytes, cast_signed}
use Rattle.record_code.specs.declared.tags.TheConstants.{TRUTHS}

-- what reads a value from the front of bytes
abbrev pub Reader : Type 0 → Type 0
Reader A = List ℕ → Option (A × List ℕ)

-- what is read where something was read before
infixl 10 ◌>>=◌
abbrev pub ◌>>=◌ : {A B : Type 0} → Option A → (A → Option B) → Option B
(Some x) >>= f = f x
None >>= f = None

-- a value that passes a test
abbrev pub when : {A : Type 0} → (A → Bool) → Reader A → Reader A
when test reader bytes = do
  x ← reader bytes
  if test x.0 then Some x else None

-- ---- numbers and texts

-- a number of some width
abbrev pub number_at : Width → Reader ℕ
number_at w bytes =
    if nat_lt (length bytes) (byte_len w) then None
    else Some (from_be_bytes w (take (byte_len w) bytes), drop (byte_len w) bytes)

-- a number with a sign, in two's complement
unfoldable pub int_at : Reader ℤ
int_at bytes = do
  n ← number_at w64 bytes
  Some (cast_signed w64 n.0, n.1)

-- a text of at most so many bytes
unfoldable pub text_at : ℕ → Reader (List ℕ)
text_at most bytes = do
  n ← number_at w32 bytes
  if nat_lt most n.0 || nat_lt (length n.1) n.0 then None else Some (take n.0 n.1, drop n.0 n.1)

-- ---- choices

-- a byte, which stands for what has its place in a row
unfoldable pub tag_at : {A : Type 0} → List A → Reader A
tag_at tags [] = None
tag_at tags (byte ∷ rest) = do
  tag ← slice_get tags byte
  Some (tag, rest)

-- whether something is so
abbrev pub truth_at : Reader Bool
truth_at = tag_at TRUTHS

-- nothing, which every bytes begin with
abbrev pub nothing_at : Reader (Unit {0})
nothing_at bytes = Some (tt, bytes)

-- ---- one behind another

-- one thing and then another
unfoldable pub pair_at : {A B : Type 0} → Reader A → Reader B → Reader (A × B)
pair_at first second bytes = do
  x ← first bytes
  y ← second x.1
  Some ((x.0, y.0), y.1)

-- so many of one kind
unfoldable pub each_at : {A : Type 0} → Reader A → ℕ → Reader (List A)
each_at one zero bytes = Some ([], bytes)
each_at one (suc count) bytes = do
  first ← one bytes
  others ← each_at one count first.1
  Some (first.0 ∷ others.0, others.1)

-- as many as are told before them
unfoldable pub list_at : {A : Type 0} → Reader A → Reader (List A)
list_at one bytes = do
  count ← number_at w32 bytes
  each_at one count.0 count.1

-- ---- worked lines

-- a byte 1 says that it is so, and a byte 2 says nothing
truth_at-true : truth_at (1 ∷ 9 ∷ []) ≡ Some (true, 9 ∷ [])
unfolding tag_at
truth_at-true = refl

truth_at-two : truth_at (2 ∷ []) ≡ None
unfolding tag_at
truth_at-two = refl

-- a text of two bytes, of which there may be two and not one, and one that passes the end
text_at-two : text_at 2 (0 ∷ 0 ∷ 0 ∷ 2 ∷ 104 ∷ 105 ∷ 7 ∷ []) ≡ Some (104 ∷ 105 ∷ [], 7 ∷ [])
unfolding text_at
text_at-two = refl

text_at-long : text_at 1 (0 ∷ 0 ∷ 0 ∷ 2 ∷ 104 ∷ 105 ∷ 7 ∷ []) ≡ None
unfolding text_at
text_at-long = refl

text_at-short : text_at 9 (0 ∷ 0 ∷ 0 ∷ 2 ∷ 104 ∷ []) ≡ None
unfolding text_at
text_at-short = refl
