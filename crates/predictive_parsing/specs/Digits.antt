-- A small grammar of bytes: numbers in digits, with commas between them. The tests read it; crates above cite `is_digit`
-- and `with_digit`.
use Rattle.std.specs.Prelude.{◌≡◌, ℕ, ◌+◌, ◌-◌, ◌*◌, ◌&&◌, Bool, nat_le, if◌then◌else◌, List, [], ◌∷◌, codes, Option, Some, None, Ok, Err, refl}
use Rattle.predictive_parsing.specs.Reading.{Reader, ◌>>=◌, one, turns, many, run}
use Rattle.predictive_parsing.specs.Bytes.{byte, sees, word}

-- `0` to `9`
abbrev pub is_digit : ℕ → Bool
is_digit byte = nat_le 48 byte && nat_le byte 57

-- the value of a digit
abbrev pub digit : ℕ → Option ℕ
digit byte = if is_digit byte then Some (byte - 48) else None

-- a value with one digit more
abbrev pub with_digit : ℕ → ℕ → ℕ
with_digit value byte = 10 * value + (byte - 48)

-- 12 with a `3` more is 123
with_digit-example : with_digit 12 51 ≡ 123
with_digit-example = refl

-- a digit behind a comma
unfoldable pub another : Reader ℕ ℕ
another = do
  _ ← byte 44
  one digit

-- as many of them as there are
abbrev pub others : Reader ℕ (List ℕ)
others = many (sees 44) another

-- all that begin are read, and what follows is left
reads_others : others (codes ",1,2;") ≡ Ok (1 ∷ 2 ∷ [], codes ";")
unfolding many turns another byte one
reads_others = refl

-- one that begins has to be whole
refuses_another : others (codes ",1,x") ≡ Err (codes "x")
unfolding many turns another byte one
refuses_another = refl

-- digits, and what is behind them
reads_run : run is_digit (codes "12a3") ≡ Ok (codes "12", codes "a3")
unfolding run
reads_run = refl

-- a word is refused at its first byte that doesn't fit
refuses_word : word (codes "ab") (codes "ac") ≡ Err (codes "c")
unfolding word byte one
refuses_word = refl
