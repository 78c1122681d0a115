-- Rules and readers of bytes: one byte, and words.
use Rattle.std.specs.Prelude.{ℕ, ◌<◌, Bool, nat_eq, if◌then◌else◌, [], ◌∷◌, Option, Some, None}
use Rattle.plain_data.specs.Texts.{Bytes}
use Rattle.predictive_parsing.specs.Rules.{Rule, One}
use Rattle.predictive_parsing.specs.Reading.{Reader, ◌>>=◌, pure, ahead, one}

-- what a byte can be
abbrev pub IsByte : ℕ → Type 0
IsByte byte = byte < 256

-- this byte
abbrev pub exactly : ℕ → ℕ → Option (Unit {0})
exactly wanted byte = if nat_eq byte wanted then Some tt else None

-- this byte, as a rule
abbrev pub Byte : ℕ → Rule ℕ (Unit {0})
Byte wanted = One (exactly wanted)

-- this byte, read
unfoldable pub byte : ℕ → Reader ℕ (Unit {0})
byte wanted = one (exactly wanted)

-- whether this byte is ahead
abbrev pub sees : ℕ → Option ℕ → Bool
sees wanted = ahead (λ byte. nat_eq byte wanted)

-- these bytes, read
unfoldable pub word : Bytes → Reader ℕ (Unit {0})
word [] = pure tt
word (first ∷ rest) = do
  _ ← byte first
  word rest

-- a word, and then what the reader reads
abbrev pub behind : {A : Type 0} → Bytes → Reader ℕ A → Reader ℕ A
behind front p = do
  _ ← word front
  p
