-- What may follow a spelling, so that it is read as it is meant.
use Rattle.std.specs.Prelude.{ℕ, ◌≤◌, ◌<◌, ◌^◌, Bool, Option}
use Rattle.predictive_parsing.specs.Reading.{Reader, ahead}
use Rattle.predictive_parsing.specs.Rules.{Rule}
use Rattle.predictive_parsing.specs.Bytes.{IsByte, sees}
use Rattle.predictive_parsing.specs.Fits.{Fits, any, unless}
use Rattle.dtext.specs.Characters.{is_digit}

-- no digit follows, which a number would take
abbrev pub no_digit : Option ℕ → Bool
no_digit = unless (ahead is_digit) any

-- nor a space, behind which more would be read
abbrev pub no_more : Option ℕ → Bool
no_more = unless (sees 32) no_digit

-- whatever number of 64 bits is the greatest, from 9 on, a reader of numbers fits the rule of those up to it
abbrev pub FitsUpToEach : (ℕ → Reader ℕ ℕ) → (ℕ → Rule ℕ ℕ) → Type 0
FitsUpToEach read rule = (limit : ℕ) → 9 ≤ limit → limit < 2 ^ 64 → Fits IsByte (read limit) (rule limit) no_digit
