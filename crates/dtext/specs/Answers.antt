-- What is answered where the whole of some bytes is read.
use Rattle.std.specs.Prelude.{◌≡◌, ◌≢◌, ℕ, ◌+◌, ◌-◌, length, Result, Ok, Err}
use Rattle.plain_data.specs.Texts.{Bytes}
use Rattle.plain_data.specs.declared.or_no_memory.OrNoMemory.{OrNoMemory}
use Rattle.plain_data.specs.declared.or_no_memory.OrNoMemory.TheVariants as stop
use Rattle.predictive_parsing.specs.declared.refused.Refused.{Refused}
use Rattle.predictive_parsing.specs.Reading.{Outcome, whole_of}
use Rattle.predictive_parsing.specs.Reads.{Reads}
use Rattle.predictive_parsing.specs.Rules.{Rule}
use Rattle.predictive_parsing.specs.Bytes.{IsByte}
use Rattle.predictive_parsing.specs.Columns.{IsColumn}
use Rattle.dtext.specs.declared.error.TextError.{TextError}
use Rattle.dtext.specs.declared.error.TextError.TheVariants.{At, NoMemory}

-- What is answered of so many bytes: their value, or the column of the first of those that are left.
abbrev pub answer : {A : Type 0} → Result A Bytes → ℕ → Result A TextError
answer (Ok a) count = Ok a
answer (Err rest) count = Err (At (count - length rest + 1))

-- An answer at the end of what was found: it is made of whatever was read up to there, unless memory was wanting.
abbrev pub IsEnd : {A : Type 0} → Result A (OrNoMemory Refused) → Bytes → ℕ → Result A TextError → Type 0
IsEnd {A} found left count result =
    (outcome : Outcome ℕ A) → Reads outcome found left → found ≢ Err stop.NoMemory → result ≡ answer (whole_of outcome) count

-- each value that bytes spell is answered, unless memory was wanting
abbrev pub AnswersEach : {A : Type 0} → (A → Type 0) → Result A TextError → Type 0
AnswersEach {A} IsSpelled result = (value : A) → IsSpelled value → result ≢ Err NoMemory → result ≡ Ok value

-- a column that is answered is that of bytes which are no spelling by a rule
abbrev pub RefusesBy : {A : Type 0} → Rule ℕ A → Bytes → Result A TextError → Type 0
RefusesBy rule bytes result = (column : ℕ) → result ≡ Err (At column) → IsColumn IsByte rule bytes column
