-- What the functions that read words answer, beside want of memory. Judge by specs/Forms and specs/Refusals: the clauses `plan`
-- and `refused` of `read_words` tie what is answered here to them.
use Rattle.std.specs.Prelude.{◌≡◌, ◌+◌, ◌≤◌, ℕ, Bool, true, false, List, Option, Some, None, Result, Ok, Err, take}
use denote.Bor.{Bor}
use Rattle.plain_data.specs.declared.or_no_memory.OrNoMemory.{OrNoMemory}
use Rattle.plain_data.specs.declared.or_no_memory.OrNoMemory.TheVariants as or_no_memory
use Rattle.cli_words.specs.declared.plan.Plan.{Plan}
use Rattle.cli_words.specs.declared.refusal.Why.{Why}
use Rattle.cli_words.specs.declared.refusal.Why.TheVariants as why
use Rattle.cli_words.specs.declared.refusal.Missing.{Missing}
use Rattle.cli_words.specs.declared.reading.Reading.{Reading}
use Rattle.cli_words.specs.declared.reading.Reading.TheVariants as reading
use Rattle.cli_words.specs.declared.refusal.BadWords.TheVariants as bad_words
use Rattle.cli_words.specs.declared.refusal.WordsError.{WordsError}
use Rattle.cli_words.specs.declared.refusal.WordsError.TheVariants as words_error
use Rattle.cli_words.specs.Forms.{Word, IsPlan}
use Rattle.cli_words.specs.code.Reading.{after, missing_of}

-- this is made, or there is no memory
abbrev pub Makes : {A : Type 0} → Result A (OrNoMemory Why) → Result A Why → Type 0
Makes (Ok x) made = made ≡ Ok x
Makes (Err (or_no_memory.Cause w)) made = made ≡ Err w
Makes (Err or_no_memory.NoMemory) made = Unit {0}

-- a number within limits is found, or is not
abbrev pub Finds : ℕ → ℕ → Option ℕ → Result ℕ Why → Type 0
Finds least most found (Ok n) = (found ≡ Some n) × (least ≤ n) × (n ≤ most)
Finds least most found (Err w) = (found ≡ None) × (w ≡ why.NotANumber least most)

-- a word that can be a place passes, and another is refused for this
abbrev pub Admits : Result (Unit {0}) (OrNoMemory Why) → Why → Bool → Type 0
Admits (Ok _) w can = can ≡ true
Admits (Err (or_no_memory.Cause v)) w can = (can ≡ false) × (v ≡ w)
Admits (Err or_no_memory.NoMemory) w can = ⊥

-- what is asked for where nothing is missing, and else what is
abbrev pub Finishes : Reading → Result Plan Missing → Type 0
Finishes (reading.Ready c given) (Ok p) = IsPlan c given p
Finishes r (Ok p) = ⊥
Finishes r (Err m) = missing_of r ≡ Some m

-- what is said of a word at which reading stopped
abbrev pub error_of : ℕ → Bor Word → OrNoMemory Why → WordsError
error_of place word (or_no_memory.Cause w) = words_error.BadWords (bad_words.Refused place word w)
error_of place word or_no_memory.NoMemory = words_error.NoMemory

-- what is said where no more words come and something is missing
abbrev pub cut_short : Missing → WordsError
cut_short m = words_error.BadWords (bad_words.CutShort m)

-- Why words were refused: what the readers found at the refused word, or what is missing.
abbrev pub Explains : List Word → WordsError → Type 0
Explains words (words_error.BadWords (bad_words.Refused place word w)) = after (take (place + 1) words) reading.Start ≡ Err w
Explains words (words_error.BadWords (bad_words.CutShort m)) = (r : Reading) × (after words reading.Start ≡ Ok r) × (missing_of r ≡ Some m)
Explains words words_error.NoMemory = Unit {0}
