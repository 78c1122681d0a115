-- At which word a command line is refused: the first with which no form goes on.
use Rattle.std.specs.Prelude.{◌≡◌, ◌+◌, ℕ, List, ◌++◌, take, Some, slice_get}
use Rattle.cli_words.specs.declared.name.CommandName.{CommandName}
use Rattle.cli_words.specs.declared.refusal.BadWords.TheVariants as bad_words
use Rattle.cli_words.specs.declared.refusal.WordsError.{WordsError}
use Rattle.cli_words.specs.declared.refusal.WordsError.TheVariants as words_error
use Rattle.cli_words.specs.Forms.{Word, Given, IsForm, IsNoForm}

-- these words go on to some form
pub record GoesOn (words : List Word) : Type 0 where
  pub more : List Word
  pub name : CommandName
  pub given : Given
  pub form : IsForm (words ++ more) name given

-- The words before the place go on to some form, and with the word at the place none does, whatever comes then.
pub record IsRefusedAt (words : List Word) (place : ℕ) (word : Word) : Type 0 where
  pub there : slice_get words place ≡ Some word
  pub goes_on : GoesOn (take place words)
  pub no_further : (more : List Word) → IsNoForm (take (place + 1) words ++ more)
  pub no_form : IsNoForm words

-- The words go on to some form, and are none.
pub record IsCutShort (words : List Word) : Type 0 where
  pub goes_on : GoesOn words
  pub no_form : IsNoForm words

-- Words that are of no form are refused at a word, or cut short. For want of memory nothing is said of them.
abbrev pub Refuses : List Word → WordsError → Type 0
Refuses words (words_error.BadWords (bad_words.Refused place word w)) = IsRefusedAt words place word.now
Refuses words (words_error.BadWords (bad_words.CutShort m)) = IsCutShort words
Refuses words words_error.NoMemory = Unit {0}
