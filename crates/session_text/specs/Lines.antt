-- The forms of lines, as rules: `P bytes value rest` says that the bytes are a form of the value, and then the rest.
-- Nothing here chooses, looks ahead or counts. A line is words separated by blanks; blanks at both ends mean nothing.
use Rattle.std.specs.Prelude.{ℕ, Bool, true, not, [], ◌∷◌, codes}
use Rattle.plain_data.specs.Texts.{Bytes}
use Rattle.predictive_parsing.specs.Rules.{Rule, ◌>>=◌, One, Pure, Or, Of, Run, RunUpTo, SpelledBy, Whole}
use Rattle.predictive_parsing.specs.Reading.{passing}
use Rattle.dtext.specs.Characters.{is_blank, is_letter, is_word}
use Rattle.dtext.specs.Spellings.{NaturalRule, PositiveRule}
use Rattle.session_text.specs.declared.limits.TheConstants.{MOST_ATTEMPTS, LARGEST, NAME_REST}
use Rattle.session_text.specs.declared.verb.Verb.{Verb}
use Rattle.session_text.specs.declared.verb.Verb.TheVariants as verb
use Rattle.session_text.specs.declared.words.VerbWord.{VerbWord}
use Rattle.session_text.specs.declared.words.VerbWord.TheVariants as word

-- ---- the parts of a line

-- no blank
abbrev pub is_solid : ℕ → Bool
is_solid byte = not (is_blank byte)

-- any byte
abbrev pub is_any : ℕ → Bool
is_any byte = true

-- blanks, one at least
abbrev pub Gap : Rule ℕ (Unit {0})
Gap = do
  _ ← One (passing is_blank)
  _ ← Run is_blank
  Pure tt

-- the rest of a line: what begins with a byte that is no blank, or nothing
abbrev pub Rest : Rule ℕ Bytes
Rest = Or (do
  first ← One (passing is_solid)
  others ← Run is_any
  Pure (first ∷ others)) (Pure [])

-- a body: the rest of the line behind blanks; where no blank is, nothing
abbrev pub BodyRule : Rule ℕ Bytes
BodyRule = Or (do
  _ ← Gap
  Rest) (Pure [])

-- a name: a letter, and at most 31 letters, digits and `_`
abbrev pub NameRule : Rule ℕ Bytes
NameRule = do
  first ← One (passing is_letter)
  others ← RunUpTo NAME_REST is_word
  Pure (first ∷ others)

-- nothing but blanks up to the line's end
abbrev pub Alone : Verb → Rule ℕ Verb
Alone asked = do
  _ ← Run is_blank
  Pure asked

-- ---- the words, a row a verb

-- the word of a verb
abbrev pub word_of : VerbWord → Bytes
word_of word.Do = codes "do"
word_of word.Try = codes "try"
word_of word.Begin = codes "begin"
word_of word.Step = codes "step"
word_of word.Go = codes "go"
word_of word.Drop = codes "drop"
word_of word.Sync = codes "sync"
word_of word.Wait = codes "wait"
word_of word.Seen = codes "seen"
word_of word.Quit = codes "quit"
word_of word.Look = codes "look"
word_of word.At = codes "at"
word_of word.Watch = codes "watch"
word_of word.Unwatch = codes "unwatch"

-- ---- what stands behind the word, a row a verb

-- what stands behind the word of each verb
abbrev pub Form : VerbWord → Rule ℕ Verb
Form word.Do = Of verb.Do BodyRule
Form word.Try = do
  _ ← Gap
  attempts ← PositiveRule MOST_ATTEMPTS
  Of (verb.Try attempts) BodyRule
Form word.Begin = Of verb.Begin BodyRule
Form word.Step = Alone verb.Step
Form word.Go = Alone verb.Go
Form word.Drop = Alone verb.Drop
Form word.Sync = Alone verb.Sync
Form word.Wait = Alone verb.Wait
Form word.Seen = Alone verb.Seen
Form word.Quit = Alone verb.Quit
Form word.Look = Of verb.Look BodyRule
Form word.At = do
  _ ← Gap
  number ← NaturalRule LARGEST
  Of (verb.At number) BodyRule
Form word.Watch = do
  _ ← Gap
  name ← NameRule
  Of (verb.Watch name) BodyRule
Form word.Unwatch = do
  _ ← Gap
  name ← NameRule
  Alone (verb.Unwatch name)

-- a line: blanks, the word of a verb, and what stands behind it
abbrev pub VerbRule : Rule ℕ Verb
VerbRule = do
  _ ← Run is_blank
  word ← SpelledBy word_of
  Form word

-- all of the bytes are a line that asks for this
abbrev pub IsVerb : Bytes → Verb → Type 0
IsVerb = Whole VerbRule
