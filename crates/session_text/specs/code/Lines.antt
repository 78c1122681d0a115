-- The readers of lines, as functions: the code is proved equal to them. Judge by the rules of specs/Lines: the law
-- `readers_are_rules` ties the reader of lines to its rule.
use Rattle.std.specs.Prelude.{ℕ, [], ◌∷◌}
use Rattle.plain_data.specs.Texts.{Bytes}
use Rattle.predictive_parsing.specs.Reading.{Reader, ◌>>=◌, pure, one, either, ahead, passing, of, run, run_up_to}
use Rattle.predictive_parsing.specs.Choices.{one_of}
use Rattle.dtext.specs.Characters.{is_blank, is_letter, is_word}
use Rattle.dtext.specs.code.Reading.{natural, positive}
use Rattle.session_text.specs.declared.limits.TheConstants.{MOST_ATTEMPTS, LARGEST, NAME_REST}
use Rattle.session_text.specs.declared.words.TheConstants.{OTHER_VERBS}
use Rattle.session_text.specs.declared.verb.Verb.{Verb}
use Rattle.session_text.specs.declared.verb.Verb.TheVariants as verb
use Rattle.session_text.specs.declared.words.VerbWord.{VerbWord}
use Rattle.session_text.specs.declared.words.VerbWord.TheVariants as word
use Rattle.session_text.specs.Lines.{is_solid, is_any, word_of}

-- blanks, one at least
unfoldable pub gap : Reader ℕ (Unit {0})
gap = do
  _ ← one (passing is_blank)
  _ ← run is_blank
  pure tt

-- some bytes, the first of which is no blank
unfoldable pub solid : Reader ℕ Bytes
solid = do
  first ← one (passing is_solid)
  others ← run is_any
  pure (first ∷ others)

-- the rest of a line
unfoldable pub rest : Reader ℕ Bytes
rest = either (ahead is_solid) solid (pure [])

-- the rest of a line behind blanks
unfoldable pub body : Reader ℕ Bytes
body = either (ahead is_blank) (do
  _ ← gap
  rest) (pure [])

-- a name
unfoldable pub name : Reader ℕ Bytes
name = do
  first ← one (passing is_letter)
  others ← run_up_to NAME_REST is_word
  pure (first ∷ others)

-- nothing but blanks
unfoldable pub alone : Verb → Reader ℕ Verb
alone asked = of (λ _. asked) (run is_blank)

-- attempts and a body
unfoldable pub tries : Reader ℕ Verb
tries = do
  _ ← gap
  attempts ← positive MOST_ATTEMPTS
  of (verb.Try attempts) body

-- a number and a body
unfoldable pub at : Reader ℕ Verb
at = do
  _ ← gap
  number ← natural LARGEST
  of (verb.At number) body

-- a name and a body
unfoldable pub watch : Reader ℕ Verb
watch = do
  _ ← gap
  watched ← name
  of (verb.Watch watched) body

-- a name alone
unfoldable pub unwatch : Reader ℕ Verb
unwatch = do
  _ ← gap
  watched ← name
  alone (verb.Unwatch watched)

-- what stands behind a word
unfoldable pub form : VerbWord → Reader ℕ Verb
form word.Do = of verb.Do body
form word.Try = tries
form word.Begin = of verb.Begin body
form word.Step = alone verb.Step
form word.Go = alone verb.Go
form word.Drop = alone verb.Drop
form word.Sync = alone verb.Sync
form word.Wait = alone verb.Wait
form word.Seen = alone verb.Seen
form word.Quit = alone verb.Quit
form word.Look = of verb.Look body
form word.At = at
form word.Watch = watch
form word.Unwatch = unwatch

-- a line
unfoldable pub line : Reader ℕ Verb
line = do
  _ ← run is_blank
  word ← one_of word_of word.Do OTHER_VERBS
  form word
