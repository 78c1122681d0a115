-- What words ask of the program itself.
use Rattle.std.specs.Prelude.{◌≡◌, if◌then◌else◌, List, [], ◌∷◌, codes, Option, Some, None, refl}
use Rattle.std.specs.Str.{bytes_eq}
use Rattle.cli_words.specs.declared.help.Question.{Question}
use Rattle.cli_words.specs.declared.help.Question.TheVariants as question
use Rattle.cli_words.specs.Forms.{Word}

-- one word alone asks: `--help`, or `--version`
abbrev pub question_in : List Word → Option Question
question_in (word ∷ []) =
    if bytes_eq word (codes "--help") then Some question.Help
    else if bytes_eq word (codes "--version") then Some question.Version
    else None
question_in words = None

asks-help : question_in (codes "--help" ∷ []) ≡ Some question.Help
asks-help = refl

asks-nothing : question_in (codes "run" ∷ codes "--help" ∷ []) ≡ None
asks-nothing = refl
