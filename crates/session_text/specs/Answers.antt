-- What is answered where the whole of a line is read.
use Rattle.std.specs.Prelude.{Result, Ok, Err}
use Rattle.plain_data.specs.Texts.{Bytes}
use Rattle.session_text.specs.declared.verb.Verb.{Verb}
use Rattle.session_text.specs.declared.verb.VerbError.{VerbError}
use Rattle.session_text.specs.declared.verb.VerbError.TheVariants.{BadVerb}

-- the verb, or that the line has none of the forms
abbrev pub verb_answer : Result Verb Bytes → Result Verb VerbError
verb_answer (Ok verb) = Ok verb
verb_answer (Err rest) = Err BadVerb
