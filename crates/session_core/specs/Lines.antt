-- What a line asks for. A line is tested in this order: whether it asks for nothing; whether it has a verb's form; whether the
-- verb's body is of the grammar; whether it is well typed; and whether it writes where it may only read. The first test that
-- fails is the refusal.
use Rattle.std.specs.Prelude.{◌≡◌, ◌↔◌, ℕ, true, false, if◌then◌else◌, List, Option, Some, None, Result, Ok, Err}
use Rattle.std.specs.Result.{result_ok}
use Rattle.predictive_parsing.specs.Reading.{whole}
use Rattle.session_text.specs.declared.reply.Why.{Why}
use Rattle.session_text.specs.declared.reply.Why.TheVariants as why
use Rattle.session_text.specs.declared.verb.Verb.{Verb}
use Rattle.session_text.specs.declared.verb.Verb.TheVariants as verb
use Rattle.session_text.specs.Lines.{IsVerb}
use Rattle.session_text.specs.code.Lines.{line}
use Rattle.txn_grammar.specs.Characters.{Text}
use Rattle.txn_lang.specs.declared.checked.Checked.{Checked}
use Rattle.session_core.specs.declared.line.Line.{Line}
use Rattle.session_core.specs.declared.line.Line.TheVariants as asks
use Rattle.session_core.specs.Words.{trimmed_start, is_quiet}
use Rattle.session_core.specs.Bodies.{body_of}

-- ---- the form

-- the verb of whose form a text is, if it is of one
unfoldable pub asked : Text → Option Verb
asked text = result_ok (whole line text)

-- a law: it is the verb of whose form a text is, and there is one at most
abbrev pub VerbsAreForms : Type 0
VerbsAreForms = (text : Text) (v : Verb) → (asked text ≡ Some v) ↔ IsVerb text v

-- ---- the body

-- a verb with its body, or the refusal of that
abbrev pub with_body : (Checked → Line) → Result Checked Why → Line
with_body f (Ok checked) = f checked
with_body f (Err reason) = asks.Refused reason

-- what commits a body takes one that writes
abbrev pub of_begin : Text → Line
of_begin text = with_body asks.Begin (body_of false text)

-- `try` with so many attempts
abbrev pub of_try : ℕ → Text → Line
of_try tries text = with_body (asks.Try tries) (body_of false text)

-- and what doesn't takes none
abbrev pub of_look : Text → Line
of_look text = with_body asks.Look (body_of true text)

-- `at` a number
abbrev pub of_at : ℕ → Text → Line
of_at number text = with_body (asks.At number) (body_of true text)

-- `watch` under a name
abbrev pub of_watch : Text → Text → Line
of_watch name text = with_body (asks.Watch name) (body_of true text)

-- `do` is one try
abbrev pub of_verb : Verb → Line
of_verb (verb.Begin text) = of_begin text
of_verb (verb.Do text) = of_try 1 text
of_verb (verb.Try tries text) = of_try tries text
of_verb (verb.Look text) = of_look text
of_verb (verb.At number text) = of_at number text
of_verb (verb.Watch name text) = of_watch name text
of_verb verb.Step = asks.Step
of_verb verb.Go = asks.Go
of_verb verb.Drop = asks.Drop
of_verb verb.Seen = asks.Seen
of_verb verb.Quit = asks.Quit
of_verb (verb.Unwatch name) = asks.Unwatch name
of_verb verb.Sync = asks.Sync
of_verb verb.Wait = asks.Wait

-- a line of no verb's form is refused
abbrev pub of_form : Option Verb → Line
of_form None = asks.Refused why.Verb
of_form (Some v) = of_verb v

-- ---- the line

-- What a line asks for. Nothing, and what begins with `#` behind blanks, asks for nothing.
unfoldable pub line_of : Text → Line
line_of text = if is_quiet (trimmed_start text) then asks.Quiet else of_form (asked text)
