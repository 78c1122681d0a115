-- What the readers of lines answer, want of memory aside. The clauses of `read_line` and `read_body` tie what they read to the rules:
-- `line_of` of specs/Lines and `body_of` of specs/Bodies. What comes to want of memory is told in steps of their own, each exact.
use Rattle.std.specs.Prelude.{◌≡◌, ◌≤◌, Bool, true, false, length, Option, Some, None, Result, Ok, Err, alloc_error, refl}
use Rattle.std.specs.declared.alloc.AllocError.{AllocError}
use Rattle.dio_core.specs.declared.line.TheConstants.{LONGEST_LINE}
use Rattle.plain_data.specs.declared.or_no_memory.OrNoMemory.{OrNoMemory}
use Rattle.plain_data.specs.declared.or_no_memory.OrNoMemory.TheVariants.{Cause, NoMemory}
use Rattle.session_text.specs.declared.reply.Why.{Why}
use Rattle.session_text.specs.declared.reply.Why.TheVariants as why
use Rattle.session_text.specs.declared.verb.Verb.{Verb}
use Rattle.session_text.specs.declared.verb.Verb.TheVariants as asked
use Rattle.session_text.specs.declared.verb.VerbError.{VerbError}
use Rattle.session_text.specs.declared.verb.VerbError.TheVariants as verb
use Rattle.txn_parse.specs.declared.whole.ParseError.{ParseError}
use Rattle.txn_parse.specs.declared.whole.ParseError.TheVariants as parse
use Rattle.txn_lang.specs.declared.checking.CheckError.{CheckError}
use Rattle.txn_lang.specs.declared.checking.CheckError.TheVariants as check
use Rattle.txn_lang.specs.declared.checked.Checked.{Checked}
use Rattle.session_core.specs.declared.line.Line.{Line}
use Rattle.session_core.specs.declared.line.Line.TheVariants as line
use Rattle.session_core.specs.declared.form.Form.{Form}
use Rattle.session_core.specs.declared.form.Form.TheVariants as form
use Rattle.session_core.specs.declared.form.Purpose.{Purpose}
use Rattle.session_core.specs.declared.form.Purpose.TheVariants as purpose
use Rattle.session_core.specs.Bodies.{body_of}
use Rattle.session_core.specs.Lines.{with_body}
use Rattle.session_core.specs.Holding.{BodyIsReady}

-- ---- want of memory, and other faults

-- a fault of the parser: an error of syntax is why a line is refused
abbrev pub of_parse : ParseError → OrNoMemory Why
of_parse (parse.Syntax column) = Cause (why.Syntax column)
of_parse parse.NoMemory = NoMemory

-- a fault of the checker: an error of typing, and a write where the body may only read, are why a line is refused
abbrev pub of_check : CheckError → OrNoMemory Why
of_check (check.BadType column) = Cause (why.BadType column)
of_check (check.Writes column) = Cause (why.Writes column)
of_check check.NoMemory = NoMemory

-- what was read, or why it is refused, apart from want of memory
abbrev pub split : Result Checked (OrNoMemory Why) → Result (Result Checked Why) AllocError
split (Ok checked) = Ok (Ok checked)
split (Err (Cause reason)) = Ok (Err reason)
split (Err NoMemory) = Err alloc_error

-- the verb that was read, or none where the line has no verb's form, apart from want of memory
abbrev pub verb_of : Result Verb VerbError → Result (Option Verb) AllocError
verb_of (Ok v) = Ok (Some v)
verb_of (Err verb.BadVerb) = Ok None
verb_of (Err verb.NoMemory) = Err alloc_error

-- an error of syntax at column 9 is why the line is refused, and not want of memory
syntax-is-told : split (Err (of_parse (parse.Syntax 9))) ≡ Ok (Err (why.Syntax 9))
syntax-is-told = refl

-- so is an error of typing
type-is-told : split (Err (of_check (check.BadType 9))) ≡ Ok (Err (why.BadType 9))
type-is-told = refl

-- a write too
write-is-told : split (Err (of_check (check.Writes 9))) ≡ Ok (Err (why.Writes 9))
write-is-told = refl

-- a line of no verb's form is known as that
bad-verb-is-told : verb_of (Err verb.BadVerb) ≡ Ok None
bad-verb-is-told = refl

-- ---- forms: a line before its body is read

-- whether a body may only read
abbrev pub only_reads : Purpose → Bool
only_reads purpose.Begin = false
only_reads (purpose.Try tries) = false
only_reads purpose.Look = true
only_reads (purpose.At number) = true
only_reads (purpose.Watch name) = true

-- the line of a body, by what that is for
abbrev pub line_with : Purpose → Checked → Line
line_with purpose.Begin body = line.Begin body
line_with (purpose.Try tries) body = line.Try tries body
line_with purpose.Look body = line.Look body
line_with (purpose.At number) body = line.At number body
line_with (purpose.Watch name) body = line.Watch name body

-- the form of a verb
abbrev pub form_of_verb : Verb → Form
form_of_verb (asked.Begin text) = form.WithBody purpose.Begin text
form_of_verb (asked.Do text) = form.WithBody (purpose.Try 1) text
form_of_verb (asked.Try tries text) = form.WithBody (purpose.Try tries) text
form_of_verb (asked.Look text) = form.WithBody purpose.Look text
form_of_verb (asked.At number text) = form.WithBody (purpose.At number) text
form_of_verb (asked.Watch name text) = form.WithBody (purpose.Watch name) text
form_of_verb asked.Step = form.Plain line.Step
form_of_verb asked.Go = form.Plain line.Go
form_of_verb asked.Drop = form.Plain line.Drop
form_of_verb asked.Seen = form.Plain line.Seen
form_of_verb asked.Quit = form.Plain line.Quit
form_of_verb (asked.Unwatch name) = form.Plain (line.Unwatch name)
form_of_verb asked.Sync = form.Plain line.Sync
form_of_verb asked.Wait = form.Plain line.Wait

-- and of a line that has this verb, or none's form
abbrev pub form_of : Option Verb → Form
form_of None = form.Plain (line.Refused why.Verb)
form_of (Some v) = form_of_verb v

-- what a line of a form asks for
abbrev pub line_of_form : Form → Line
line_of_form (form.Plain l) = l
line_of_form (form.WithBody p text) = with_body (line_with p) (body_of (only_reads p) text)

-- its body is no longer than a line; without one there is none that is to be committed
abbrev pub IsReadable : Form → Type 0
IsReadable (form.Plain l) = BodyIsReady l
IsReadable (form.WithBody p text) = length text ≤ LONGEST_LINE

-- ---- what is read

-- the body is the one that is read, or it is refused for this reason, unless memory ran out
abbrev pub ReadsBody : Result Checked (OrNoMemory Why) → Result Checked Why → Type 0
ReadsBody (Ok checked) read = read ≡ Ok checked
ReadsBody (Err fault) read = (reason : Why) → fault ≡ Cause reason → read ≡ Err reason

-- what a line asks for is this, with a body that may run, unless memory ran out
pub record IsLine (found read : Line) : Type 0 where
  pub line_is : read ≡ found
  pub ready : BodyIsReady found

abbrev pub ReadsLine : Result Line AllocError → Line → Type 0
ReadsLine (Ok found) read = IsLine found read
ReadsLine (Err e) read = Unit {0}
