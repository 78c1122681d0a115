-- Why there is no answer, exactly: what is malformed is never told as want of memory.
use Rattle.std.specs.Prelude.{◌≡◌, List, if◌then◌else◌, Option, Some, None, Result, Ok, Err, refl}
use Rattle.txn_parse.specs.declared.whole.ParseError.{ParseError}
use Rattle.txn_parse.specs.declared.whole.ParseError.TheVariants as parse_errors
use Rattle.txn_lang.specs.declared.checking.CheckError.{CheckError}
use Rattle.txn_lang.specs.declared.checking.CheckError.TheVariants as check_errors
use Rattle.txn_lang.specs.declared.run.Run.{Run}
use Rattle.txn_eval.specs.declared.running.Step.{Step}
use Rattle.txn_eval.specs.declared.running.Step.TheVariants as step
use Rattle.remote_wire.specs.declared.request.Base.{Base}
use Rattle.remote_wire.specs.declared.wire_error.WireError.{WireError}
use Rattle.remote_wire.specs.declared.wire_error.WireError.TheVariants as wire_errors
use Rattle.remote_service.specs.declared.error.ServiceError.{ServiceError}
use Rattle.remote_service.specs.declared.error.ServiceError.TheVariants as error
use Rattle.remote_service.specs.Anew.{are_observed}

-- bytes that aren't read as a request
abbrev pub of_wire : WireError → ServiceError
of_wire wire_errors.BadWire = error.Malformed
of_wire wire_errors.NoMemory = error.NoMemory

-- a text that isn't parsed
abbrev pub of_parse : ParseError → ServiceError
of_parse (parse_errors.Syntax column) = error.Malformed
of_parse parse_errors.NoMemory = error.NoMemory

-- a body that isn't accepted
abbrev pub of_check : CheckError → ServiceError
of_check (check_errors.BadType column) = error.Malformed
of_check (check_errors.Writes column) = error.Malformed
of_check check_errors.NoMemory = error.NoMemory

-- what was found, or that nothing was
abbrev pub found : {A : Type 0} → Option A → Result A ServiceError
found (Some x) = Ok x
found None = Err error.Malformed

-- a run that is done, and none that needs a value which isn't named
abbrev pub finished : Step → Result Run ServiceError
finished (step.Need address) = Err error.Malformed
finished (step.Done run) = Ok run

-- a run that observed each address that is named
abbrev pub if_observed : List Base → Run → Result Run ServiceError
if_observed named run = if are_observed named run.observations then Ok run else Err error.Malformed

-- bytes that are no request are malformed, and so is a text that can't be parsed at column 4, or is ill typed there
wire-is-malformed : of_wire wire_errors.BadWire ≡ error.Malformed
wire-is-malformed = refl

syntax-is-malformed : of_parse (parse_errors.Syntax 4) ≡ error.Malformed
syntax-is-malformed = refl

type-is-malformed : of_check (check_errors.BadType 4) ≡ error.Malformed
type-is-malformed = refl
