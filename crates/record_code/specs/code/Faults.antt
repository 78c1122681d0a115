-- Why a text is no body, as why its field is not read.
use Rattle.std.specs.Prelude.{◌≡◌, refl}
use Rattle.txn_parse.specs.declared.whole.ParseError.{ParseError}
use Rattle.txn_parse.specs.declared.whole.ParseError.TheVariants as parse_errors
use Rattle.txn_lang.specs.declared.checking.CheckError.{CheckError}
use Rattle.txn_lang.specs.declared.checking.CheckError.TheVariants as check_errors
use Rattle.record_code.specs.declared.field_error.FieldError.{FieldError}
use Rattle.record_code.specs.declared.field_error.FieldError.TheVariants as errors

-- a text that isn't parsed
abbrev pub of_parse : ParseError → FieldError
of_parse (parse_errors.Syntax column) = errors.Malformed
of_parse parse_errors.NoMemory = errors.NoMemory

-- a body that isn't accepted
abbrev pub of_check : CheckError → FieldError
of_check (check_errors.BadType column) = errors.Malformed
of_check (check_errors.Writes column) = errors.Malformed
of_check check_errors.NoMemory = errors.NoMemory

-- a text that can't be parsed at column 4 is malformed, and so is a body that is ill typed there
syntax-is-malformed : of_parse (parse_errors.Syntax 4) ≡ errors.Malformed
syntax-is-malformed = refl

type-is-malformed : of_check (check_errors.BadType 4) ≡ errors.Malformed
type-is-malformed = refl
