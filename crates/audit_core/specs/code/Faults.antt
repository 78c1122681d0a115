-- What a text is read as that is refused: no body, or want of memory.
use Rattle.std.specs.Prelude.{◌≡◌, Option, None, Result, Ok, Err, refl}
use Rattle.std.specs.declared.alloc.AllocError.{AllocError}
use Rattle.txn_parse.specs.declared.whole.ParseError.{ParseError}
use Rattle.txn_parse.specs.declared.whole.ParseError.TheVariants as parse_errors
use Rattle.txn_lang.specs.declared.checked.Checked.{Checked}
use Rattle.txn_lang.specs.declared.checking.CheckError.{CheckError}
use Rattle.txn_lang.specs.declared.checking.CheckError.TheVariants as check_errors

-- a text that isn't parsed
abbrev pub not_parsed : ParseError → Result (Option Checked) AllocError
not_parsed (parse_errors.Syntax column) = Ok None
not_parsed parse_errors.NoMemory = Err (record {})

-- a body that isn't accepted
abbrev pub not_accepted : CheckError → Result (Option Checked) AllocError
not_accepted (check_errors.BadType column) = Ok None
not_accepted (check_errors.Writes column) = Ok None
not_accepted check_errors.NoMemory = Err (record {})

-- a text that can't be parsed at column 4 is no body, and so is one that is ill typed there
syntax-is-no-body : not_parsed (parse_errors.Syntax 4) ≡ Ok None
syntax-is-no-body = refl

type-is-no-body : not_accepted (check_errors.BadType 4) ≡ Ok None
type-is-no-body = refl
