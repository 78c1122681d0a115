-- What the calls that decode answer: what bytes are, or that they are nothing, want of memory aside.
use Rattle.std.specs.Prelude.{◌≡◌, Option, Some, None, Result, Ok, Err}
use Rattle.remote_wire.specs.declared.wire_error.WireError.{WireError}
use Rattle.remote_wire.specs.declared.wire_error.WireError.TheVariants as errors

abbrev pub Decodes : {A : Type 0} → Result A WireError → Option A → Type 0
Decodes (Ok x) read = read ≡ Some x
Decodes (Err errors.BadWire) read = read ≡ None
Decodes (Err errors.NoMemory) read = Unit {0}
