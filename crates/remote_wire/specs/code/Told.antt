-- What is told of what was read, or of why it wasn't.
use Rattle.std.specs.Prelude.{◌≡◌, ℕ, List, [], ◌∷◌, Result, Ok, Err, refl}
use Rattle.record_code.specs.declared.field_error.FieldError.{FieldError}
use Rattle.record_code.specs.declared.field_error.FieldError.TheVariants as field_error
use Rattle.remote_wire.specs.declared.wire_error.WireError.{WireError}
use Rattle.remote_wire.specs.declared.wire_error.WireError.TheVariants as wire_error

-- why bytes aren't read
abbrev pub of_field : FieldError → WireError
of_field field_error.Malformed = wire_error.BadWire
of_field field_error.NoMemory = wire_error.NoMemory

-- what was read, where nothing is left behind it
abbrev pub only : {A : Type 0} → A → List ℕ → Result A WireError
only x [] = Ok x
only x (byte ∷ rest) = Err wire_error.BadWire

-- what is malformed is no wire, and so is what has a byte behind it
malformed-is-bad : of_field field_error.Malformed ≡ wire_error.BadWire
malformed-is-bad = refl

byte-behind-is-bad : only {A = ℕ} 7 (1 ∷ []) ≡ Err wire_error.BadWire
byte-behind-is-bad = refl
