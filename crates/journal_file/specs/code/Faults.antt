-- What a payload is that isn't decoded: none that may stand behind others, or want of memory.
use Rattle.std.specs.Prelude.{◌≡◌, Bool, false, Result, Ok, Err, refl}
use Rattle.std.specs.declared.alloc.AllocError.{AllocError}
use Rattle.record_code.specs.declared.decode_error.DecodeError.{DecodeError}
use Rattle.record_code.specs.declared.decode_error.DecodeError.TheVariants as decode_errors

abbrev pub not_decoded : DecodeError → Result Bool AllocError
not_decoded (decode_errors.BadRecord place) = Ok false
not_decoded decode_errors.NoMemory = Err (record {})

-- bytes that are no payload from place 4 on may not stand there
bad-record-is-not-taken : not_decoded (decode_errors.BadRecord 4) ≡ Ok false
bad-record-is-not-taken = refl
