-- What the readers of the code answer: the value that a definition reads and the bytes behind it, or that nothing is
-- read, want of memory aside.
use Rattle.std.specs.Prelude.{◌≡◌, ◌⊎◌, ℕ, Bool, true, false, List, Option, Some, None, Result, Ok, Err, Vec}
use Rattle.std.specs.declared.alloc.Global.{Global}
use denote.Bor.{Bor}
use Rattle.commit_file.specs.declared.version.Version.{Version}
use Rattle.record_code.specs.declared.field_error.FieldError.{FieldError}
use Rattle.record_code.specs.declared.field_error.FieldError.TheVariants as errors
use Rattle.record_code.specs.declared.decode_error.DecodeError.{DecodeError}
use Rattle.record_code.specs.declared.decode_error.DecodeError.TheVariants as decode_errors
use Rattle.record_code.specs.Payloads.{decoded}

-- nothing is read where the field is malformed
abbrev pub Refuses : {A : Type 0} → FieldError → Option A → Type 0
Refuses errors.Malformed read = read ≡ None
Refuses errors.NoMemory read = Unit {0}

-- `seen` is what contracts see of what the code answers
abbrev pub Reads : {A B : Type 0} → (A → B) → Result A FieldError → Option B → Type 0
Reads seen (Ok x) read = read ≡ Some (seen x)
Reads seen (Err error) read = Refuses error read

-- the same of fields with the bytes behind them
abbrev pub ReadsFields : {A : Type 0} → Result (Vec A Global × Bor (List ℕ)) FieldError → Option (List A × List ℕ) → Type 0
ReadsFields result read = Reads (λ r. (r.0.items, r.1.now)) result read

-- the value that passes a test comes back, as contracts see it, want of memory aside
abbrev pub Tells : {A B : Type 0} → (A → B) → Result A FieldError → B → Bool → Type 0
Tells seen (Ok x) value passes = (seen x ≡ value) × (passes ≡ true)
Tells seen (Err errors.Malformed) value passes = passes ≡ false
Tells seen (Err errors.NoMemory) value passes = Unit {0}

-- a field of a payload is read as a definition reads it, or the place of the field is named, want of memory aside
abbrev pub Decodes : {A B : Type 0} → (A → B) → Result A DecodeError → Result B ℕ → Type 0
Decodes seen (Ok x) read = read ≡ Ok (seen x)
Decodes seen (Err (decode_errors.BadRecord place)) read = read ≡ Err place
Decodes seen (Err decode_errors.NoMemory) read = Unit {0}

-- the same of a value with the bytes behind it, of which contracts see the value so
abbrev pub DecodesAs : {A B : Type 0} → (A → B) → Result (A × Bor (List ℕ)) DecodeError → Result (B × List ℕ) ℕ → Type 0
DecodesAs seen result read = Decodes (λ r. (seen r.0, r.1.now)) result read

-- where a place is named, it is the one at which the bytes are no payload of a version
abbrev pub NamesPlace : {A : Type 0} → Version → List ℕ → Result A DecodeError → Type 0
NamesPlace version bytes result = (place : ℕ) → result ≡ Err (decode_errors.BadRecord place) → decoded version bytes ≡ Err place

-- what was read goes on, and where nothing was read its place is named, want of memory aside
abbrev pub Placed : {A : Type 0} → ℕ → Result A FieldError → Result A DecodeError → Type 0
Placed place (Ok x) answer = answer ≡ Ok x
Placed place (Err errors.Malformed) answer =
    (answer ≡ Err (decode_errors.BadRecord place)) ⊎ (answer ≡ Err decode_errors.NoMemory)
Placed place (Err errors.NoMemory) answer = answer ≡ Err decode_errors.NoMemory
