-- What the calls answer that put something together: what a definition finds, or that it finds nothing, want of memory aside.
use Rattle.std.specs.Prelude.{◌≡◌, true, Option, Some, None, is_some, Result, Ok, Err}
use Rattle.remote_service.specs.declared.error.ServiceError.{ServiceError}
use Rattle.remote_service.specs.declared.error.ServiceError.TheVariants as error

-- `seen` is what contracts see of what the code answers
abbrev pub Finds : {A C : Type 0} → (A → C) → Result A ServiceError → Option C → Type 0
Finds seen (Ok x) found = found ≡ Some (seen x)
Finds seen (Err error.Malformed) found = found ≡ None
Finds seen (Err error.NoMemory) found = Unit {0}
Finds seen (Err error.StoreFault) found = ⊥

-- memory is wanting only for what a definition finds
abbrev pub LacksOnly : {A C : Type 0} → Result A ServiceError → Option C → Type 0
LacksOnly result found = result ≡ Err error.NoMemory → is_some found ≡ true
