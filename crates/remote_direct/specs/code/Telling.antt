-- What is told of what a service answers.
use Rattle.std.specs.Prelude.{◌≡◌, ℕ, List, Some, Result, Ok, Err}
use Rattle.docc_prepare.specs.declared.backend.StoreError.{StoreError}
use Rattle.docc_prepare.specs.declared.backend.StoreError.TheVariants as store_error
use Rattle.remote_wire.specs.declared.request.Request.{Request}
use Rattle.remote_wire.specs.declared.answer.WireAnswer.{WireAnswer}
use Rattle.remote_wire.specs.Answers.{answer_in}
use Rattle.remote_service.specs.declared.error.ServiceError.{ServiceError}
use Rattle.remote_service.specs.declared.error.ServiceError.TheVariants as error

-- the answer that bytes are, unless memory is wanted
abbrev pub ReadsBack : Request → List ℕ → Result WireAnswer StoreError → Type 0
ReadsBack asked bytes (Ok answer) = answer_in asked bytes ≡ Some answer
ReadsBack asked bytes (Err e) = e ≡ store_error.NoMemory

-- a fault is told as one, and want of memory as such
abbrev pub TellsAs : ServiceError → StoreError → Type 0
TellsAs error.StoreFault e = e ≡ store_error.Fault
TellsAs error.NoMemory e = e ≡ store_error.NoMemory
TellsAs error.Malformed e = ⊥
