-- What the parts of an exchange do.
use Rattle.std.specs.Prelude.{◌≡◌, ℕ, List, Some, None, Result, Ok, Err, refl}
use Rattle.wire_frames.specs.declared.reading.FrameFault.{FrameFault}
use Rattle.wire_frames.specs.declared.reading.FrameFault.TheVariants as frame_fault
use Rattle.remote_wire.specs.declared.request.Request.{Request}
use Rattle.remote_wire.specs.declared.answer.WireAnswer.{WireAnswer}
use Rattle.remote_wire.specs.declared.wire_error.WireError.{WireError}
use Rattle.remote_wire.specs.declared.wire_error.WireError.TheVariants as wire_error
use Rattle.remote_wire.specs.AnswerSpelling.{answer_bytes}
use Rattle.remote_wire.specs.Answers.{IsAnswerTo, answer_in}
use Rattle.remote_wire.specs.Asking.{AsksForAnswer}
use Rattle.remote_link.specs.declared.exchange.Failure.{Failure}
use Rattle.remote_link.specs.declared.exchange.Failure.TheVariants as failure

-- ---- why there is no answer

abbrev pub failure_of_frame : FrameFault → Failure
failure_of_frame frame_fault.ReadFault = failure.Link
failure_of_frame frame_fault.Broken = failure.Broken
failure_of_frame frame_fault.NoMemory = failure.NoMemory

abbrev pub failure_of_wire : WireError → Failure
failure_of_wire wire_error.BadWire = failure.Broken
failure_of_wire wire_error.NoMemory = failure.NoMemory

-- what is no frame is no answer, and what is no answer is none: neither is told as want of memory
broken-is-broken : failure_of_frame frame_fault.Broken ≡ failure.Broken
broken-is-broken = refl

bad-is-broken : failure_of_wire wire_error.BadWire ≡ failure.Broken
bad-is-broken = refl

-- what bytes are read as: memory is wanting only where it is asked for
abbrev pub ReadsAnswer : Request → List ℕ → Result WireAnswer Failure → Type 0
ReadsAnswer asked bytes (Ok said) = IsAnswerTo asked said × (bytes ≡ answer_bytes said) × (answer_in asked bytes ≡ Some said)
ReadsAnswer asked bytes (Err failure.Broken) = answer_in asked bytes ≡ None
ReadsAnswer asked bytes (Err failure.NoMemory) = AsksForAnswer asked bytes
ReadsAnswer asked bytes (Err failure.Link) = ⊥
