-- What the loop of a service over a link knows of one request, of those so far, and of the end. The laws of proofs/Asked tie
-- one request and those so far to `Talks` of specs/Talking, and the end to what specs/Promises says of each status.
use Rattle.std.specs.Prelude.{◌≡◌, ℕ, ◌⊎◌, Bool, true, false, List, map, length, Option, Some, None, Result, Ok, Err}
use Rattle.plain_data.specs.declared.or_no_memory.OrNoMemory.{OrNoMemory}
use Rattle.plain_data.specs.declared.or_no_memory.OrNoMemory.TheVariants as stop
use Rattle.dio_core.specs.Told.{WhereTold}
use Rattle.dio_core.specs.Counts.{Rose}
use Rattle.dio_core.specs.Links.{Both, Incoming, Outgoing}
use Rattle.dio_core.specs.Sources.{with_prefix}
use Rattle.dio_core.specs.Sinks.{with_more, TakesPrefix, IsPassedOn}
use Rattle.txn_grammar.specs.Characters.{Text}
use Rattle.docc_prepare.specs.Calls.{Known, Call, Answer}
use Rattle.script_runner.specs.declared.status.TheConstants.{WHOLE, READ_FAULT, WRITE_FAULT, NO_MEMORY}
use Rattle.diamond_server.specs.declared.status.TheConstants.{STORE_FAULT}
use Rattle.remote_wire.specs.declared.limits.TheConstants.{LONGEST_REQUEST}
use Rattle.remote_service.specs.declared.error.ServiceError.{ServiceError}
use Rattle.remote_service.specs.declared.error.ServiceError.TheVariants as error
use Rattle.remote_service.specs.declared.service.Service.{Service}
use Rattle.remote_service.specs.Serving.{HasStalled, HasFailed, IsRefused}
use Rattle.wire_frames.specs.Frames.{frame, frames, IsText, IsAtEnd, BreaksOff, IsBroken}
use Rattle.wire_server.specs.declared.status.Cause.{Cause}
use Rattle.wire_server.specs.declared.status.Cause.TheVariants as cause
use Rattle.wire_server.specs.declared.status.TheConstants.{MALFORMED, TOO_MANY_REQUESTS}
use Rattle.wire_server.specs.Talking.{Exchange, Does, Talks, first_service, request_of, reply_of}
use Rattle.wire_server.specs.Promises.{HasRead, IsServed, IsCutOff, IsStalled, IsFailed, ReadsToTheEnd, ReadsUpToAFault, ReadsOneMore, ReadsARefusal}

abbrev pub Stop : Type 0
Stop = OrNoMemory Cause

-- an error of the service ends the serving
abbrev pub stop_of : ServiceError → Stop
stop_of error.Malformed = stop.Cause cause.Malformed
stop_of error.StoreFault = stop.Cause cause.StoreFault
stop_of error.NoMemory = stop.NoMemory

-- the status of a serving that ended so
abbrev pub status_of : Result (Unit {0}) Stop → ℕ
status_of (Ok done) = WHOLE
status_of (Err stop.NoMemory) = NO_MEMORY
status_of (Err (stop.Cause cause.ReadFault)) = READ_FAULT
status_of (Err (stop.Cause cause.WriteFault)) = WRITE_FAULT
status_of (Err (stop.Cause cause.StoreFault)) = STORE_FAULT
status_of (Err (stop.Cause cause.TooManyRequests)) = TOO_MANY_REQUESTS
status_of (Err (stop.Cause cause.Malformed)) = MALFORMED

-- ---- reading a request

-- what was taken of the input, from what was left before to what is left after; and whether a read failed
abbrev pub ReadsRequest : Result (Option Text) Stop → Incoming → Incoming → Type 0
ReadsRequest (Ok (Some text)) x y = IsText LONGEST_REQUEST text × (x.left ≡ with_prefix (frame text) y.left) × (y.faults ≡ x.faults)
ReadsRequest (Ok None) x y = IsAtEnd x.left × (y.left ≡ x.left) × (y.faults ≡ x.faults)
ReadsRequest (Err stop.NoMemory) x y = BreaksOff LONGEST_REQUEST x.left y.left × (y.faults ≡ x.faults)
ReadsRequest (Err (stop.Cause cause.ReadFault)) x y = BreaksOff LONGEST_REQUEST x.left y.left × Rose x.faults y.faults
ReadsRequest (Err (stop.Cause cause.Malformed)) x y = IsBroken LONGEST_REQUEST x.left y.left × (y.faults ≡ x.faults)
ReadsRequest (Err (stop.Cause cause.WriteFault)) x y = ⊥
ReadsRequest (Err (stop.Cause cause.StoreFault)) x y = ⊥
ReadsRequest (Err (stop.Cause cause.TooManyRequests)) x y = ⊥

-- ---- writing an answer

-- the frame of these bytes was taken and passed on, or a prefix of it and then a write failed
abbrev pub WritesReply : Bool → Text → Outgoing → Outgoing → Type 0
WritesReply true reply x y =
    (y.taken ≡ with_more x.taken (frame reply)) × IsPassedOn y.taken y.passed × (y.faults ≡ x.faults)
WritesReply false reply x y = TakesPrefix (frame reply) x.taken y.taken × Rose x.faults y.faults

-- ---- answering

-- what the service made of a request's bytes
abbrev pub Serves : {B : Type 0} → (B → Known) → (B → Call → Answer → B → Type 0)
    → Result Text Stop → Service → B → Text → Service → B → Type 0
Serves known goes (Ok reply) s b bytes t d = (e : Exchange) × (e.request ≡ bytes) × (reply_of e ≡ reply) × Does known goes s b e t d
Serves known goes (Err stop.NoMemory) s b bytes t d = HasStalled known goes s b bytes t d
Serves known goes (Err (stop.Cause cause.StoreFault)) s b bytes t d = HasFailed known goes s b bytes d
Serves known goes (Err (stop.Cause cause.Malformed)) s b bytes t d = IsRefused known s b bytes t d
Serves known goes (Err (stop.Cause cause.ReadFault)) s b bytes t d = ⊥
Serves known goes (Err (stop.Cause cause.WriteFault)) s b bytes t d = ⊥
Serves known goes (Err (stop.Cause cause.TooManyRequests)) s b bytes t d = ⊥

-- ---- one request

-- the next frame of the input was taken, and the link is else as it was
pub record TakesRequest (bytes : Text) (x y : Both) : Type 0 where
  pub sized : IsText LONGEST_REQUEST bytes
  pub read : x.inwards.left ≡ with_prefix (frame bytes) y.inwards.left
  pub reads : y.inwards.faults ≡ x.inwards.faults

-- One request was read, answered and told.
pub record DoesOne {B : Type 0} (known : B → Known) (goes : B → Call → Answer → B → Type 0) (s : Service) (b : B) (x : Both) (t : Service) (d : B)
    (y : Both) : Type 0 where
  pub told : Exchange
  pub does : Does known goes s b told t d
  pub takes : TakesRequest told.request x y
  pub taken : y.outwards.taken ≡ with_more x.outwards.taken (frame (reply_of told))
  pub passed : IsPassedOn y.outwards.taken y.outwards.passed
  pub writes : y.outwards.faults ≡ x.outwards.faults

-- one was read and answered, but its answer not taken whole
pub record TellsNone {B : Type 0} (known : B → Known) (goes : B → Call → Answer → B → Type 0) (s : Service) (b : B) (x : Both) (t : Service) (d : B)
    (y : Both) : Type 0 where
  pub told : Exchange
  pub does : Does known goes s b told t d
  pub takes : TakesRequest told.request x y
  pub part : TakesPrefix (frame (reply_of told)) x.outwards.taken y.outwards.taken
  pub writes : Rose x.outwards.faults y.outwards.faults

-- one was read, and the service gave no answer for a reason
pub record GivesNone (Why : Text → Type 0) (x y : Both) : Type 0 where
  pub bytes : Text
  pub takes : TakesRequest bytes x y
  pub why : Why bytes
  pub outwards : y.outwards ≡ x.outwards

-- none was read
pub record ReadsNone {B : Type 0} (s : Service) (b : B) (x : Both) (t : Service) (d : B) (y : Both) : Type 0 where
  pub service : t ≡ s
  pub backend : d ≡ b
  pub outwards : y.outwards ≡ x.outwards

-- What a turn did: `true` says that another request may follow.
abbrev pub Turns : {B : Type 0} → (B → Known) → (B → Call → Answer → B → Type 0) → Result Bool Stop → Service → B → Both → Service → B → Both → Type 0
Turns known goes (Ok true) s b x t d y = DoesOne known goes s b x t d y
Turns known goes (Ok false) s b x t d y = ReadsNone s b x t d y × ReadsRequest (Ok None) x.inwards y.inwards
Turns known goes (Err stop.NoMemory) s b x t d y =
    (ReadsNone s b x t d y × ReadsRequest (Err stop.NoMemory) x.inwards y.inwards)
    ⊎ GivesNone (λ bytes. HasStalled known goes s b bytes t d) x y
Turns known goes (Err (stop.Cause cause.ReadFault)) s b x t d y =
    ReadsNone s b x t d y × ReadsRequest (Err (stop.Cause cause.ReadFault)) x.inwards y.inwards
Turns known goes (Err (stop.Cause cause.Malformed)) s b x t d y =
    (ReadsNone s b x t d y × ReadsRequest (Err (stop.Cause cause.Malformed)) x.inwards y.inwards)
    ⊎ GivesNone (λ bytes. IsRefused known s b bytes t d) x y
Turns known goes (Err (stop.Cause cause.StoreFault)) s b x t d y = GivesNone (λ bytes. HasFailed known goes s b bytes d) x y
Turns known goes (Err (stop.Cause cause.WriteFault)) s b x t d y = TellsNone known goes s b x t d y
Turns known goes (Err (stop.Cause cause.TooManyRequests)) s b x t d y = ⊥

-- ---- many requests

-- So many requests were read, answered and told.
pub record HasServed {B : Type 0} (known : B → Known) (goes : B → Call → Answer → B → Type 0) (count : ℕ) (old : B) (x : Both) (t : Service) (new : B)
    (y : Both) : Type 0 where
  pub exchanges : List Exchange
  pub talks : Talks known goes first_service old exchanges t new
  pub many : length exchanges ≡ count
  pub read : WhereTold (HasRead exchanges) x.inwards.left y.inwards.left
  pub reads : y.inwards.faults ≡ x.inwards.faults
  pub taken : y.outwards.taken ≡ with_more x.outwards.taken (frames (map reply_of exchanges))
  pub flushed : IsPassedOn x.outwards.taken x.outwards.passed → IsPassedOn y.outwards.taken y.outwards.passed
  pub writes : y.outwards.faults ≡ x.outwards.faults

-- ---- the end

-- the counts of a link stood
abbrev pub SameCounts : Both → Both → Type 0
SameCounts x y = (y.inwards.faults ≡ x.inwards.faults) × (y.outwards.faults ≡ x.outwards.faults)

-- How the serving ended.
abbrev pub Ends : {B : Type 0} → (B → Known) → (B → Call → Answer → B → Type 0) → Result (Unit {0}) Stop → B → Both → B → Both → Type 0
Ends known goes (Ok done) old x new y = IsServed known goes (known new) old new x y ReadsToTheEnd × SameCounts x y
Ends known goes (Err stop.NoMemory) old x new y = IsStalled known goes (known new) old new x y × SameCounts x y
Ends known goes (Err (stop.Cause cause.ReadFault)) old x new y =
    IsServed known goes (known new) old new x y ReadsUpToAFault × Rose x.inwards.faults y.inwards.faults × (y.outwards.faults ≡ x.outwards.faults)
Ends known goes (Err (stop.Cause cause.WriteFault)) old x new y =
    IsCutOff known goes (known new) old new x y × (y.inwards.faults ≡ x.inwards.faults) × Rose x.outwards.faults y.outwards.faults
Ends known goes (Err (stop.Cause cause.StoreFault)) old x new y =
    IsFailed known goes (known new) old new x y × SameCounts x y × Rose (known old).faults (known new).faults
Ends known goes (Err (stop.Cause cause.TooManyRequests)) old x new y =
    IsServed known goes (known new) old new x y ReadsOneMore × SameCounts x y
Ends known goes (Err (stop.Cause cause.Malformed)) old x new y =
    IsServed known goes (known new) old new x y ReadsARefusal × SameCounts x y
