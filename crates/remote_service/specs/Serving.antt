-- What a service does with requests: what it promises of each answer, and what stands behind it.
use Rattle.std.specs.Prelude.{◌≡◌, ℕ, ◌+◌, true, Bool, false, List, [], ◌∷◌, ◌++◌, length, slice_get, Some, IfSome, Result, Ok, Err, ◌⊎◌, refl}
use Rattle.std.specs.List.{AllByRecursion}
use Rattle.dio_core.specs.Counts.{Rose}
use Rattle.rdt_types.specs.declared.address.Address.{Address}
use Rattle.rdt_types.specs.declared.value.Value.{Value}
use Rattle.rdt_types.specs.Values.{kind_of}
use Rattle.abort_witness.specs.declared.witness.Based.{Based}
use Rattle.txn_lang.specs.declared.snaps.Snap.{Snap}
use Rattle.txn_lang.specs.States.{Journal}
use Rattle.txn_lang.specs.Journals.{own}
use Rattle.journal_core.specs.declared.ready.PreparedFront.{PreparedFront}
use Rattle.docc_prepare.specs.Attempts.{SnapFits, FrontFits}
use Rattle.docc_prepare.specs.Calls.{Known, Call, Answer, is_fault}
use Rattle.docc_prepare.specs.Backends.{IsGiven, CanCall, Goes}
use Rattle.remote_wire.specs.declared.request.Base.{Base}
use Rattle.remote_wire.specs.declared.request.Request.{Request}
use Rattle.remote_wire.specs.declared.request.Request.TheVariants as request
use Rattle.remote_wire.specs.declared.answer.Given.{Given}
use Rattle.remote_wire.specs.declared.answer.Given.TheVariants as given
use Rattle.remote_wire.specs.declared.answer.WireAnswer.{WireAnswer}
use Rattle.remote_wire.specs.AnswerSpelling.{answer_bytes}
use Rattle.remote_wire.specs.Answers.{IsAnswerTo, answer_in}
use Rattle.remote_wire.specs.Requests.{request_in}
use Rattle.remote_wire.specs.Asking.{AsksForRequest}
use Rattle.remote_calls.specs.Spelled.{request_for, bases_of, answered_by, seen_behind}
use Rattle.remote_service.specs.declared.error.ServiceError.{ServiceError}
use Rattle.remote_service.specs.declared.error.ServiceError.TheVariants as error
use Rattle.remote_service.specs.declared.kept.KeptSnap.{KeptSnap}
use Rattle.remote_service.specs.declared.kept.KeptFront.{KeptFront}
use Rattle.remote_service.specs.declared.service.Service.{Service}
use Rattle.remote_service.specs.Anew.{made_anew}
use Rattle.remote_service.specs.Malformed.{Meaning, meaning, appending, meaning_in, IsMalformed}

-- ---- what is kept

-- the value as one that was read
abbrev pub snap_of : KeptSnap → Address × Snap
snap_of x = (x.address, record { base = x.base; value = x.value })

-- the front as one at which a shard was prepared
abbrev pub prepared_of : KeptFront → PreparedFront
prepared_of x = record { shard = x.shard; front = x.front }

-- Of a journal that is told: values are what its first commits leave, fronts fit it, and the seq is the client's next.
pub record Stands (s : Service) (client : ℕ) (journal : Journal) : Type 0 where
  pub values : AllByRecursion (λ x. SnapFits journal (snap_of x)) s.snaps
  pub fronts : AllByRecursion (λ x. FrontFits journal x.based (prepared_of x)) s.fronts
  pub seq : s.seq ≡ length (own client journal) + 1

-- THE CONDITION OF A SERVICE, which each of its answers keeps: what it keeps its one backend gave, and where that tells its
-- journal, what it keeps stands for that, and nobody else appends for its client.
pub record Serves (s : Service) (k : Known) : Type 0 where
  pub given : AllByRecursion (λ x. IsGiven k x.address x.base) s.snaps
  pub kinds : AllByRecursion (λ x. kind_of x.value ≡ x.address.kind) s.snaps
  pub fronted : AllByRecursion (λ x. k.fronted x.shard x.based x.front ≡ true) s.fronts
  pub told : IfSome k.journal (Stands s k.client)

-- the service with a value more
abbrev pub with_snap : Service → Address → ℕ → Value → Service
with_snap s address base v = record s { snaps = s.snaps ++ record { address = address; base = base; value = v } ∷ [] }

-- the service with a front more
abbrev pub with_front : Service → ℕ → List Based → ℕ → Service
with_front s shard observed front =
    record s { fronts = s.fronts ++ record { shard = shard; based = observed; front = front } ∷ [] }

-- the service behind an append, with the seq of the next
abbrev pub emptied : Service → ℕ → Service
emptied s seq = record s { snaps = []; fronts = []; seq = seq }

-- WHAT IS KEPT BEHIND AN ANSWER: what a read or a preparing gives is kept, and an append, however it is answered, ends that.
abbrev pub kept_behind : Service → Request → Given → Service
kept_behind s (request.Read address) (given.Read base v) = with_snap s address base v
kept_behind s (request.Prepare shard observed) (given.Front front) = with_front s shard observed front
kept_behind s (request.Append seq body named) (given.Number n) = emptied s (s.seq + 1)
kept_behind s (request.Append seq body named) g = emptied s s.seq
kept_behind s asked g = s

-- ---- which request a call is spelled by

-- it stands at some place
pub record IsAmong {A : Type 0} (xs : List A) (x : A) : Type 0 where
  pub place : ℕ
  pub there : slice_get xs place ≡ Some x

-- two lists that name the same, in any order
pub record AreSame {A : Type 0} (xs ys : List A) : Type 0 where
  pub there : AllByRecursion (IsAmong ys) xs
  pub back : AllByRecursion (IsAmong xs) ys

-- A request spells a call: it is the call's, but that an append may name the bases in any order.
abbrev pub IsSpelling : Request → Call → Type 0
IsSpelling (request.Append seq body named) (Call.append ready) =
    (ready.seq ≡ seq) × (ready.body ≡ body) × AreSame named (bases_of ready.based)
IsSpelling asked call = request_for call ≡ asked

-- ---- answers

-- A REQUEST IS ANSWERED BY ONE CALL of the backend, which may be made and is spelled so. The answer is one to the request and is
-- that of the call, which is no fault, and it says what the client has seen.
pub record Served {B : Type 0} (known : B → Known) (goes : B → Call → Answer → B → Type 0)
    (s : Service) (b : B) (asked : Request) (call : Call) (answer : WireAnswer) (t : Service) (d : B) : Type 0 where
  pub can : CanCall (known b) call
  pub spelled : IsSpelling asked call
  pub step : Goes known goes b call (answered_by asked answer.seen answer.given) d
  pub fits : IsAnswerTo asked answer
  pub counts : answer.seen ≡ (known d).seen
  pub seen : (known d).seen ≡ seen_behind asked (known b).seen answer.seen
  pub told : is_fault (answered_by asked answer.seen answer.given) ≡ false
  pub kept : t ≡ kept_behind s asked answer.given

-- A greeting is answered by no call: it says who the client is, how many shards there are, and what the client has seen.
pub record Greeted {B : Type 0} (known : B → Known) (s : Service) (b : B) (answer : WireAnswer) (t : Service) (d : B)
    : Type 0 where
  pub says : answer ≡ record { seen = (known b).seen; given = given.Hello (known b).client (known b).shards }
  pub fits : IsAnswerTo request.Hello answer
  pub service : t ≡ s
  pub backend : d ≡ b

-- nothing was done
pub record IsUnchanged {B : Type 0} (s : Service) (b : B) (t : Service) (d : B) : Type 0 where
  pub service : t ≡ s
  pub backend : d ≡ b

-- the call was made, whatever it was answered; but not by a fault, unless that is told
pub record WasMade {B : Type 0} (known : B → Known) (goes : B → Call → Answer → B → Type 0)
    (by_fault : Bool) (b : B) (call : Call) (d : B) : Type 0 where
  pub answer : Answer
  pub can : CanCall (known b) call
  pub step : Goes known goes b call answer d
  pub fault : is_fault answer ≡ by_fault

-- the client's next commit: its body is run anew before it is known whether it is malformed
abbrev pub IsNext : Service → Request → Type 0
IsNext s (request.Append seq body named) = seq ≡ s.seq
IsNext s asked = ⊥

-- WHAT IS ANSWERED, by what the request means. For want of memory the one call may have been made or not; and of what is malformed
-- memory is asked for the client's next commit alone.
abbrev pub Responds : {B : Type 0} → (B → Known) → (B → Call → Answer → B → Type 0)
    → Service → B → Request → Meaning → Result WireAnswer ServiceError → Service → B → Type 0
Responds known goes s b asked Meaning.greeting (Ok answer) t d = Greeted known s b answer t d
Responds known goes s b asked (Meaning.calling call) (Ok answer) t d = Served known goes s b asked call answer t d
Responds known goes s b asked (Meaning.calling call) (Err error.StoreFault) t d = WasMade known goes true b call d
Responds known goes s b asked (Meaning.calling call) (Err error.NoMemory) t d =
    IsUnchanged s b t d ⊎ WasMade known goes false b call d
Responds known goes s b asked Meaning.malformed (Err error.Malformed) t d = IsUnchanged s b t d
Responds known goes s b asked Meaning.malformed (Err error.NoMemory) t d = IsNext s asked × IsUnchanged s b t d
Responds known goes s b asked Meaning.greeting (Err error.NoMemory) t d = IsUnchanged s b t d
Responds known goes s b asked m result t d = ⊥

-- WHAT A SERVICE MAKES OF A REQUEST: it is answered by what it means to the service as it is.
abbrev pub Does : {B : Type 0} → (B → Known) → (B → Call → Answer → B → Type 0)
    → Service → B → Request → Result WireAnswer ServiceError → Service → B → Type 0
Does known goes s b asked result t d = Responds known goes s b asked (meaning s (known b) asked) result t d

-- of an append whose place is the next: by its body, run anew
abbrev pub AppendsAnew : {B : Type 0} → (B → Known) → (B → Call → Answer → B → Type 0)
    → Service → B → List ℕ → List Base → Result WireAnswer ServiceError → Service → B → Type 0
AppendsAnew known goes s b body named result t d =
    Responds known goes s b (request.Append s.seq body named)
    (appending (made_anew s (known b).client (known b).shards body named)) result t d

-- ---- over bytes

-- the call that the request means was made, and its answer is given
pub record ByCall {B : Type 0} (known : B → Known) (goes : B → Call → Answer → B → Type 0)
    (s : Service) (b : B) (asked : Request) (answer : WireAnswer) (t : Service) (d : B) : Type 0 where
  pub call : Call
  pub meant : meaning s (known b) asked ≡ Meaning.calling call
  pub served : Served known goes s b asked call answer t d

-- a greeting is answered by no call, and any other request by one
abbrev pub IsAnswered : {B : Type 0} → (B → Known) → (B → Call → Answer → B → Type 0)
    → Service → B → Request → WireAnswer → Service → B → Type 0
IsAnswered known goes s b request.Hello answer t d = Greeted known s b answer t d
IsAnswered known goes s b asked answer t d = ByCall known goes s b asked answer t d

-- BYTES ARE ANSWERED: they are a request, it is answered, and what is told are the answer's bytes, which are read again as it.
pub record Answered {B : Type 0} (known : B → Known) (goes : B → Call → Answer → B → Type 0)
    (s : Service) (b : B) (bytes : List ℕ) (t : Service) (d : B) (told : List ℕ) : Type 0 where
  pub asked : Request
  pub answer : WireAnswer
  pub read : request_in bytes ≡ Some asked
  pub answered : IsAnswered known goes s b asked answer t d
  pub spelled : told ≡ answer_bytes answer
  pub again : answer_in asked told ≡ Some answer

-- the bytes were refused, and nothing was done
pub record IsRefused {B : Type 0} (known : B → Known) (s : Service) (b : B) (bytes : List ℕ) (t : Service) (d : B)
    : Type 0 where
  pub malformed : IsMalformed s (known b) bytes
  pub unchanged : IsUnchanged s b t d

-- only a refusal, or want of memory
abbrev pub OnlyRefuses : {A : Type 0} → Result A ServiceError → Type 0
OnlyRefuses (Err error.Malformed) = Unit {0}
OnlyRefuses (Err error.NoMemory) = Unit {0}
OnlyRefuses result = ⊥

-- the call that bytes mean was made
pub record MadeCall {B : Type 0} (known : B → Known) (goes : B → Call → Answer → B → Type 0)
    (by_fault : Bool) (s : Service) (b : B) (bytes : List ℕ) (d : B) : Type 0 where
  pub call : Call
  pub meant : meaning_in s (known b) bytes ≡ Meaning.calling call
  pub made : WasMade known goes by_fault b call d

-- THE STORE HAS FAILED in the one call, and has counted it.
pub record HasFailed {B : Type 0} (known : B → Known) (goes : B → Call → Answer → B → Type 0)
    (s : Service) (b : B) (bytes : List ℕ) (d : B) : Type 0 where
  pub made : MadeCall known goes true s b bytes d
  pub counted : Rose (known b).faults (known d).faults

-- MEMORY WAS WANTED: nothing was done, or the one call was made, and didn't fail by a fault.
abbrev pub HasStalled : {B : Type 0} → (B → Known) → (B → Call → Answer → B → Type 0)
    → Service → B → List ℕ → Service → B → Type 0
HasStalled known goes s b bytes t d = IsUnchanged s b t d ⊎ MadeCall known goes false s b bytes d

-- memory is asked for to answer a request that isn't malformed, and for the client's next commit
abbrev pub AsksToAnswer : Service → Request → Meaning → Type 0
AsksToAnswer s asked Meaning.malformed = IsNext s asked
AsksToAnswer s asked m = Unit {0}

-- the bytes are a request for which memory is asked, to answer it
pub record AsksForAnAnswer (s : Service) (k : Known) (bytes : List ℕ) : Type 0 where
  pub asked : Request
  pub read : request_in bytes ≡ Some asked
  pub asks : AsksToAnswer s asked (meaning s k asked)

-- MEMORY IS WANTING ONLY WHERE IT IS ASKED FOR: to read the bytes as a request, or to answer the request that they are. So any other
-- bytes that are malformed are refused as that.
abbrev pub LacksOnlyAsked : {A : Type 0} → Service → Known → List ℕ → Result A ServiceError → Type 0
LacksOnlyAsked s k bytes result = result ≡ Err error.NoMemory → AsksForRequest bytes ⊎ AsksForAnAnswer s k bytes

-- ---- worked lines

-- a shard that isn't there is refused, and not for want of memory
asks-no_shard : (s : Service) (k : Known) → AsksToAnswer s (request.Prepare 4 []) Meaning.malformed ≡ ⊥
asks-no_shard s k = refl

-- a commit ends what was kept, and raises the seq; one that was refused leaves that
kept_behind-commit : (s : Service) → (kept_behind s (request.Append 1 [] []) (given.Number 5)).snaps ≡ []
kept_behind-commit s = refl

kept_behind-full : (s : Service) → (kept_behind s (request.Append 1 [] []) (given.Full 5)).seq ≡ s.seq
kept_behind-full s = refl
