-- What a caller owes for a request, and what it is owed.
use Rattle.std.specs.Prelude.{◌≡◌, ℕ, Bool, true, false, IfSome, Result, Ok, Err}
use Rattle.dio_core.specs.Counts.{IsCounted}
use Rattle.txn_lang.specs.States.{Journal}
use Rattle.txn_lang.specs.Journals.{IsLegal}
use Rattle.docc_prepare.specs.declared.backend.StoreError.{StoreError}
use Rattle.docc_prepare.specs.declared.backend.StoreError.TheVariants as store_error
use Rattle.docc_prepare.specs.Calls.{Known, Call, Answer}
use Rattle.docc_prepare.specs.Backends.{CanCall, Goes}
use Rattle.docc_prepare.specs.Readable.{IsReadOn}
use Rattle.remote_wire.specs.declared.request.Request.{Request}
use Rattle.remote_wire.specs.declared.request.Request.TheVariants as request
use Rattle.remote_wire.specs.declared.answer.Given.{Given}
use Rattle.remote_wire.specs.declared.answer.Given.TheVariants as given
use Rattle.remote_wire.specs.declared.answer.WireAnswer.{WireAnswer}
use Rattle.remote_wire.specs.Answers.{IsAnswerTo}
use Rattle.remote_calls.specs.Spelled.{request_for, answered_by, seen_behind}

-- The journal that is told is legal, what was seen is there, and it can be read, however it grows.
pub record IsWhole (k : Known) (journal : Journal) : Type 0 where
  pub legal : IsLegal k.trusted journal
  pub readable : IsReadOn k journal

-- a call that may be made, and that is spelled so
pub record Spells (k : Known) (asked : Request) : Type 0 where
  pub call : Call
  pub can : CanCall k call
  pub spelled : request_for call ≡ asked

-- what requests do, by what comes of them
abbrev pub Doing : Type 0 → Type 1
Doing B = B → Request → Result WireAnswer StoreError → B → Type 0

-- What may be asked: the greeting, and what spells a call that may be made.
abbrev pub CanAsk : Known → Request → Type 0
CanAsk k request.Hello = Unit {0}
CanAsk k r = Spells k r

-- whether it is a fault
abbrev pub is_fault_error : StoreError → Bool
is_fault_error store_error.Fault = true
is_fault_error store_error.NoMemory = false

-- A greeting is answered: the client, the shards and what is seen are these, and all else is as it was. A caller that tells
-- its journal is greeted as what it is.
abbrev pub Greets : Known → ℕ → Given → Known → Type 0
Greets k seen (given.Hello client shards) l =
    (l ≡ record k { client = client; shards = shards; seen = seen }) × IfSome l.journal (IsWhole l)
    × IfSome k.journal (λ journal. l ≡ k)
Greets k seen g l = ⊥

-- THE CLAUSE OF A REQUEST: it is answered as each call that may be made and is spelled so.
pub record Answers {B : Type 0} (known : B → Known) (goes : B → Call → Answer → B → Type 0)
    (old : B) (asked : Request) (answer : WireAnswer) (new : B) : Type 0 where
  pub fits : IsAnswerTo asked answer
  pub steps : (c : Call) → CanCall (known old) c → request_for c ≡ asked
      → Goes known goes old c (answered_by asked answer.seen answer.given) new
  pub seen : (known new).seen ≡ seen_behind asked (known old).seen answer.seen
  pub whole : IfSome (known new).journal (IsWhole (known new))

-- a greeting, or any other request
abbrev pub Replies : {B : Type 0} → (B → Known) → (B → Call → Answer → B → Type 0)
    → B → Request → WireAnswer → B → Type 0
Replies known goes old request.Hello answer new =
    IsAnswerTo request.Hello answer × Greets (known old) answer.seen answer.given (known new)
Replies known goes old asked answer new = Answers known goes old asked answer new

-- What fails has counted its fault, if it failed by one.
abbrev pub IsReplied : {B : Type 0} → (B → Known) → (B → Call → Answer → B → Type 0)
    → B → Request → Result WireAnswer StoreError → B → Type 0
IsReplied known goes old asked (Ok answer) new = Replies known goes old asked answer new
IsReplied known goes old asked (Err e) new = IsCounted (is_fault_error e) (known old).faults (known new).faults
