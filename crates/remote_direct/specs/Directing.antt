-- A service beside its backend: what the two stand for, and by what the calls of a client go that asks them.
use Rattle.std.specs.Prelude.{◌≡◌, ℕ, Bool, true, false, ◌&&◌, ◌==◌, List, [], ◌∷◌, Some, Ok, Err, refl}
use Rattle.std.specs.List.{list_any}
use Rattle.abort_witness.specs.declared.witness.Based.{Based}
use Rattle.txn_lang.specs.States.{Journal}
use Rattle.journal_core.specs.declared.ready.PreparedFront.{PreparedFront}
use Rattle.journal_core.specs.declared.ready.Ready.{Ready}
use Rattle.docc_prepare.specs.declared.backend.StoreError.TheVariants as store_error
use Rattle.docc_prepare.specs.Calls.{Known, Call, Answer}
use Rattle.docc_prepare.specs.Backends.{IsAnswered, Goes}
use Rattle.remote_wire.specs.declared.request.Request.{Request}
use Rattle.remote_wire.specs.declared.answer.WireAnswer.{WireAnswer}
use Rattle.remote_wire.specs.Spelling.{request_bytes}
use Rattle.remote_wire.specs.Answers.{answer_in}
use Rattle.remote_calls.specs.Calling.{IsWhole, Doing}
use Rattle.remote_service.specs.declared.kept.KeptFront.{KeptFront}
use Rattle.remote_service.specs.declared.service.Service.{Service}
use Rattle.remote_service.specs.Keeping.{was_given, is_front_of}
use Rattle.remote_service.specs.Serving.{Serves, HasFailed, HasStalled}
use Rattle.remote_service.specs.Serving as serving

-- A SERVICE BESIDE ITS BACKEND.
pub record Beside (B : Type 0) : Type 0 where
  pub backend : B
  pub service : Service

-- ---- what it stands for

-- whether this front was given for just these observations of a shard
abbrev pub was_prepared : List KeptFront → ℕ → List Based → ℕ → Bool
was_prepared kept shard observed front = list_any (λ x. is_front_of shard observed x && (x.front == front)) kept

-- what a backend stands for to whoever is served by this service: the bases and the fronts that it gave are those which are kept
abbrev pub known_at : Known → Service → Known
known_at k s = record k {
  gave = λ address base. was_given s.snaps address base;
  fronted = λ shard observed front. was_prepared s.fronts shard observed front;
}

-- WHAT IT STANDS FOR: what its backend does, with the bases and the fronts that the service keeps.
abbrev pub known_beside : {B : Type 0} → (B → Known) → Beside B → Known
known_beside known d = known_at (known d.backend) d.service

-- ---- what it keeps

-- The journal is told; it is legal, and what was seen is there.
pub record Tells (k : Known) : Type 0 where
  pub journal : Journal
  pub told : k.journal ≡ Some journal
  pub whole : IsWhole k journal

-- the service serves on the backend, which tells its journal
pub record IsBeside (s : Service) (k : Known) : Type 0 where
  pub serves : Serves s k
  pub tells : Tells k

-- ---- its calls

-- what is appended, with other fronts
abbrev pub with_fronts : Ready → List PreparedFront → Ready
with_fronts ready fronts = record ready { fronts = fronts }

-- An append goes by a step of the backend for just what was handed on, but with the fronts that the service keeps: no request tells
-- the client's. And it is answered within the clause of what was handed on.
pub record Appends {B : Type 0} (known : B → Known) (goes : B → Call → Answer → B → Type 0) (b : B) (ready : Ready) (a : Answer) (d : B)
    : Type 0 where
  pub fronts : List PreparedFront
  pub step : Goes known goes b (Call.append (with_fronts ready fronts)) a d
  pub answered : IsAnswered (known b) (Call.append ready) a (known d)

-- BY THE BACKEND'S OWN STEPS, within the clause of every call.
abbrev pub Through : {B : Type 0} → (B → Known) → (B → Call → Answer → B → Type 0) → B → Call → Answer → B → Type 0
Through known goes b (Call.append ready) a d = Appends known goes b ready a d
Through known goes b c a d = Goes known goes b c a d

abbrev pub goes_beside : {B : Type 0} → (B → Known) → (B → Call → Answer → B → Type 0) → Beside B → Call → Answer → Beside B → Type 0
goes_beside known goes d c a e = Through known goes d.backend c a e.backend

-- WHAT A REQUEST DOES: a greeting is answered by no call, and any other request by the one call that it means. Where there is no answer,
-- nothing was done, or that call was made; and the backend failed by a fault exactly where that is told.
abbrev pub does_beside : {B : Type 0} → (B → Known) → (B → Call → Answer → B → Type 0) → Doing (Beside B)
does_beside known goes d asked (Ok answer) e = serving.IsAnswered known goes d.service d.backend asked answer e.service e.backend
does_beside known goes d asked (Err store_error.Fault) e = HasFailed known goes d.service d.backend (request_bytes asked) e.backend
does_beside known goes d asked (Err store_error.NoMemory) e = HasStalled known goes d.service d.backend (request_bytes asked) e.service e.backend

-- ---- bytes

-- bytes that are an answer to a request
pub record IsTold (asked : Request) (bytes : List ℕ) : Type 0 where
  pub answer : WireAnswer
  pub is : answer_in asked bytes ≡ Some answer

-- ---- worked lines

-- a front that was given counts, and no other
was_prepared-example : was_prepared (record { shard = 1; based = []; front = 3 } ∷ []) 1 [] 3 ≡ true
was_prepared-example = refl

was_prepared-other : was_prepared (record { shard = 1; based = []; front = 3 } ∷ []) 1 [] 4 ≡ false
was_prepared-other = refl

-- a service that has given nothing lets no base be named
known_at-nothing : (k : Known) (s : Service) → (known_at k (record s { snaps = [] })).gave ≡ (λ address base. false)
known_at-nothing k s = refl

-- what others see of it is the backend's
known_at-journal : (k : Known) (s : Service) → (known_at k s).journal ≡ k.journal
known_at-journal k s = refl
