-- What is told of what the backend answers, with the number that the client has seen then.
use Rattle.std.specs.Prelude.{◌≡◌, ℕ, List, Some, Result, Ok, Err}
use Rattle.change_feed.specs.Feeds.{Fed}
use Rattle.rdt_types.specs.declared.address.Address.{Address}
use Rattle.rdt_types.specs.declared.value.Value.{Value}
use Rattle.abort_witness.specs.declared.witness.Based.{Based}
use Rattle.txn_lang.specs.declared.snaps.Snap.{Snap}
use Rattle.version_shard.specs.declared.prepared.Prepared.{Prepared}
use Rattle.docc_prepare.specs.declared.backend.StoreError.{StoreError}
use Rattle.docc_prepare.specs.declared.backend.StoreError.TheVariants as store_error
use Rattle.docc_prepare.specs.declared.backend.PrepareError.{PrepareError}
use Rattle.docc_prepare.specs.declared.backend.PrepareError.TheVariants as prepare_error
use Rattle.docc_prepare.specs.declared.backend.AppendError.{AppendError}
use Rattle.docc_prepare.specs.declared.backend.AppendError.TheVariants as append_error
use Rattle.docc_prepare.specs.declared.backend.ReadAtError.{ReadAtError}
use Rattle.docc_prepare.specs.declared.backend.ReadAtError.TheVariants as read_at_error
use Rattle.remote_wire.specs.declared.answer.Given.{Given}
use Rattle.remote_wire.specs.declared.answer.Given.TheVariants as given
use Rattle.remote_wire.specs.declared.answer.WireAnswer.{WireAnswer}
use Rattle.remote_wire.specs.declared.request.Request.{Request}
use Rattle.remote_wire.specs.AnswerForms.{HasChanges}
use Rattle.remote_wire.specs.AnswerSpelling.{answer_bytes}
use Rattle.remote_wire.specs.Answers.{IsAnswerTo, answer_in}
use Rattle.remote_service.specs.declared.error.ServiceError.{ServiceError}
use Rattle.remote_service.specs.declared.error.ServiceError.TheVariants as error
use Rattle.remote_service.specs.declared.service.Service.{Service}
use Rattle.remote_service.specs.Serving.{with_snap, with_front, emptied}

-- an answer
abbrev pub answer : ℕ → Given → Result WireAnswer ServiceError
answer seen g = Ok (record { seen = seen; given = g })

-- an error of a store
abbrev pub of_store : StoreError → ServiceError
of_store store_error.Fault = error.StoreFault
of_store store_error.NoMemory = error.NoMemory

-- of a refresh: the number is what the client has seen
abbrev pub refreshed : Result ℕ StoreError → Result WireAnswer ServiceError
refreshed (Ok seen) = answer seen given.Done
refreshed (Err e) = Err (of_store e)

-- of a call that gives nothing
abbrev pub done : ℕ → Result (Unit {0}) StoreError → Result WireAnswer ServiceError
done seen (Ok u) = answer seen given.Done
done seen (Err e) = Err (of_store e)

-- of a read at a number
abbrev pub valued : ℕ → Result Value ReadAtError → Result WireAnswer ServiceError
valued seen (Ok v) = answer seen (given.Value v)
valued seen (Err (read_at_error.Late number horizon)) = answer seen (given.Late number horizon)
valued seen (Err read_at_error.Fault) = Err error.StoreFault
valued seen (Err read_at_error.NoMemory) = Err error.NoMemory

-- of changes: those that have no spelling are answered as want of memory
abbrev pub Feeds : ℕ → Result Fed StoreError → Result WireAnswer ServiceError → Type 0
Feeds seen (Ok f) (Ok w) = (w ≡ record { seen = seen; given = given.Feed f }) × HasChanges (given.Feed f)
Feeds seen (Ok f) (Err e) = e ≡ error.NoMemory
Feeds seen (Err x) (Ok w) = ⊥
Feeds seen (Err x) (Err e) = e ≡ of_store x

-- of a read: the value is kept, unless there is no memory for it
abbrev pub KeepsSnap : Service → Address → Result Snap StoreError → ℕ → Result WireAnswer ServiceError → Service → Type 0
KeepsSnap s address (Ok snap) seen (Ok w) t =
    (w ≡ record { seen = seen; given = given.Read snap.base snap.value }) × (t ≡ with_snap s address snap.base snap.value)
KeepsSnap s address (Ok snap) seen (Err e) t = (e ≡ error.NoMemory) × (t ≡ s)
KeepsSnap s address (Err x) seen (Ok w) t = ⊥
KeepsSnap s address (Err x) seen (Err e) t = (e ≡ of_store x) × (t ≡ s)

-- why no front was given
abbrev pub unprepared : ℕ → PrepareError → Result WireAnswer ServiceError
unprepared seen (prepare_error.Late base horizon) = answer seen (given.Late base horizon)
unprepared seen (prepare_error.Clash x) = answer seen (given.Clash x)
unprepared seen prepare_error.Fault = Err error.StoreFault
unprepared seen prepare_error.NoMemory = Err error.NoMemory

-- of a preparing: the front is kept, unless there is no memory for it
abbrev pub KeepsFront : Service → List Based → Result Prepared PrepareError → ℕ → Result WireAnswer ServiceError → Service → Type 0
KeepsFront s observed (Ok p) seen (Ok w) t =
    (w ≡ record { seen = seen; given = given.Front p.front }) × (t ≡ with_front s p.shard observed p.front)
KeepsFront s observed (Ok p) seen (Err e) t = (e ≡ error.NoMemory) × (t ≡ s)
KeepsFront s observed (Err x) seen result t = (result ≡ unprepared seen x) × (t ≡ s)

-- of an append
abbrev pub settled : ℕ → Result ℕ AppendError → Result WireAnswer ServiceError
settled seen (Ok n) = answer seen (given.Number n)
settled seen (Err (append_error.Clash x)) = answer seen (given.Clash x)
settled seen (Err (append_error.Held barred)) = answer seen (given.Held barred.client barred.at)
settled seen (Err (append_error.Full limit)) = answer seen (given.Full limit)
settled seen (Err append_error.Disk) = answer seen given.Disk
settled seen (Err append_error.Fault) = Err error.StoreFault
settled seen (Err append_error.NoMemory) = Err error.NoMemory

-- the seq behind it
abbrev pub seq_behind : ℕ → ℕ → Result ℕ AppendError → ℕ
seq_behind seq next (Ok n) = next
seq_behind seq next (Err e) = seq

-- nothing is kept behind it
abbrev pub ended : Service → ℕ → Result ℕ AppendError → Service
ended s next result = emptied s (seq_behind s.seq next result)

-- the bytes of an answer, which are read again as it by whoever made a request that it is an answer to; or why there is none
abbrev pub Spells : Result WireAnswer ServiceError → Result (List ℕ) ServiceError → Type 0
Spells (Ok w) (Ok bytes) = (bytes ≡ answer_bytes w) × ((r : Request) → IsAnswerTo r w → answer_in r bytes ≡ Some w)
Spells (Ok w) (Err e) = e ≡ error.NoMemory
Spells (Err x) (Ok bytes) = ⊥
Spells (Err x) (Err e) = e ≡ x
