-- What a request does to a client that has it answered.
use Rattle.std.specs.Prelude.{◌≡◌, true, false, [], Result, Ok, Err, IfOk, refl}
use Rattle.std.specs.declared.alloc.AllocError.{AllocError}
use Rattle.docc_prepare.specs.declared.backend.StoreError.{StoreError}
use Rattle.docc_prepare.specs.declared.backend.StoreError.TheVariants as store_error
use Rattle.docc_prepare.specs.Calls.{Known, Call, Answer, store_failed}
use Rattle.docc_prepare.specs.Backends.{CanCall, Goes}
use Rattle.remote_wire.specs.declared.request.Request.{Request}
use Rattle.remote_wire.specs.declared.request.Request.TheVariants as request
use Rattle.remote_wire.specs.declared.answer.Given.{Given}
use Rattle.remote_wire.specs.declared.answer.Given.TheVariants as given
use Rattle.remote_wire.specs.declared.answer.WireAnswer.{WireAnswer}
use Rattle.remote_calls.specs.Spelled.{request_for, answered_by}
use Rattle.remote_calls.specs.Calling.{Doing}
use Rattle.remote_client.specs.Standing.{Standing, stood_for, Steps}

-- what comes of a request: what its answer says, or that it has failed
abbrev pub outcome_of : Request → Result WireAnswer StoreError → Answer
outcome_of asked (Ok answer) = answered_by asked answer.seen answer.given
outcome_of asked (Err e) = store_failed e

-- that it was done, where that is given
abbrev pub done_given : Given → Answer
done_given given.Done = Answer.done
done_given g = Answer.failed true

-- what comes of a request that only asks to be done
abbrev pub done_outcome : Result WireAnswer StoreError → Answer
done_outcome (Ok answer) = done_given answer.given
done_outcome (Err e) = store_failed e

-- WHAT A REQUEST DOES, if there was memory for it: each call that may be made and that it spells goes by its answer.
abbrev pub Asks : {C : Type 0} → (C → Known) → (C → Call → Answer → C → Type 0) → Doing C → Standing C
    → Result Request AllocError → Result WireAnswer StoreError → Standing C → Type 0
Asks known goes does r asked result s =
    (c : Call) → CanCall (stood_for known r) c → IfOk asked (λ q. q ≡ request_for c)
    → Goes (stood_for known) (Steps goes does) r c (outcome_of (request_for c) result) s

-- ---- worked lines

-- a commit's number is the answer to an append, and nothing else that is given says so
outcome-example : (bases : _) → outcome_of (request.Append 1 [] bases) (Ok (record { seen = 7; given = given.Number 7 })) ≡ Answer.number 7
outcome-example bases = refl

want-example : outcome_of request.Take (Err store_error.NoMemory) ≡ Answer.failed false
want-example = refl
