-- What the store answers to an append.
use Rattle.std.specs.Prelude.{◌≡◌, ℕ, true, false, Result, Ok, Err, refl}
use Rattle.docc_prepare.specs.Calls.{Answer}
use Rattle.diamond_store.specs.declared.decision.Decision.{Decision}
use Rattle.diamond_store.specs.declared.decision.Decision.TheVariants as decision
use Rattle.diamond_store.specs.declared.answer.StoreAppendError.{StoreAppendError}
use Rattle.diamond_store.specs.declared.answer.StoreAppendError.TheVariants as error

-- the answer to a decision, where the pass knew of some denials and now knows of others
abbrev pub answer_of : Decision → ℕ → ℕ → Result ℕ StoreAppendError
answer_of (decision.Number number) known knows = Ok number
answer_of (decision.Clash witness) known knows = Err (error.Clash witness)
answer_of (decision.Held barred) known knows = Err (error.Held barred)
answer_of (decision.Full limit) known knows = Err (error.Full limit)
answer_of decision.Denied known knows = Err (error.Disk known knows)

-- the store's answer as that of a backend, which doesn't tell the numbers of denials
abbrev pub append_answered : Result ℕ StoreAppendError → Answer
append_answered (Ok number) = Answer.number number
append_answered (Err (error.Clash witness)) = Answer.clash witness
append_answered (Err (error.Held barred)) = Answer.held barred.client barred.at
append_answered (Err (error.Full limit)) = Answer.full limit
append_answered (Err (error.Disk known knows)) = Answer.disk
append_answered (Err error.Fault) = Answer.failed true
append_answered (Err error.NoMemory) = Answer.failed false

-- where the disk denied it, this holds of both numbers
abbrev pub IfDisk : Result ℕ StoreAppendError → (ℕ → ℕ → Type 0) → Type 0
IfDisk (Err (error.Disk known knows)) P = P known knows
IfDisk other P = Unit {0}

-- a denial is an answer of the disk
denied-example : append_answered (answer_of decision.Denied 2 3) ≡ Answer.disk
denied-example = refl
