-- What a backend stands for, the calls that a client makes of it, and its answers.
use Rattle.std.specs.Prelude.{◌≡◌, ℕ, Bool, true, false, List, Option, Result, Ok, Err, refl}
use Rattle.rdt_types.specs.declared.address.Address.{Address}
use Rattle.rdt_types.specs.declared.value.Value.{Value}
use Rattle.change_feed.specs.Feeds.{Fed}
use Rattle.abort_witness.specs.declared.witness.Based.{Based}
use Rattle.abort_witness.specs.declared.witness.Witness.{Witness}
use Rattle.txn_lang.specs.declared.snaps.Snap.{Snap}
use Rattle.txn_lang.specs.States.{Journal}
use Rattle.journal_core.specs.declared.ready.Ready.{Ready}
use Rattle.version_shard.specs.declared.prepared.Prepared.{Prepared}
use Rattle.docc_prepare.specs.declared.backend.StoreError.{StoreError}
use Rattle.docc_prepare.specs.declared.backend.StoreError.TheVariants as store_error
use Rattle.docc_prepare.specs.declared.backend.PrepareError.{PrepareError}
use Rattle.docc_prepare.specs.declared.backend.PrepareError.TheVariants as prepare_error
use Rattle.docc_prepare.specs.declared.backend.AppendError.{AppendError}
use Rattle.docc_prepare.specs.declared.backend.AppendError.TheVariants as append_error
use Rattle.docc_prepare.specs.declared.backend.ReadAtError.{ReadAtError}
use Rattle.docc_prepare.specs.declared.backend.ReadAtError.TheVariants as read_at_error

-- One client of a store, and what it knows of the store and of the store's one journal.
pub record Known : Type 0 where
  pub journal : Option Journal  -- the journal as far as it is known, or None where the backend doesn't tell it
  pub trusted : ℕ  -- how many commits the store was made with: nobody ran these again
  pub client : ℕ
  pub seen : ℕ  -- how many commits the client has seen
  pub shards : ℕ
  pub window : ℕ
  pub limit : ℕ
  pub subscribed : Address → Bool  -- whether changes at an address are told
  pub taken : ℕ  -- up to which commit changes were taken
  pub denied : ℕ  -- how many of the client's commits the disk denied
  pub denials : ℕ  -- of how many denials in the whole store it knows
  pub draws : ℕ  -- of how many drawn client numbers it knows
  pub looks : ℕ  -- how often it has looked at the journal's length
  pub faults : ℕ  -- how often the store failed
  pub gave : Address → ℕ → Bool  -- whether it gave a base for an address
  pub fronted : ℕ → List Based → ℕ → Bool  -- whether it gave a shard a front for observations with their bases

-- the calls of a client, as data
pub data Call : Type 0 where
  refresh : Call
  read : Address → Call
  prepare : ℕ → List Based → Call
  append : Ready → Call
  read_at : Address → ℕ → Call
  subscribe : Address → Call
  unsubscribe : Address → Call
  take : Call
  wait : Call

-- their answers, as data
pub data Answer : Type 0 where
  -- how many commits there are, or the number of the commit that was made
  number : ℕ → Answer
  snap : Snap → Answer
  prepared : Prepared → Answer
  value : Value → Answer
  feed : Fed → Answer
  done : Answer
  late : ℕ → ℕ → Answer
  clash : Witness → Answer
  -- the live hold of another client bars, whose client and number these are
  held : ℕ → ℕ → Answer
  full : ℕ → Answer
  disk : Answer
  -- by a fault of the store (true), or for want of memory (false)
  failed : Bool → Answer

-- ---- the results of calls, as answers

-- a failed call: true where it failed by a fault
abbrev pub store_failed : StoreError → Answer
store_failed store_error.Fault = Answer.failed true
store_failed store_error.NoMemory = Answer.failed false

-- what the code answers of a number, as an answer
abbrev pub number_answered : Result ℕ StoreError → Answer
number_answered (Ok n) = Answer.number n
number_answered (Err e) = store_failed e

-- the same of a value with its base
abbrev pub snap_answered : Result Snap StoreError → Answer
snap_answered (Ok s) = Answer.snap s
snap_answered (Err e) = store_failed e

-- the same of a call that gives nothing
abbrev pub done_answered : Result (Unit {0}) StoreError → Answer
done_answered (Ok u) = Answer.done
done_answered (Err e) = store_failed e

-- the same of a feed
abbrev pub feed_answered : Result Fed StoreError → Answer
feed_answered (Ok f) = Answer.feed f
feed_answered (Err e) = store_failed e

-- the same of a preparing
abbrev pub front_answered : Result Prepared PrepareError → Answer
front_answered (Ok p) = Answer.prepared p
front_answered (Err (prepare_error.Late base horizon)) = Answer.late base horizon
front_answered (Err (prepare_error.Clash w)) = Answer.clash w
front_answered (Err prepare_error.Fault) = Answer.failed true
front_answered (Err prepare_error.NoMemory) = Answer.failed false

-- the same of an append
abbrev pub commit_answered : Result ℕ AppendError → Answer
commit_answered (Ok n) = Answer.number n
commit_answered (Err (append_error.Clash w)) = Answer.clash w
commit_answered (Err (append_error.Held barred)) = Answer.held barred.client barred.at
commit_answered (Err (append_error.Full limit)) = Answer.full limit
commit_answered (Err append_error.Disk) = Answer.disk
commit_answered (Err append_error.Fault) = Answer.failed true
commit_answered (Err append_error.NoMemory) = Answer.failed false

-- the same of a value at a number
abbrev pub value_answered : Result Value ReadAtError → Answer
value_answered (Ok v) = Answer.value v
value_answered (Err (read_at_error.Late n horizon)) = Answer.late n horizon
value_answered (Err read_at_error.Fault) = Answer.failed true
value_answered (Err read_at_error.NoMemory) = Answer.failed false

-- whether it is a fault of the store, which is counted
abbrev pub is_fault : Answer → Bool
is_fault (Answer.failed by_fault) = by_fault
is_fault answer = false

-- ---- worked lines

want-is-no-fault : is_fault (number_answered (Err store_error.NoMemory)) ≡ false
want-is-no-fault = refl

disk-is-no-fault : is_fault (commit_answered (Err append_error.Disk)) ≡ false
disk-is-no-fault = refl
