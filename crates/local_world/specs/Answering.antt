-- What a world's calls promise: each goes by the step of the store.
use Rattle.std.specs.Prelude.{◌≡◌, ℕ, ◌-◌, nat_lt, if◌then◌else◌, List, take, Result, Ok, Err, None, IsSome, alloc_error, refl}
use Rattle.std.specs.declared.alloc.AllocError.{AllocError}
use Rattle.rdt_types.specs.declared.value.Value.{Value}
use Rattle.rdt_types.specs.declared.address.Address.{Address}
use Rattle.rdt_types.specs.declared.settings.Settings.{Settings}
use Rattle.abort_witness.specs.declared.witness.Based.{Based}
use Rattle.txn_lang.specs.States.{Journal, state}
use Rattle.version_shard.specs.Shards.{Sharded, horizon}
use Rattle.journal_core.specs.Pairs.{least_pair}
use Rattle.version_shard.specs.Validating.{late}
use Rattle.version_shard.specs.declared.at_error.AtError.{AtError}
use Rattle.version_shard.specs.declared.at_error.AtError.TheVariants as at_error
use Rattle.version_shard.specs.declared.prepared.Prepared.{Prepared}
use Rattle.version_shard.specs.declared.prepared.Refusal.{Refusal}
use Rattle.version_shard.specs.declared.prepared.Refusal.TheVariants as refusal
use Rattle.docc_prepare.specs.declared.backend.PrepareError.{PrepareError}
use Rattle.docc_prepare.specs.declared.backend.PrepareError.TheVariants as prepare_error
use Rattle.docc_prepare.specs.declared.backend.ReadAtError.{ReadAtError}
use Rattle.docc_prepare.specs.declared.backend.ReadAtError.TheVariants as read_at_error
use Rattle.docc_prepare.specs.Calls.{Call, Answer, front_answered}
use Rattle.docc_prepare.specs.Backends.{IsAnswered}
use Rattle.docc_prepare.specs.Stores.{Does, IsSound, known_by, least_base, late_base, validated}
use Rattle.docc_prepare.specs.Witnesses.{least_witness}
use Rattle.local_world.specs.Stored.{Stored, store_of}
use Rattle.local_world.specs.Standing.{front_to}

-- A call of a client goes by the step of the store, which is sound, and within what all backends promise.
pub record GoesBy (old : Stored) (client : ℕ) (c : Call) (a : Answer) (new : Stored) : Type 0 where
  pub does : Does (store_of old) client c a (store_of new)
  pub sound : IsSound (store_of old)
  pub answered : IsAnswered (known_by (store_of old) client) c a (known_by (store_of new) client)

-- What a read at a number answers where its shard stands at a front: the value that so many commits leave, or that the number
-- is below the horizon.
abbrev pub back_at : Journal → ℕ → Address → ℕ → ℕ → Answer
back_at journal window address number front =
    if nat_lt number (front - window) then Answer.late number (front - window) else Answer.value (state journal number address)

-- and where it has followed to the number first
abbrev pub back_from : Journal → Settings → List Sharded → Address → ℕ → Answer
back_from journal settings shards address number =
    back_at journal settings.window address number (front_to settings shards address number)

-- What a shard answers of observations, as the store does: by the commits up to its front.
abbrev pub validated_by : Journal → Sharded → List Based → Answer
validated_by journal shard based =
    validated shard.number shard.front (horizon shard) (late_base (horizon shard) (least_base based))
    (least_witness based (take shard.front journal))

-- a preparing is answered as the shard's journal and window say
abbrev pub IsValidatedBy : Journal → Sharded → List Based → Result Prepared PrepareError → Type 0
IsValidatedBy journal shard based answer = front_answered answer ≡ validated_by journal shard based

-- memory was wanted for the witness of a clash: no base is late, and a commit up to the front clashes
abbrev pub WantsWitness : Journal → Sharded → List Based → Type 0
WantsWitness journal shard based = (late shard based ≡ None) × IsSome (least_pair based (take shard.front journal))

-- ---- want of memory, and other refusals

-- what is told of a shard's answer at a number: want of memory apart, and late as late
abbrev pub value_told : Result Value AtError → Result (Result Value ReadAtError) AllocError
value_told (Ok value) = Ok (Ok value)
value_told (Err (at_error.Late number horizon)) = Ok (Err (read_at_error.Late number horizon))
value_told (Err at_error.NoMemory) = Err alloc_error

-- the same of what a shard finds of observations
abbrev pub front_told : Result Prepared Refusal → Result (Result Prepared PrepareError) AllocError
front_told (Ok prepared) = Ok (Ok prepared)
front_told (Err (refusal.Late base horizon)) = Ok (Err (prepare_error.Late base horizon))
front_told (Err (refusal.Clash witness)) = Ok (Err (prepare_error.Clash witness))
front_told (Err refusal.NoMemory) = Err alloc_error

-- a base of 2 below the horizon 3 is told as that, and not as want of memory
late-is-told : front_told (Err (refusal.Late 2 3)) ≡ Ok (Err (prepare_error.Late 2 3))
late-is-told = refl
