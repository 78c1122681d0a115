-- WHAT A REQUEST MEANS to a service: a greeting, the one call of the backend that it stands for, or nothing, where it is malformed.
use Rattle.std.specs.Prelude.{◌≡◌, ℕ, Bool, false, ◌&&◌, ◌==◌, nat_le, nat_lt, if◌then◌else◌, List, [], ◌∷◌, length, Option, Some, None, refl}
use Rattle.std.specs.List.{list_all}
use Rattle.rdt_types.specs.declared.address.Address.{Address}
use Rattle.rdt_types.specs.contracts.address.KindPartialEq.TheImpl as kinds
use Rattle.rdt_types.specs.Shards.{shard_of}
use Rattle.conflict_table.specs.Observing.{kind_observed}
use Rattle.abort_witness.specs.declared.witness.Based.{Based}
use Rattle.txn_lang.specs.declared.limits.TheConstants.{TEXT_LIMIT}
use Rattle.txn_lang.specs.Short.{text_in}
use Rattle.journal_core.specs.declared.ready.Ready.{Ready}
use Rattle.docc_prepare.specs.Calls.{Known, Call}
use Rattle.remote_wire.specs.declared.request.Base.{Base}
use Rattle.remote_wire.specs.declared.request.Request.{Request}
use Rattle.remote_wire.specs.declared.request.Request.TheVariants as request
use Rattle.remote_wire.specs.Requests.{request_in}
use Rattle.remote_service.specs.declared.kept.KeptSnap.{KeptSnap}
use Rattle.remote_service.specs.declared.service.Service.{Service}
use Rattle.remote_service.specs.Keeping.{was_given}
use Rattle.remote_service.specs.Anew.{made_anew}

-- what a request means
pub data Meaning : Type 0 where
  greeting : Meaning
  calling : Call → Meaning
  malformed : Meaning

-- a call, where it may be made
abbrev pub if_so : Bool → Call → Meaning
if_so so call = if so then Meaning.calling call else Meaning.malformed

-- ---- texts

-- whether a key has at most 1,024 bytes
abbrev pub is_short : Address → Bool
is_short address = nat_le (length address.key) TEXT_LIMIT

-- whether the key and the text of an observation have
abbrev pub are_short : Based → Bool
are_short b = is_short b.address && nat_le (length (text_in b.obs)) TEXT_LIMIT

-- ---- a preparing

-- whether an observation is of its address' kind
abbrev pub is_of_its_kind : Based → Bool
is_of_its_kind b = kinds.ghosts.eq (kind_observed b.obs) b.address.kind

-- whether an observation may be validated: it is of an address of the shard and of its kind, no text of it is too long, and its
-- base is among those that are kept
abbrev pub is_valid : List KeptSnap → ℕ → ℕ → Based → Bool
is_valid kept shards shard b =
    (shard_of b.address shards == shard) && (is_of_its_kind b && (are_short b && was_given kept b.address b.base))

-- whether each may
abbrev pub are_valid : List KeptSnap → ℕ → ℕ → List Based → Bool
are_valid kept shards shard observed = list_all (is_valid kept shards shard) observed

-- whether there are so few that four bytes tell how many, as they do in a request
abbrev pub are_few : List Based → Bool
are_few observed = nat_lt (length observed) 4294967296

-- whether a shard may be prepared with these observations: there is one of that number, and each may be validated
abbrev pub can_prepare : List KeptSnap → ℕ → ℕ → List Based → Bool
can_prepare kept shards shard observed =
    nat_lt shard shards && (are_few observed && are_valid kept shards shard observed)

-- ---- an append

-- what is appended, if something is handed on
abbrev pub appending : Option Ready → Meaning
appending None = Meaning.malformed
appending (Some ready) = Meaning.calling (Call.append ready)

-- an append whose number is the client's next
abbrev pub appended : Service → Known → ℕ → List ℕ → List Base → Meaning
appended s k seq body named =
    if seq == s.seq then appending (made_anew s k.client k.shards body named) else Meaning.malformed

-- ---- all requests, a line a request

abbrev pub meaning : Service → Known → Request → Meaning
meaning s k request.Hello = Meaning.greeting
meaning s k request.Refresh = Meaning.calling Call.refresh
meaning s k (request.Read address) = if_so (is_short address) (Call.read address)
meaning s k (request.Prepare shard observed) = if_so (can_prepare s.snaps k.shards shard observed) (Call.prepare shard observed)
meaning s k (request.Append seq body named) = appended s k seq body named
meaning s k (request.ReadAt address number) = if_so (is_short address && nat_le number k.seen) (Call.read_at address number)
meaning s k (request.Subscribe address) = if_so (is_short address) (Call.subscribe address)
meaning s k (request.Unsubscribe address) = if_so (is_short address) (Call.unsubscribe address)
meaning s k request.Take = Meaning.calling Call.take
meaning s k request.Wait = Meaning.calling Call.wait

-- what a request means, if there is one
abbrev pub meaning_if : Service → Known → Option Request → Meaning
meaning_if s k None = Meaning.malformed
meaning_if s k (Some asked) = meaning s k asked

-- what bytes mean: those that are no request are malformed, too
abbrev pub meaning_in : Service → Known → List ℕ → Meaning
meaning_in s k bytes = meaning_if s k (request_in bytes)

-- THE BYTES ARE MALFORMED, for what the service keeps, and for the shards and the number seen of its backend.
abbrev pub IsMalformed : Service → Known → List ℕ → Type 0
IsMalformed s k bytes = meaning_in s k bytes ≡ Meaning.malformed

-- ---- worked lines

-- a byte 99 is no request
no_request : (s : Service) (k : Known) → IsMalformed s k (99 ∷ [])
unfolding Rattle.remote_wire.specs.Requests.request_at Rattle.record_code.specs.Fields.tag_at
no_request s k = refl

-- there is no shard 4 of 4
no_shard : (s : Service) → can_prepare s.snaps 4 4 [] ≡ false
no_shard s = refl
